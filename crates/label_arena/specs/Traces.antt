-- Labels that say how they were reached.
use Rattle.std.specs.Prelude.{◌≡◌, ℕ, ◌+◌, ◌<◌, List, slice_get, Some, MatchOption}
use Rattle.label_arena.specs.declared.place.Place.{Place}
use Rattle.label_arena.specs.declared.place.LabelNo.{LabelNo}
use Rattle.label_arena.specs.declared.place.Label.{Label}
use Rattle.label_arena.specs.declared.place.By.{By}
use Rattle.label_arena.specs.declared.place.By.TheVariants.{Source, Slide, Point, Run as OverRun}
use Rattle.label_arena.specs.Lists.{Graph}
use Rattle.label_arena.specs.Plain.{slide, IsInside, IsPointWay, IsRunWay}

-- a slide between two places of one interval
pub record IsSlide (g : Graph) (u v : Place) (c : ℕ) : Type 0 where
  pub from : IsInside g u
  pub to : IsInside g v
  pub one_interval : u.interval ≡ v.interval
  pub cost : c ≡ slide g u v.coord

-- a slide, and then a way
pub record IsOver (g : Graph) (Way : Place → Place → ℕ → Type 0) (u v : Place) (c : ℕ) : Type 0 where
  pub near : Place
  pub slid : ℕ
  pub crossed : ℕ
  pub slides : IsSlide g u near slid
  pub way : Way near v crossed
  pub sum : c ≡ slid + crossed

-- one of the runs
abbrev pub IsSomeRun : Graph → Place → Place → ℕ → Type 0
IsSomeRun g u v c = (k : ℕ) × IsRunWay g k u v c

-- a slide and then what `by` names lead from u to v
abbrev pub Leads : Graph → By → Place → Place → ℕ → Type 0
Leads g (Source k) u v c = ⊥
Leads g Slide u v c = IsSlide g u v c
Leads g (Point k) u v c = IsOver g (IsPointWay g k) u v c
Leads g OverRun u v c = IsOver g (IsSomeRun g) u v c

abbrev pub IsSource : By → Type 0
IsSource by = (k : ℕ) × (by ≡ Source k)

-- label n is reached from an earlier one
pub record IsFrom (g : Graph) (ls : List Label) (n : ℕ) (x : Label) (origin : LabelNo) : Type 0 where
  pub earlier : origin.0 < n
  pub label : Label
  pub at : slice_get ls origin.0 ≡ Some label
  pub cost : ℕ
  pub leads : Leads g x.by label.place x.place cost
  pub dist : x.dist ≡ label.dist + cost

-- label n is a source, or is reached from an earlier one
abbrev pub IsTraced : Graph → List Label → ℕ → Label → Type 0
IsTraced g ls n x = MatchOption x.origin (IsSource x.by) (IsFrom g ls n x)

abbrev pub AreTraced : Graph → List Label → Type 0
AreTraced g ls = (n : ℕ) (x : Label) → slice_get ls n ≡ Some x → IsTraced g ls n x

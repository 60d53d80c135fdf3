-- The answer of a search, and what its labels say.
use Rattle.std.specs.Prelude.{◌≡◌, ℕ, ◌+◌, ◌≤◌, ◌<◌, List, slice_get, Some, Contains}
use Rattle.label_arena.specs.declared.place.Place.{Place}
use Rattle.label_arena.specs.declared.place.Label.{Label}
use Rattle.label_arena.specs.declared.place.LabelNo.{LabelNo}
use Rattle.label_arena.specs.declared.place.By.TheVariants.{Source}
use Rattle.label_arena.specs.Lists.{Graph}
use Rattle.label_arena.specs.Plain.{slide, Reaches, IsLeast}
use Rattle.label_arena.specs.Marks.{IsMark}
use Rattle.label_arena.specs.Traces.{AreTraced}
use Rattle.interval_label.specs.Task.{Stop}
use Rattle.interval_label.specs.declared.answer.Reached.{Reached}
use Rattle.interval_label.specs.declared.answer.Reached.TheVariants.{Cost, None as Nowhere}

-- the least sum of source cost, walk and target cost, by a label at the target's place
pub record IsFound (g : Graph) (sources targets : List Stop) (ls : List Label) (cost target : ℕ) (label : LabelNo) : Type 0 where
  pub stop : Stop
  pub at : slice_get targets target ≡ Some stop
  pub end : Label
  pub is : slice_get ls label.0 ≡ Some end
  pub here : end.place ≡ stop.0
  pub sum : cost ≡ end.dist + stop.1
  pub least : (t : Stop) (c : ℕ) → Contains targets t → Reaches g sources t.0 c → cost ≤ c + t.1

-- no source is joined to a target
abbrev pub HasNone : Graph → List Stop → List Stop → Type 0
HasNone g sources targets = (t : Stop) (c : ℕ) → Contains targets t → Reaches g sources t.0 c → ⊥

-- the least cost, or none exactly where no source is joined to a target
abbrev pub IsAnswer : Graph → List Stop → List Stop → List Label → Reached → Type 0
IsAnswer g sources targets ls (Cost cost target label) = IsFound g sources targets ls cost target label
IsAnswer g sources targets ls Nowhere = HasNone g sources targets

-- labels stand at different places
abbrev pub AreApart : List Label → Type 0
AreApart ls = (i j : ℕ) (x y : Label) → slice_get ls i ≡ Some x → slice_get ls j ≡ Some y → x.place ≡ y.place → i ≡ j

-- labels stand at different marks, each with its least distance and its origin
pub record AreLeast (g : Graph) (sources targets : List Stop) (ls : List Label) : Type 0 where
  pub marks : (k : ℕ) (x : Label) → slice_get ls k ≡ Some x → IsMark g sources targets x.place
  pub apart : AreApart ls
  pub least : (k : ℕ) (x : Label) → slice_get ls k ≡ Some x → IsLeast g sources x.place x.dist
  pub sources_are : (k j : ℕ) (x : Label) → slice_get ls k ≡ Some x → x.by ≡ Source j → slice_get sources j ≡ Some (x.place, x.dist)
  pub traced : AreTraced g ls

-- a label of the place's own interval has a distance that, with the slide to the place, is c
pub record Explains (g : Graph) (ls : List Label) (v : Place) (c : ℕ) : Type 0 where
  pub number : ℕ
  pub label : Label
  pub is : slice_get ls number ≡ Some label
  pub one_interval : label.place.interval ≡ v.interval
  pub sum : label.dist + slide g label.place v.coord ≡ c

-- each mark whose least distance and bound are below the cost is explained; where none is joined, each mark with a distance
abbrev pub ExplainsMarks : Graph → List Stop → List Stop → (Place → ℕ) → List Label → Reached → Type 0
ExplainsMarks g sources targets b ls (Cost cost target label) = (v : Place) (c : ℕ) → IsMark g sources targets v → IsLeast g sources v c → c + b v < cost → Explains g ls v c
ExplainsMarks g sources targets b ls Nowhere = (v : Place) (c : ℕ) → IsMark g sources targets v → IsLeast g sources v c → Explains g ls v c

-- no label's distance and bound are above the cost
abbrev pub AreBelow : (Place → ℕ) → List Label → Reached → Type 0
AreBelow b ls (Cost cost target label) = (k : ℕ) (x : Label) → slice_get ls k ≡ Some x → x.dist + b x.place ≤ cost
AreBelow b ls Nowhere = Unit {0}

-- What an arena keeps beside its lists.
use Rattle.std.specs.Prelude.{◌≡◌, ℕ, ◌+◌, ◌≤◌, ◌==◌, if◌then◌else◌, true, Bool, List, [], ◌∷◌, length, slice_get, Some}
use Rattle.label_arena.specs.declared.place.Bridge.{Bridge}
use Rattle.label_arena.specs.declared.place.Run.{Run}
use Rattle.label_arena.specs.declared.place.Label.{Label}
use Rattle.label_arena.specs.declared.group.End.{End}
use Rattle.label_arena.specs.declared.group.Group.{Group}
use Rattle.label_arena.specs.Lists.{Graph}
use Rattle.label_arena.specs.Plain.{IsInside, IsJoined}
use Rattle.label_arena.specs.Rows.{AreRows}
use Rattle.label_arena.specs.Groups.{IsGrouped}

-- the ends of bridges, numbered from k on; a bridge with both ends on one interval counts once
abbrev pub ends_of : ℕ → ℕ → ℕ → List End → List End
ends_of a b k es = if a == b then (record { row = a; no = k }) ∷ es else (record { row = a; no = k }) ∷ (record { row = b; no = k }) ∷ es

abbrev pub bridge_ends : ℕ → List Bridge → List End
bridge_ends k [] = []
bridge_ends k (b ∷ bs) = ends_of b.a.interval.0 b.b.interval.0 k (bridge_ends (k + 1) bs)

abbrev pub run_ends : ℕ → List Run → List End
run_ends k [] = []
run_ends k (r ∷ rs) = ends_of r.a.0 r.b.0 k (run_ends (k + 1) rs)

-- each label stands on an interval
abbrev pub AreInside : Graph → List Label → Type 0
AreInside g ls = (k : ℕ) (x : Label) → slice_get ls k ≡ Some x → IsInside g x.place

-- the index tells the bridges and runs of each interval
pub record IsIndexed (g : Graph) (bridges runs : Group) : Type 0 where
  pub bridges_are : IsGrouped bridges (length g.intervals) (bridge_ends 0 g.bridges)
  pub runs_are : IsGrouped runs (length g.intervals) (run_ends 0 g.runs)

-- what holds of every arena
pub record IsKept (g : Graph) (ls : List Label) (rows : List (List ℕ)) (indexed : Bool) (bridges runs : Group) : Type 0 where
  pub joined : IsJoined g
  pub inside : AreInside g ls
  pub wide : length g.intervals ≤ length rows
  pub rows_are : AreRows ls rows
  pub index : indexed ≡ true → IsIndexed g bridges runs

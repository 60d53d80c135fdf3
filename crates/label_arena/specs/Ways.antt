-- Which bridges, runs and labels an interval has.
use Rattle.std.specs.Prelude.{◌≡◌, ◌⊎◌, ℕ, ◌≤ℤ◌, List, slice_get, Some, Option, MatchOption, Contains}
use Rattle.label_arena.specs.declared.place.Place.{Place}
use Rattle.label_arena.specs.declared.place.LabelNo.{LabelNo}
use Rattle.label_arena.specs.declared.place.Label.{Label}
use Rattle.label_arena.specs.declared.place.Bridge.{Bridge}
use Rattle.label_arena.specs.declared.place.Run.{Run}
use Rattle.label_arena.specs.Lists.{Graph}

-- bridge k has an end on interval n
pub record IsBridgeOf (g : Graph) (n k : ℕ) : Type 0 where
  pub bridge : Bridge
  pub at : slice_get g.bridges k ≡ Some bridge
  pub touches : (bridge.a.interval.0 ≡ n) ⊎ (bridge.b.interval.0 ≡ n)

-- run k joins interval n
pub record IsRunOf (g : Graph) (n k : ℕ) : Type 0 where
  pub run : Run
  pub at : slice_get g.runs k ≡ Some run
  pub touches : (run.a.0 ≡ n) ⊎ (run.b.0 ≡ n)

-- exactly the numbers with P
pub record AreExactly (P : ℕ → Type 0) (ks : List ℕ) : Type 0 where
  pub only : (k : ℕ) → Contains ks k → P k
  pub every : (k : ℕ) → P k → Contains ks k

-- label k stands on interval n
pub record IsLabelOf (ls : List Label) (n k : ℕ) (x : Label) : Type 0 where
  pub at : slice_get ls k ≡ Some x
  pub on : x.place.interval.0 ≡ n

-- label k is on the place's interval, at or below it, and no such label is nearer
pub record IsNextBelow (ls : List Label) (p : Place) (k : ℕ) : Type 0 where
  pub label : Label
  pub is : IsLabelOf ls p.interval.0 k label
  pub below : label.place.coord ≤ℤ p.coord
  pub nearest : (j : ℕ) (y : Label) → IsLabelOf ls p.interval.0 j y → y.place.coord ≤ℤ p.coord → y.place.coord ≤ℤ label.place.coord

-- label k is on the place's interval, at or above it, and no such label is nearer
pub record IsNextAbove (ls : List Label) (p : Place) (k : ℕ) : Type 0 where
  pub label : Label
  pub is : IsLabelOf ls p.interval.0 k label
  pub above : p.coord ≤ℤ label.place.coord
  pub nearest : (j : ℕ) (y : Label) → IsLabelOf ls p.interval.0 j y → p.coord ≤ℤ y.place.coord → label.place.coord ≤ℤ y.place.coord

-- the label next to the place from below, or there is none
abbrev pub IsBelow : List Label → Place → Option LabelNo → Type 0
IsBelow ls p o = MatchOption o
    ((j : ℕ) (y : Label) → IsLabelOf ls p.interval.0 j y → y.place.coord ≤ℤ p.coord → ⊥)
    (λ (n : LabelNo). IsNextBelow ls p n.0)

abbrev pub IsAbove : List Label → Place → Option LabelNo → Type 0
IsAbove ls p o = MatchOption o
    ((j : ℕ) (y : Label) → IsLabelOf ls p.interval.0 j y → p.coord ≤ℤ y.place.coord → ⊥)
    (λ (n : LabelNo). IsNextAbove ls p n.0)

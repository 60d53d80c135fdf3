-- The labels of one interval, in the order of their coordinates.
use Rattle.std.specs.Prelude.{◌≡◌, ℕ, ◌<◌, ◌≤◌, ℤ, pos, ◌≤ℤ◌, List, [], map, length, slice_get, slice_index, Some, option_map, unwrap_or}
use Rattle.std.specs.Global.{Global}
use Rattle.smallvec.specs.declared.small_vec.SmallVec.{SmallVec}
use Rattle.label_arena.specs.declared.place.Label.{Label}
use Rattle.label_arena.specs.Ways.{IsLabelOf}

-- the numbers in each row
abbrev pub rows_of : List (SmallVec ℕ 2 Global) → List (List ℕ)
rows_of rs = map (λ (r : SmallVec ℕ 2 Global). r.items) rs

-- the numbers in row i
abbrev pub row_at : List (SmallVec ℕ 2 Global) → ℕ → List ℕ
row_at rs i = unwrap_or (slice_get (rows_of rs) i) []

-- where label k stands on its interval
abbrev pub coord_of : List Label → ℕ → ℤ
coord_of ls k = unwrap_or (option_map (λ (x : Label). x.place.coord) (slice_get ls k)) (pos 0)

-- where the label stands whose number is the i-th of the row
abbrev pub coord_at : List Label → List ℕ → ℕ → ℤ
coord_at ls row i = coord_of ls (slice_index row i)

-- numbers of labels, by their coordinates
pub record IsSorted (ls : List Label) (row : List ℕ) : Type 0 where
  pub within : (i : ℕ) → i < length row → slice_index row i < length ls
  pub sorted : (i j : ℕ) → i ≤ j → j < length row → coord_at ls row i ≤ℤ coord_at ls row j

-- the numbers of exactly the labels of interval n, by their coordinates
pub record IsRow (ls : List Label) (n : ℕ) (row : List ℕ) : Type 0 where
  pub order : IsSorted ls row
  pub only : (i : ℕ) → i < length row → (x : Label) × IsLabelOf ls n (slice_index row i) x
  pub every : (k : ℕ) (x : Label) → IsLabelOf ls n k x → (i : ℕ) × (i < length row) × (slice_index row i ≡ k)

abbrev pub AreRows : List Label → List (List ℕ) → Type 0
AreRows ls rows = (n : ℕ) (row : List ℕ) → slice_get rows n ≡ Some row → IsRow ls n row

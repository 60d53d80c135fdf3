-- The marks that a search knows, and the targets by their intervals.
use Rattle.std.specs.Prelude.{◌≡◌, ◌⊎◌, ℕ, ◌<◌, ℤ, ◌≤ℤ◌, Option, MatchOption, Some, List, [], ◌∷◌, ◌++◌, slice_get, unwrap_or, Contains, length}
use Rattle.label_arena.specs.declared.place.Place.{Place}
use Rattle.label_arena.specs.declared.place.Run.{Run}
use Rattle.label_arena.specs.Lists.{Graph}
use Rattle.label_arena.specs.Plain.{factor_at, IsInside}
use Rattle.label_arena.specs.Marks.{IsMark}
use Rattle.label_arena.specs.Ways.{IsRunOf}
use Rattle.interval_label.specs.Task.{Stop}
use Rattle.interval_label.specs.declared.marking.Marking.{Marking}
use Rattle.interval_label.specs.declared.marking.Mark.{Mark}

-- a row for each interval
abbrev pub row_at : {X : Type 0} → List (List X) → ℕ → List X
row_at rows n = unwrap_or (slice_get rows n) []

-- coordinates by intervals
abbrev pub Rows : Type 0
Rows = List (List Mark)

-- the place is in its interval's row
abbrev pub IsListed : Rows → Place → Type 0
IsListed rows v = Contains (row_at rows v.interval.0) (record { coord = v.coord })

-- the rows hold the marks and nothing else
pub record HoldMarks (g : Graph) (sources targets : List Stop) (rows : Rows) : Type 0 where
  pub wide : length rows ≡ length g.intervals
  pub marks : (v : Place) → IsListed rows v → IsMark g sources targets v
  pub inside : (v : Place) → IsListed rows v → IsInside g v
  pub all : (v : Place) → IsMark g sources targets v → IsListed rows v

-- each run joins intervals of one factor
abbrev pub AreEven : Graph → Type 0
AreEven g = (k : ℕ) (run : Run) → slice_get g.runs k ≡ Some run → factor_at g run.a.0 ≡ factor_at g run.b.0

-- the marks are known unless each run joins intervals of one factor
abbrev pub KnowsMarks : Graph → List Stop → List Stop → Option Rows → Type 0
KnowsMarks g sources targets known = MatchOption known (AreEven g) (HoldMarks g sources targets)

-- a known mark
abbrev pub IsKnown : Option Rows → Place → Type 0
IsKnown known v = (rows : Rows) × (known ≡ Some rows) × IsListed rows v

-- a row for each interval, with the numbers of the targets on it
pub record HoldStops (g : Graph) (targets : List Stop) (rows : List (List ℕ)) : Type 0 where
  pub wide : length rows ≡ length g.intervals
  pub only : (n k : ℕ) → Contains (row_at rows n) k → k < length targets
  pub all : (k : ℕ) (t : Stop) → slice_get targets k ≡ Some t → Contains (row_at rows t.0.interval.0) k

-- the known rows are as many as the intervals
abbrev pub IsWide : Graph → Option Rows → Type 0
IsWide g known = (rows : Rows) → known ≡ Some rows → length rows ≡ length g.intervals

-- empty rows
pub record AreEmpty {X : Type 0} (rows : List (List X)) (n : ℕ) : Type 0 where
  pub wide : length rows ≡ n
  pub empty : (k : ℕ) → row_at rows k ≡ []

-- the list has different places of the graph, and the rows have their coordinates
pub record IsMarking (g : Graph) (list : List Place) (rows : Rows) : Type 0 where
  pub wide : length rows ≡ length g.intervals
  pub inside : (k : ℕ) (v : Place) → slice_get list k ≡ Some v → IsInside g v
  pub apart : (i j : ℕ) (v : Place) → slice_get list i ≡ Some v → slice_get list j ≡ Some v → i ≡ j
  pub rows_have : (v : Place) → Contains list v → IsListed rows v
  pub list_has : (v : Place) → IsListed rows v → Contains list v

-- places of this kind are added at the end, and nothing else
pub record Marks (g : Graph) (P : Place → Type 0) (old new : Marking) : Type 0 where
  pub marking : IsMarking g new.list.items new.rows
  pub keeps : (k : ℕ) (v : Place) → slice_get old.list.items k ≡ Some v → slice_get new.list.items k ≡ Some v
  pub only : (v : Place) → Contains new.list.items v → Contains old.list.items v ⊎ P v

-- run k holds the coordinate, and the place is there on one of its intervals
pub record IsAcross (g : Graph) (k : ℕ) (z : ℤ) (v : Place) : Type 0 where
  pub run : Run
  pub at : slice_get g.runs k ≡ Some run
  pub low : run.span.lo ≤ℤ z
  pub high : z ≤ℤ run.span.hi
  pub on : (v.interval ≡ run.a) ⊎ (v.interval ≡ run.b)
  pub coord : v.coord ≡ z

-- a run of u's interval holds its coordinate, and v is there on one of its intervals
abbrev pub IsJoinedTo : Graph → Place → Place → Type 0
IsJoinedTo g u v = (k : ℕ) × IsRunOf g u.interval.0 k × IsAcross g k u.coord v

-- row n has one more item, and the others are as they were
pub record RowGains {X : Type 0} (old new : List (List X)) (n : ℕ) (x : X) : Type 0 where
  pub wide : length new ≡ length old
  pub row : row_at new n ≡ row_at old n ++ x ∷ []
  pub others : (k : ℕ) → (k ≡ n → ⊥) → row_at new k ≡ row_at old k

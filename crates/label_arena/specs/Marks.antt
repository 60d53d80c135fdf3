-- The places at which a search may put a label.
use Rattle.std.specs.Prelude.{◌≡◌, ◌⊎◌, ℕ, zero, suc, List, Contains}
use Rattle.label_arena.specs.declared.place.Place.{Place}
use Rattle.label_arena.specs.Lists.{Graph}
use Rattle.label_arena.specs.Plain.{IsPointWay, IsRunWay}

-- one of these stops is there
abbrev pub IsStop : List (Place × ℕ) → Place → Type 0
IsStop stops v = (c : ℕ) × Contains stops (v, c)

-- an end of a point bridge
abbrev pub IsBridgeEnd : Graph → Place → Type 0
IsBridgeEnd g v = (k : ℕ) × (w : Place) × (c : ℕ) × IsPointWay g k v w c

-- an end of a run's span, on either interval
abbrev pub IsRunEnd : Graph → Place → Type 0
IsRunEnd g v = (k : ℕ) × (w : Place) × (c : ℕ) × (way : IsRunWay g k v w c) × ((v.coord ≡ way.run.span.lo) ⊎ (v.coord ≡ way.run.span.hi))

-- a stop, an end of a bridge or of a run, or a place that a run joins to a mark; n bounds how many runs lie between
abbrev pub IsMarkBy : Graph → List (Place × ℕ) → List (Place × ℕ) → ℕ → Place → Type 0
IsMarkBy g sources targets zero v = IsStop sources v ⊎ IsStop targets v ⊎ IsBridgeEnd g v ⊎ IsRunEnd g v
IsMarkBy g sources targets (suc n) v = IsMarkBy g sources targets n v ⊎ ((k : ℕ) × (w : Place) × (c : ℕ) × IsRunWay g k w v c × IsMarkBy g sources targets n w)

abbrev pub IsMark : Graph → List (Place × ℕ) → List (Place × ℕ) → Place → Type 0
IsMark g sources targets v = (n : ℕ) × IsMarkBy g sources targets n v

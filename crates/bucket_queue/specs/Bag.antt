-- Bags of items with keys.
use Rattle.std.specs.Prelude.{ℕ, ◌≤◌, List, map}
use Rattle.std.specs.List.{AllByRecursion}
use Rattle.std.specs.declared.cmp.Ordering.{Ordering}
use Rattle.std.specs.Ordering.{nat_cmp}
use Rattle.bucket_queue.specs.declared.entry.Entry.{Entry}

-- pairs of a key and an item, in any order, and the floor
pub record Bag (T : Type 0) : Type 0 where
  pub pairs : List (ℕ × T)
  pub floor : ℕ

-- the opposite of the order by key
abbrev pub later : {T : Type 0} → Entry T → Entry T → Ordering
later a b = nat_cmp b.key a.key

abbrev pub pair_of : {T : Type 0} → Entry T → ℕ × T
pair_of e = (e.key, e.item)

abbrev pub pairs_of : {T : Type 0} → List (Entry T) → List (ℕ × T)
pairs_of es = map pair_of es

-- no key is below the floor
abbrev pub AreFrom : {T : Type 0} → ℕ → List (ℕ × T) → Type 0
AreFrom floor ps = AllByRecursion (λ p. floor ≤ p.0) ps

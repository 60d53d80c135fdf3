-- Numbers counted up, and what is made of them.
use Rattle.std.proofs.Common.{◌≡◌, ℕ, ◌+◌, ◌-◌, ◌<◌, suc, List, [], ◌∷◌, ◌++◌, map, arith}
use Rattle.std.specs.List.{range_with_len, flat_map}
use Rattle.std.proofs.lemmas.List.{append_assoc}

pub range_more : (a n : ℕ) → a < n → range_with_len a (n - a) ≡ a ∷ range_with_len (a + 1) (n - (a + 1))
range_more a n h = let e : n - a ≡ suc (n - (a + 1)) = omega arith in rw e

-- one number more
pub map_counted : {X : Type 0} → (f : ℕ → X) (a n : ℕ) (start out more : List X) → a < n → out ++ map f (range_with_len a (n - a)) ≡ start → more ≡ out ++ f a ∷ [] → more ++ map f (range_with_len (a + 1) (n - (a + 1))) ≡ start
map_counted f a n start out more h before step = rw (step, append_assoc) (rw (range_more a n h) at before)

pub pieces_counted : {X : Type 0} → (f : ℕ → List X) (a n : ℕ) (start out more : List X) → a < n → out ++ flat_map f (range_with_len a (n - a)) ≡ start → more ≡ out ++ f a → more ++ flat_map f (range_with_len (a + 1) (n - (a + 1))) ≡ start
pieces_counted f a n start out more h before step = rw (step, append_assoc) (rw (range_more a n h) at before)

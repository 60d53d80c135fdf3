use Rattle.std.proofs.Common.{◌≡◌, ℕ, ◌≤◌, false, List, [], ◌∷◌, All, map, IsPermutation}
use Rattle.std.specs.BinaryHeap.{IsUpperBound}
use Rattle.std.specs.List.{AllByRecursion}
use Rattle.std.proofs.lemmas.List.Elements.{All-from_recursion, recursion_from_All}
use Rattle.std.proofs.lemmas.Map.Keys.{ge_from_not_lt}
use Rattle.std.proofs.lemmas.Map.Views.{All-map-IsPermutation}
use Rattle.bucket_queue.specs.declared.entry.Entry.{Entry}
use Rattle.bucket_queue.specs.Bag.{later, pair_of, pairs_of, AreFrom}

-- no key of the entries is below the key of one that is before them all
pub keys_from : {T : Type 0} (x : Entry T) (es : List (Entry T)) → IsUpperBound later x es → AreFrom x.key (pairs_of es)
keys_from x [] h = tt
keys_from x (e ∷ es) h = (ge_from_not_lt e.key x.key h.0, keys_from x es h.1)

pub keys_all_from : {T : Type 0} (x : Entry T) (es : List (Entry T)) → IsUpperBound later x es → All (λ p. x.key ≤ p.0) (pairs_of es)
keys_all_from x es h = All-from_recursion _ (pairs_of es) (keys_from x es h)

-- one more entry whose key isn't below the floor
pub from_pushed : {T : Type 0} (floor : ℕ) (x : Entry T) (old new : List (Entry T)) → AreFrom floor (pairs_of old) → floor ≤ x.key → IsPermutation (x ∷ old) new → AreFrom floor (pairs_of new)
from_pushed floor x old new h k p =
    recursion_from_All (λ e. floor ≤ e.0) (pairs_of new) (All-map-IsPermutation pair_of (λ e. floor ≤ e.0) (x ∷ old) new p (All-from_recursion (λ e. floor ≤ e.0) (pairs_of (x ∷ old)) (k, h)))

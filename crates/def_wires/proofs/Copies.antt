-- Copies of vias.
use Rattle.std.proofs.Common.{◌≡◌, ℕ, zero, suc, ◌+◌, ◌*◌, ◌^◌, ◌≤◌, ◌<◌, ℤ, pos, ◌+ℤ◌, ◌*ℤ◌, to_z, of_z, w64, refl, lit≤, unsigned_abs, arith, List, [], ◌∷◌, ◌++◌, All}
use Rattle.std.specs.List.{range_with_len, flat_map}
use Rattle.std.proofs.lemmas.Int.{ints, to_z-of_z, unsigned_abs-mul}
use Rattle.std.proofs.lemmas.List.Elements.{All-append, All-nil}
use Rattle.rt_base.specs.Ranges.{IsWithin}
use Rattle.rt_base.proofs.Ranges.{sum_is, within-weaker, fits_from_within, sides_from_within, within_from_sides}

product_most : (a b c d : ℕ) → a ≤ c → b ≤ d → a * b ≤ c * d
product_most a b c d h k = grind (arith)

pub scaled_within : (k : ℕ) (z : ℤ) → k < 2 ^ 30 → IsWithin (2 ^ 30) z → IsWithin (2 ^ 60) (pos k *ℤ z)
scaled_within k z lt h =
    let most : k * unsigned_abs z ≤ 2 ^ 30 * 2 ^ 30 = product_most k (unsigned_abs z) (2 ^ 30) (2 ^ 30) (omega arith) h in
    rw (unsigned_abs-mul (pos k) z) (omega (arith, most))

pub copied_is : (a z : ℤ) (k : ℕ) → IsWithin (2 ^ 30) a → IsWithin (2 ^ 30) z → k < 2 ^ 30 → to_z w64 (of_z w64 (to_z w64 (of_z w64 a) +ℤ to_z w64 (of_z w64 (to_z w64 k *ℤ to_z w64 (of_z w64 z))))) ≡ a +ℤ pos k *ℤ z
copied_is a z k ha hz lt =
    let fz : to_z w64 (of_z w64 z) ≡ z = to_z-of_z w64 z (fits_from_within z (within-weaker (2 ^ 30) (2 ^ 61) z (lit≤ tt) hz)) in
    let fk : to_z w64 k ≡ pos k = omega (arith, ints) in
    rw (fz, fk) (sum_is a a (pos k *ℤ z) refl (within-weaker (2 ^ 30) (2 ^ 61) a (lit≤ tt) ha) (within-weaker (2 ^ 60) (2 ^ 61) (pos k *ℤ z) (lit≤ tt) (scaled_within k z lt hz)))

pub copied_within : (a z : ℤ) (k : ℕ) → IsWithin (2 ^ 30) a → IsWithin (2 ^ 30) z → k < 2 ^ 30 → IsWithin (2 ^ 61) (a +ℤ pos k *ℤ z)
copied_within a z k ha hz lt =
    let s = sides_from_within (2 ^ 30) a ha in
    let t = sides_from_within (2 ^ 60) (pos k *ℤ z) (scaled_within k z lt hz) in
    within_from_sides (2 ^ 61) (a +ℤ pos k *ℤ z) (omega (arith, ints, s.0, s.1, t.0, t.1)) (omega (arith, ints, s.0, s.1, t.0, t.1))

pub all_pieces : {X : Type 0} (P : X → Type 0) (f : ℕ → List X) (a n m : ℕ) → a + n ≤ m → ((k : ℕ) → k < m → All P (f k)) → All P (flat_map f (range_with_len a n))
all_pieces P f a zero m le h = All-nil P
all_pieces P f a (suc n) m le h = All-append P (f a) (flat_map f (range_with_len (a + 1) n)) (h a (omega arith)) (all_pieces P f (a + 1) n m (omega arith) h)

-- Numbers in range, and their sums, differences and hulls.
use Rattle.std.proofs.Common.{◌≡◌, ℕ, ◌+◌, ◌^◌, ◌≤◌, ℤ, pos, negsuc, ◌+ℤ◌, ◌-ℤ◌, ◌≤ℤ◌, unsigned_abs, FitsSigned, to_z, of_z, w64, arith}
use Rattle.std.specs.Int.{int_min, int_max}
use Rattle.std.proofs.lemmas.Int.{ints, clamps, to_z-of_z, fits_signed_from_abs}
use Rattle.rt_base.specs.Sides.{Sides}
use Rattle.rt_base.specs.Geometry.{hull_of}
use Rattle.rt_base.specs.Ranges.{IsWithin, IsPointWithin, AreSidesWithin}
use Rattle.rt_base.specs.declared.geometry.Point.{Point}

-- a number is within a bound where it is between its two sides
pub sides_from_within : (m : ℕ) (z : ℤ) → IsWithin m z → (z ≤ℤ pos m) × (pos 0 ≤ℤ (z +ℤ pos m))
sides_from_within m (pos n) h = (omega (arith, ints), omega (arith, ints))
sides_from_within m (negsuc n) h = (omega (arith, ints), omega (arith, ints))

pub within_from_sides : (m : ℕ) (z : ℤ) → z ≤ℤ pos m → pos 0 ≤ℤ (z +ℤ pos m) → IsWithin m z
within_from_sides m (pos n) high low = omega (arith, ints)
within_from_sides m (negsuc n) high low = omega (arith, ints)

pub within-between : (m : ℕ) (a z b : ℤ) → IsWithin m a → IsWithin m b → a ≤ℤ z → z ≤ℤ b → IsWithin m z
within-between m a z b ha hb low high =
    let la = sides_from_within m a ha in
    let lb = sides_from_within m b hb in
    within_from_sides m z (omega (arith, ints)) (omega (arith, ints))

pub unsigned_abs-diff : (a b : ℤ) (m : ℕ) → IsWithin m a → IsWithin m b → unsigned_abs (a -ℤ b) ≤ m + m
unsigned_abs-diff a b m ha hb =
    let la = sides_from_within m a ha in
    let lb = sides_from_within m b hb in
    within_from_sides (m + m) (a -ℤ b) (omega (arith, ints)) (omega (arith, ints))

pub within-min : (m : ℕ) (a b : ℤ) → IsWithin m a → IsWithin m b → IsWithin m (int_min a b)
within-min m a b ha hb =
    let la = sides_from_within m a ha in
    let lb = sides_from_within m b hb in
    within_from_sides m (int_min a b) (omega (arith, ints, clamps)) (omega (arith, ints, clamps))

pub within-max : (m : ℕ) (a b : ℤ) → IsWithin m a → IsWithin m b → IsWithin m (int_max a b)
within-max m a b ha hb =
    let la = sides_from_within m a ha in
    let lb = sides_from_within m b hb in
    within_from_sides m (int_max a b) (omega (arith, ints, clamps)) (omega (arith, ints, clamps))

pub hull_within : (m : ℕ) (p q : Point) → IsPointWithin m p → IsPointWithin m q → AreSidesWithin m (hull_of p q)
hull_within m p q hp hq = (within-min m p.x q.x hp.0 hq.0, within-min m p.y q.y hp.1 hq.1, within-max m p.x q.x hp.0 hq.0, within-max m p.y q.y hp.1 hq.1)

-- sums and differences of numbers within 2^61 fit
pub fits_from_within : (a : ℤ) → IsWithin (2 ^ 61) a → FitsSigned w64 a
fits_from_within a h = fits_signed_from_abs w64 a (omega arith)

pub sum_within : (a b : ℤ) → IsWithin (2 ^ 61) a → IsWithin (2 ^ 61) b → IsWithin (2 ^ 62) (a +ℤ b)
sum_within a b ha hb =
    let la = sides_from_within (2 ^ 61) a ha in
    let lb = sides_from_within (2 ^ 61) b hb in
    within_from_sides (2 ^ 62) (a +ℤ b) (omega (arith, ints)) (omega (arith, ints))

pub sum_is : (a a' b : ℤ) → a ≡ a' → IsWithin (2 ^ 61) a' → IsWithin (2 ^ 61) b → to_z w64 (of_z w64 (to_z w64 (of_z w64 a) +ℤ to_z w64 (of_z w64 b))) ≡ a' +ℤ b
sum_is a a' b same ha hb =
    let fa : to_z w64 (of_z w64 a') ≡ a' = to_z-of_z w64 a' (fits_from_within a' ha) in
    let fb : to_z w64 (of_z w64 b) ≡ b = to_z-of_z w64 b (fits_from_within b hb) in
    rw (same, fa, fb) (to_z-of_z w64 (a' +ℤ b) (fits_signed_from_abs w64 _ (omega (arith, sum_within a' b ha hb))))

pub diff_is : (a a' b : ℤ) → a ≡ a' → IsWithin (2 ^ 61) a' → IsWithin (2 ^ 61) b → to_z w64 (of_z w64 (to_z w64 (of_z w64 a) -ℤ to_z w64 (of_z w64 b))) ≡ a' -ℤ b
diff_is a a' b same ha hb =
    let fa : to_z w64 (of_z w64 a') ≡ a' = to_z-of_z w64 a' (fits_from_within a' ha) in
    let fb : to_z w64 (of_z w64 b) ≡ b = to_z-of_z w64 b (fits_from_within b hb) in
    rw (same, fa, fb) (to_z-of_z w64 (a' -ℤ b) (fits_signed_from_abs w64 _ (omega (arith, unsigned_abs-diff a' b (2 ^ 61) ha hb))))

pub within-from_range : (m : ℕ) (z : ℤ) → pos 0 ≤ℤ z → z ≤ℤ pos m → IsWithin m z
within-from_range m z low high = within_from_sides m z high (omega (arith, ints))

-- a rectangle that is made larger, or moved, is one still
pub grown_ordered : (l h b : ℤ) → l ≤ℤ h → pos 0 ≤ℤ b → (l -ℤ b) ≤ℤ (h +ℤ b)
grown_ordered l h b le low = omega (arith, ints)

pub moved_ordered : (l h b : ℤ) → l ≤ℤ h → (l +ℤ b) ≤ℤ (h +ℤ b)
moved_ordered l h b le = omega (arith, ints)

pub within-weaker : (m n : ℕ) (z : ℤ) → m ≤ n → IsWithin m z → IsWithin n z
within-weaker m n z le h = omega arith

pub sides-weaker : (m n : ℕ) (s : Sides) → m ≤ n → AreSidesWithin m s → AreSidesWithin n s
sides-weaker m n s le h = (within-weaker m n s.xl le h.0, within-weaker m n s.yl le h.1, within-weaker m n s.xh le h.2, within-weaker m n s.yh le h.3)

pub point-weaker : (m n : ℕ) (p : Point) → m ≤ n → IsPointWithin m p → IsPointWithin n p
point-weaker m n p le h = (within-weaker m n p.x le h.0, within-weaker m n p.y le h.1)

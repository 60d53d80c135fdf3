-- Ranges round 0 and the places of cuts in them.
use Rattle.std.proofs.Common.{◌≡◌, ℕ, ◌+◌, ◌-◌, ◌*◌, ◌/◌, ◌^◌, ◌<◌, ◌≤◌, ℤ, pos, ◌+ℤ◌, ◌-ℤ◌, ◌≤ℤ◌, arith}
use Rattle.std.proofs.lemmas.Int.{ints}
use Rattle.std.proofs.lemmas.Nat.{mul-le, row_fits}
use Rattle.rt_base.specs.Ranges.{IsWithin}
use Rattle.rt_base.proofs.Ranges.{sides_from_within, within_from_sides}
use Rattle.rt_shapes.specs.GeneratedVias.{low_end}

pub low_end_is : (w : ℕ) → low_end w ≡ pos 0 -ℤ pos (w / 2)
low_end_is w = omega (arith, ints)

pub low_end_sides : (w : ℕ) → w ≤ 2 ^ 61 → (low_end w ≤ℤ pos 0) × (pos 0 ≤ℤ (low_end w +ℤ pos (2 ^ 60)))
low_end_sides w h = (omega (arith, ints), omega (arith, ints))

pub high_end_sides : (w : ℕ) → w ≤ 2 ^ 61 → ((low_end w +ℤ pos w) ≤ℤ pos (2 ^ 60)) × (pos 0 ≤ℤ (low_end w +ℤ pos w))
high_end_sides w h = (omega (arith, ints), omega (arith, ints))

-- a cut ends where all cuts end, or before
pub cut_ends : (count k size gap : ℕ) → k < count → k * (size + gap) + size ≤ count * size + (count - 1) * gap
cut_ends count k size gap h =
    let rows : k * size + size ≤ count * size = row_fits k size count size h (omega arith) in
    let gaps : k * gap ≤ (count - 1) * gap = mul-le k gap (count - 1) gap (omega arith) (omega arith) in
    omega arith

pub high_sides : (w : ℕ) (z : ℤ) → w ≤ 2 ^ 61 → z ≡ low_end w → ((z +ℤ pos w) ≤ℤ pos (2 ^ 60)) × (pos 0 ≤ℤ (z +ℤ pos w))
high_sides w z h is = rw is (high_end_sides w h)

pub grown_within : (a b : ℤ) → IsWithin (2 ^ 60) a → pos 0 ≤ℤ b → b ≤ℤ pos (2 ^ 30) → IsWithin (2 ^ 60 + 2 ^ 30) (a +ℤ b)
grown_within a b ha low high =
    let la = sides_from_within (2 ^ 60) a ha in
    within_from_sides (2 ^ 60 + 2 ^ 30) (a +ℤ b) (omega (arith, ints)) (omega (arith, ints))

pub shrunk_within : (a b : ℤ) → IsWithin (2 ^ 60) a → pos 0 ≤ℤ b → b ≤ℤ pos (2 ^ 30) → IsWithin (2 ^ 60 + 2 ^ 30) (a -ℤ b)
shrunk_within a b ha low high =
    let la = sides_from_within (2 ^ 60) a ha in
    within_from_sides (2 ^ 60 + 2 ^ 30) (a -ℤ b) (omega (arith, ints)) (omega (arith, ints))

pub small_within : (b : ℤ) → pos 0 ≤ℤ b → b ≤ℤ pos (2 ^ 30) → IsWithin (2 ^ 61) b
small_within b low high = within_from_sides (2 ^ 61) b (omega (arith, ints)) (omega (arith, ints))

pub wide_within : (a : ℤ) → IsWithin (2 ^ 60) a → IsWithin (2 ^ 61) a
wide_within a h = omega arith

pub place_within : (w k size : ℕ) (z : ℤ) → w ≤ 2 ^ 61 → z ≡ low_end w → k + size ≤ w → IsWithin (2 ^ 60) (z +ℤ pos k)
place_within w k size z h is within =
    let low = low_end_sides w h in
    let high = high_end_sides w h in
    rw is (within_from_sides (2 ^ 60) (low_end w +ℤ pos k) (omega (arith, ints)) (omega (arith, ints)))

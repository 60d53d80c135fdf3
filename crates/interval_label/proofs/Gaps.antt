use Rattle.std.proofs.Common.{◌≡◌, ℕ, ◌+◌, ◌*◌, ◌≤◌, ℤ, pos, ◌+ℤ◌, ◌≤ℤ◌, arith}
use Rattle.std.proofs.lemmas.Int.{ints}
use Rattle.std.proofs.Math.Nat.{mul-le-mul_left}
use Rattle.label_arena.specs.Plain.{gap}
use Rattle.interval_label.specs.Search.{clamped}

pub gap_same : (x : ℤ) → gap x x ≡ 0
gap_same x = omega (arith, ints)

pub gap_sym : (x y : ℤ) → gap x y ≡ gap y x
gap_sym x y = omega (arith, ints)

pub gap_triangle : (x y z : ℤ) → gap x z ≤ gap x y + gap y z
gap_triangle x y z = omega (arith, ints)

pub gap_between : (x y z : ℤ) → x ≤ℤ y → y ≤ℤ z → gap x z ≡ gap x y + gap y z
gap_between x y z h k = omega (arith, ints)

-- the same with a factor before
pub far_triangle : (f : ℕ) (x y z : ℤ) → f * gap x z ≤ f * gap x y + f * gap y z
far_triangle f x y z = omega (arith, mul-le-mul_left f (gap_triangle x y z))

pub far_up : (n : ℕ) (x y : ℤ) → x ≤ℤ y → gap x y ≡ n → y ≡ x +ℤ pos n
far_up n x y h e = omega (arith, ints)

-- a coordinate of a span lies beyond the one next to x
pub gap_clamped : (low high x y : ℤ) → low ≤ℤ y → y ≤ℤ high → gap x y ≡ gap x (clamped low high x) + gap (clamped low high x) y
gap_clamped low high x y h k = grind (arith, ints)

pub clamped_low : (low high x : ℤ) → low ≤ℤ high → low ≤ℤ clamped low high x
clamped_low low high x h = grind (arith, ints)

pub clamped_high : (low high x : ℤ) → low ≤ℤ high → clamped low high x ≤ℤ high
clamped_high low high x h = grind (arith, ints)

use Rattle.std.proofs.Common.{◌*◌, ◌<◌, ◌≤◌, ◌^◌, ◌-◌, ℕ, Fits, arith}
use Rattle.std.specs.Int.{w128}
use Rattle.std.proofs.Math.Nat.{mul-le-mul}
use Rattle.build.proofs.limits.check_sizes.Goals as goal

product_fits : (a b : ℕ) → a < 2 ^ 64 → b < 2 ^ 64 → Fits w128 (a * b)
product_fits a b la lb =
    let one : a ≤ 2 ^ 64 - 1 = omega arith in
    let two : b ≤ 2 ^ 64 - 1 = omega arith in
    let most : a * b ≤ (2 ^ 64 - 1) * (2 ^ 64 - 1) = mul-le-mul one two in
    omega (arith, most)

pub overflow_mul-tiles : goal.overflow_mul-tiles
overflow_mul-tiles c = product_fits _ _ (omega arith) (omega arith)

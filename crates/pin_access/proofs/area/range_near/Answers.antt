use Rattle.std.proofs.Common.{◌≡◌, pos, ◌+ℤ◌, ◌-ℤ◌, to_z, of_z, w64, arith}
use Rattle.std.specs.Int.{int_min, int_max}
use Rattle.std.proofs.lemmas.Int.{ints, clamps}
use Rattle.pin_access.proofs.area.range_near.Goals as goal

pub returns : goal.returns
returns c =
    let lo : to_z w64 (of_z w64 c.max.result) ≡ int_max c.args.die_lo (c.args.lo -ℤ pos c.args.reach) = omega (arith, ints, clamps) in
    let hi : to_z w64 (of_z w64 c.min.result) ≡ int_min c.args.die_hi (c.args.hi +ℤ pos c.args.reach) = omega (arith, ints, clamps) in
    rw (lo, hi)

use Rattle.std.proofs.Common.{◌≡◌, ◌∙◌, ℤ, ◌-ℤ◌, unsigned_abs, to_z, of_z, w64, rules, ap, arith}
use Rattle.std.specs.Int.{int_min, int_max}
use Rattle.std.proofs.lemmas.Int.{ints, clamps, to_z-of_z}
use Rattle.rt_base.specs.Geometry.{nearest}
use Rattle.pin_access.proofs.bands.beyond.Goals as goal

flip : (lo hi z : ℤ) → int_max lo (int_min z hi) ≡ nearest lo hi z
flip lo hi z = omega (arith, ints, clamps)

pub returns : goal.returns
returns c =
    let r = c.args.range.now in
    let z : to_z w64 (of_z w64 c.args.z) ≡ c.args.z = to_z-of_z w64 _ c.ranges.z in
    let lo : to_z w64 (of_z w64 c.args.range.now.lo) ≡ c.args.range.now.lo = to_z-of_z w64 _ (search rules) in
    let hi : to_z w64 (of_z w64 c.args.range.now.hi) ≡ c.args.range.now.hi = to_z-of_z w64 _ (search rules) in
    let near : to_z w64 (of_z w64 c.clamp.result) ≡ c.clamp.result = to_z-of_z w64 _ (search rules) in
    let is : c.clamp.result ≡ nearest c.args.range.now.lo c.args.range.now.hi c.args.z =
    let v = rw (lo, hi, z) at c.clamp.ensures.value in v ∙ flip c.args.range.now.lo c.args.range.now.hi c.args.z in
    c.abs_diff.ensures ∙ rw (near, z) (ap (λ (n : ℤ). unsigned_abs (n -ℤ c.args.z)) is)

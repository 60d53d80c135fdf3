use Rattle.std.proofs.Common.{◌≡◌, refl, pos, ◌≤ℤ◌, to_z, of_z, w64, rules, arith}
use Rattle.std.proofs.lemmas.Int.{ints, to_z-of_z}
use Rattle.rt_base.proofs.Ranges.{sum_is}
use Rattle.rt_shapes.specs.GeneratedVias.{extent, place_of}
use Rattle.rt_shapes.proofs.CutLemmas.{grown_within, small_within, wide_within}
use Rattle.rt_shapes.proofs.cut_array.range_at.Goals as goal

pub returns-clause-exact : goal.returns-clause-exact
returns-clause-exact c =
    let count : to_z w64 (of_z w64 c.args.count) ≡ c.args.count = to_z-of_z w64 _ c.ranges.count in
    let size : to_z w64 (of_z w64 c.args.size) ≡ c.args.size = to_z-of_z w64 _ c.ranges.size in
    let gap : to_z w64 (of_z w64 c.args.gap) ≡ c.args.gap = to_z-of_z w64 _ c.ranges.gap in
    let low : pos 0 ≤ℤ c.args.size = omega (arith, ints) in
    let hi = sum_is c.place-lo.result c.place-lo.result c.args.size refl (wide_within c.place-lo.result c.place-lo.ensures.within) (small_within c.args.size low c.requires.size.1) in
    let lo : to_z w64 (of_z w64 c.place-lo.result) ≡ c.place-lo.result = to_z-of_z w64 _ (search rules) in
    let place : c.place-lo.result ≡ place_of (extent c.args.count c.args.size c.args.gap) c.args.k c.args.size c.args.gap = rw (count, size, gap) at c.place-lo.ensures.exact in
    rw (hi, lo, place)

pub returns-clause-hi : goal.returns-clause-hi
returns-clause-hi c =
    let low : pos 0 ≤ℤ c.args.size = omega (arith, ints) in
    let hi = sum_is c.place-lo.result c.place-lo.result c.args.size refl (wide_within c.place-lo.result c.place-lo.ensures.within) (small_within c.args.size low c.requires.size.1) in
    rw hi (grown_within c.place-lo.result c.args.size c.place-lo.ensures.within low c.requires.size.1)

pub returns-clause-ordered : goal.returns-clause-ordered
returns-clause-ordered c =
    let low : pos 0 ≤ℤ c.args.size = omega (arith, ints) in
    let hi = sum_is c.place-lo.result c.place-lo.result c.args.size refl (wide_within c.place-lo.result c.place-lo.ensures.within) (small_within c.args.size low c.requires.size.1) in
    let lo : to_z w64 (of_z w64 c.place-lo.result) ≡ c.place-lo.result = to_z-of_z w64 _ (search rules) in
    rw (hi, lo) (omega (arith, ints))

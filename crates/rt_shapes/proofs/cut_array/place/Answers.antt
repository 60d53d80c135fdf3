use Rattle.std.proofs.Common.{◌≡◌, ◌+◌, ◌*◌, ◌≤◌, pos, ◌+ℤ◌, unsigned_abs, to_z, of_z, w64, arith}
use Rattle.std.proofs.lemmas.Int.{ints, to_z-of_z}
use Rattle.rt_shapes.specs.GeneratedVias.{extent, low_end}
use Rattle.rt_shapes.proofs.CutLemmas.{place_within}
use Rattle.rt_shapes.proofs.cut_array.place.Goals as goal

pub returns-clause-exact : goal.returns-clause-exact
returns-clause-exact c =
    let count : to_z w64 (of_z w64 c.args.count) ≡ c.args.count = to_z-of_z w64 _ c.ranges.count in
    let size : to_z w64 (of_z w64 c.args.size) ≡ c.args.size = to_z-of_z w64 _ c.ranges.size in
    let gap : to_z w64 (of_z w64 c.args.gap) ≡ c.args.gap = to_z-of_z w64 _ c.ranges.gap in
    let len : c.extent-len.result ≡ extent c.args.count c.args.size c.args.gap = rw (count, size, gap) at c.extent-len.ensures.exact in
    let far : c.offset.result ≡ c.args.k * (unsigned_abs c.args.size + unsigned_abs c.args.gap) = rw (size, gap) at c.offset.ensures.exact in
    let low : c.low_end.result ≡ low_end (extent c.args.count c.args.size c.args.gap) = rw len at c.low_end.ensures.exact in
    let sum : to_z w64 (of_z w64 (to_z w64 (of_z w64 c.low_end.result) +ℤ to_z w64 c.offset.result)) ≡ c.low_end.result +ℤ pos c.offset.result = omega (arith, ints, c.low_end.ensures.within, c.low_end.ensures.below, c.offset.ensures.within, c.extent-len.ensures.most, len, count, size, gap) in
    rw (sum, low, far)

pub returns-clause-within : goal.returns-clause-within
returns-clause-within c =
    let reach : c.offset.result + unsigned_abs (to_z w64 (of_z w64 c.args.size)) ≤ c.extent-len.result = rw (← c.extent-len.ensures.exact) at c.offset.ensures.within in
    let sum : to_z w64 (of_z w64 (to_z w64 (of_z w64 c.low_end.result) +ℤ to_z w64 c.offset.result)) ≡ c.low_end.result +ℤ pos c.offset.result = omega (arith, ints, c.low_end.ensures.within, c.low_end.ensures.below, reach, c.extent-len.ensures.most) in
    rw sum (place_within c.extent-len.result c.offset.result (unsigned_abs (to_z w64 (of_z w64 c.args.size))) c.low_end.result c.extent-len.ensures.most c.low_end.ensures.exact reach)

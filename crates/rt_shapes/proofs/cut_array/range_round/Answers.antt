use Rattle.std.proofs.Common.{◌≡◌, refl, to_z, of_z, w64, arith}
use Rattle.std.proofs.lemmas.Int.{ints, to_z-of_z}
use Rattle.rt_base.proofs.Ranges.{sum_is, diff_is}
use Rattle.rt_shapes.specs.GeneratedVias.{extent, low_end, high_end}
use Rattle.rt_shapes.proofs.CutLemmas.{grown_within, shrunk_within, small_within, wide_within}
use Rattle.rt_shapes.proofs.cut_array.range_round.Goals as goal

pub returns-clause-exact : goal.returns-clause-exact
returns-clause-exact c =
    let count : to_z w64 (of_z w64 c.args.count) ≡ c.args.count = to_z-of_z w64 _ c.ranges.count in
    let size : to_z w64 (of_z w64 c.args.size) ≡ c.args.size = to_z-of_z w64 _ c.ranges.size in
    let gap : to_z w64 (of_z w64 c.args.gap) ≡ c.args.gap = to_z-of_z w64 _ c.ranges.gap in
    let len : c.extent-len.result ≡ extent c.args.count c.args.size c.args.gap = rw (count, size, gap) at c.extent-len.ensures.exact in
    let low : c.low_end-low.result ≡ low_end (extent c.args.count c.args.size c.args.gap) = rw len at c.low_end-low.ensures.exact in
    let high : c.high_end-high.result ≡ high_end (extent c.args.count c.args.size c.args.gap) = rw len at c.high_end-high.ensures.exact in
    let lo = diff_is c.low_end-low.result c.low_end-low.result c.args.by refl (wide_within c.low_end-low.result c.low_end-low.ensures.within) (small_within c.args.by c.requires.by.0 c.requires.by.1) in
    let hi = sum_is c.high_end-high.result c.high_end-high.result c.args.by refl (wide_within c.high_end-high.result c.high_end-high.ensures.within) (small_within c.args.by c.requires.by.0 c.requires.by.1) in
    rw (lo, hi, low, high)

pub returns-clause-lo : goal.returns-clause-lo
returns-clause-lo c =
    let lo = diff_is c.low_end-low.result c.low_end-low.result c.args.by refl (wide_within c.low_end-low.result c.low_end-low.ensures.within) (small_within c.args.by c.requires.by.0 c.requires.by.1) in
    rw lo (shrunk_within c.low_end-low.result c.args.by c.low_end-low.ensures.within c.requires.by.0 c.requires.by.1)

pub returns-clause-hi : goal.returns-clause-hi
returns-clause-hi c =
    let hi = sum_is c.high_end-high.result c.high_end-high.result c.args.by refl (wide_within c.high_end-high.result c.high_end-high.ensures.within) (small_within c.args.by c.requires.by.0 c.requires.by.1) in
    rw hi (grown_within c.high_end-high.result c.args.by c.high_end-high.ensures.within c.requires.by.0 c.requires.by.1)

pub returns-clause-ordered : goal.returns-clause-ordered
returns-clause-ordered c =
    let lo = diff_is c.low_end-low.result c.low_end-low.result c.args.by refl (wide_within c.low_end-low.result c.low_end-low.ensures.within) (small_within c.args.by c.requires.by.0 c.requires.by.1) in
    let hi = sum_is c.high_end-high.result c.high_end-high.result c.args.by refl (wide_within c.high_end-high.result c.high_end-high.ensures.within) (small_within c.args.by c.requires.by.0 c.requires.by.1) in
    rw (lo, hi) (omega (arith, ints))

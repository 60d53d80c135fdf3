use Rattle.std.proofs.Common.{◌≡◌, unsigned_abs, to_z, of_z, w64}
use Rattle.std.proofs.lemmas.Int.{to_z-of_z}
use Rattle.rt_shapes.proofs.CutLemmas.{cut_ends}
use Rattle.rt_shapes.proofs.cut_array.offset.Goals as goal

pub returns-clause-exact : goal.returns-clause-exact
returns-clause-exact c =
    let size : to_z w64 (of_z w64 c.args.size) ≡ c.args.size = to_z-of_z w64 _ c.ranges.size in
    let gap : to_z w64 (of_z w64 c.args.gap) ≡ c.args.gap = to_z-of_z w64 _ c.ranges.gap in
    rw (size, gap)

pub returns-clause-within : goal.returns-clause-within
returns-clause-within c =
    let size : to_z w64 (of_z w64 c.args.size) ≡ c.args.size = to_z-of_z w64 _ c.ranges.size in
    let gap : to_z w64 (of_z w64 c.args.gap) ≡ c.args.gap = to_z-of_z w64 _ c.ranges.gap in
    rw (size, gap) (cut_ends (unsigned_abs c.args.count) c.args.k (unsigned_abs c.args.size) (unsigned_abs c.args.gap) c.requires.k)

use Rattle.std.proofs.Common.{◌≡◌, to_z, of_z, w64}
use Rattle.std.proofs.lemmas.Int.{to_z-of_z}
use Rattle.track_graph.proofs.LineLemmas.{PartsPast, contains_before}
use Rattle.track_graph.proofs.lines.lines_up_to.Goals as goal

pub returns-clause-those : goal.returns-clause-those
returns-clause-those c =
    let most : to_z w64 (of_z w64 c.args.most) ≡ c.args.most = to_z-of_z w64 _ c.ranges.most in
    let parts : PartsPast c.args.lines.now c.args.most c.count_up_to.result = rw most at c.count_up_to.ensures.parts in
    λ z. contains_before c.args.lines.now c.args.most c.count_up_to.result z c.count_up_to.ensures.within parts

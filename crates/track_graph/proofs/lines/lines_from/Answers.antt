use Rattle.std.proofs.Common.{◌≡◌, to_z, of_z, w64}
use Rattle.std.proofs.lemmas.Int.{to_z-of_z}
use Rattle.std.proofs.lemmas.List.{take_rest}
use Rattle.track_graph.proofs.LineLemmas.{PartsAt, contains_past}
use Rattle.track_graph.proofs.lines.lines_from.Goals as goal

pub returns-clause-those : goal.returns-clause-those
returns-clause-those c =
    let least : to_z w64 (of_z w64 c.args.least) ≡ c.args.least = to_z-of_z w64 _ c.ranges.least in
    let parts : PartsAt c.args.lines.now c.args.least c.count_below.result = rw least at c.count_below.ensures.parts in
    λ z. rw (take_rest c.args.lines.now c.count_below.result) (contains_past c.args.lines.now c.args.least c.count_below.result z parts)

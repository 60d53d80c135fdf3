use Rattle.std.proofs.Common.{◌≡◌, ◌<◌, ◌-◌, Some, slice_get, to_z, of_z, w64, ◌∙◌, arith}
use Rattle.std.proofs.lemmas.Int.{to_z-of_z}
use Rattle.track_graph.proofs.LineLemmas.{PartsAt, last_is, copied_is}
use Rattle.track_graph.proofs.lines.next_below.Goals as goal

pub returns-in-0-clause-next : goal.returns-in-0-clause-next
returns-in-0-clause-next c y has before none =
    let z : to_z w64 (of_z w64 c.args.z) ≡ c.args.z = to_z-of_z w64 _ c.ranges.z in
    let parts : PartsAt c.args.lines.now c.args.z c.count_below.result = rw z at c.count_below.ensures.parts in
    let last : (0 < c.count_below.result) × (slice_get c.args.lines.now (c.count_below.result - 1) ≡ Some y) = last_is c.args.lines.now c.args.z y c.count_below.result c.requires c.count_below.ensures.within parts has before none in
    absurd (omega (arith, last.0, c.in-0.is))

pub returns-in_default-clause-next : goal.returns-in_default-clause-next
returns-in_default-clause-next c y has before none =
    let z : to_z w64 (of_z w64 c.args.z) ≡ c.args.z = to_z-of_z w64 _ c.ranges.z in
    let parts : PartsAt c.args.lines.now c.args.z c.count_below.result = rw z at c.count_below.ensures.parts in
    let last : (0 < c.count_below.result) × (slice_get c.args.lines.now (c.count_below.result - 1) ≡ Some y) = last_is c.args.lines.now c.args.z y c.count_below.result c.requires c.count_below.ensures.within parts has before none in
    c.copied.ensures ∙ copied_is c.get.result c.args.lines.now (c.count_below.result - 1) y c.get.ensures.lookup.3 last.1

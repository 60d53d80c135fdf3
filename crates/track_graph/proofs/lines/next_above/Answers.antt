use Rattle.std.proofs.Common.{◌≡◌, Some, slice_get, to_z, of_z, w64, ◌∙◌}
use Rattle.std.proofs.lemmas.Int.{to_z-of_z}
use Rattle.track_graph.proofs.LineLemmas.{PartsPast, next_is, copied_is}
use Rattle.track_graph.proofs.lines.next_above.Goals as goal

pub returns-clause-next : goal.returns-clause-next
returns-clause-next c y has past none =
    let z : to_z w64 (of_z w64 c.args.z) ≡ c.args.z = to_z-of_z w64 _ c.ranges.z in
    let parts : PartsPast c.args.lines.now c.args.z c.count_up_to.result = rw z at c.count_up_to.ensures.parts in
    let at : slice_get c.args.lines.now c.count_up_to.result ≡ Some y = next_is c.args.lines.now c.args.z y c.count_up_to.result c.requires parts has past none in
    c.copied.ensures ∙ copied_is c.get.result c.args.lines.now c.count_up_to.result y c.get.ensures.lookup.3 at

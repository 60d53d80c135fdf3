use Rattle.std.proofs.Common.{◌^◌}
use Rattle.track_graph.specs.Entries.{rect_of}
use Rattle.track_graph.proofs.ShapeLemmas.{vertex_within}
use Rattle.track_graph.proofs.EntryLemmas.{entry_vertex, stub_rect-exists, rect_within, nearest_point_within}
use Rattle.track_graph.proofs.shapes.push_entry.Goals as goal

pub stub_point-from-requires : goal.stub_point-from-requires
stub_point-from-requires c = stub_rect-exists c.args.design.now c.args.net c.args.entry.now c.in-Stub.pin c.in-Stub.rect c.requires.design c.requires.entry c.in-Stub.is

pub push_stub-requires-clause-from : goal.push_stub-requires-clause-from
push_stub-requires-clause-from c =
    let d = c.args.design.now in
    let e = c.args.entry.now in
    rw c.stub_point-from.ensures (nearest_point_within (2 ^ 32) (rect_of d c.args.net c.in-Stub.pin c.in-Stub.rect) e.vertex.point
    (rect_within d c.args.net c.in-Stub.pin c.in-Stub.rect c.requires.design (stub_rect-exists d c.args.net e c.in-Stub.pin c.in-Stub.rect c.requires.design c.requires.entry c.in-Stub.is))
    (vertex_within d e.vertex c.requires.design (entry_vertex d c.args.net e c.requires.design c.requires.entry)))

pub push_stub-requires-clause-v : goal.push_stub-requires-clause-v
push_stub-requires-clause-v c =
    let d = c.args.design.now in
    let e = c.args.entry.now in
    vertex_within d e.vertex c.requires.design (entry_vertex d c.args.net e c.requires.design c.requires.entry)

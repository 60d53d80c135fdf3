use Rattle.std.proofs.Common.{◌≤◌, ◌^◌, arith}
use Rattle.rt_base.specs.Geometry.{distance}
use Rattle.track_graph.proofs.EntryLemmas.{stub_distance, stub_rect-exists}
use Rattle.track_graph.proofs.stubs.entry_cost.Goals as goal

pub stub_point-from-requires : goal.stub_point-from-requires
stub_point-from-requires c = stub_rect-exists c.args.design.now c.args.net c.args.entry.now c.in-Stub.pin c.in-Stub.rect c.requires.design c.requires.entry c.in-Stub.is

pub distance-requires : goal.distance-requires
distance-requires c = rw c.stub_point-from.ensures (omega (arith, stub_distance c.args.design.now c.args.net c.args.entry.now c.in-Stub.pin c.in-Stub.rect c.requires.design c.requires.entry c.in-Stub.is))

pub overflow_mul-result : goal.overflow_mul-result
overflow_mul-result c =
    let far : distance c.stub_point-from.result c.args.entry.now.vertex.point ≤ 2 ^ 34 = rw c.stub_point-from.ensures (stub_distance c.args.design.now c.args.net c.args.entry.now c.in-Stub.pin c.in-Stub.rect c.requires.design c.requires.entry c.in-Stub.is) in
    omega (arith, c.distance.ensures)

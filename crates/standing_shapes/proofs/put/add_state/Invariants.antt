use Rattle.std.proofs.Common.{◌++◌, take}
use Rattle.track_graph.specs.States.{every_net, standing_from}
use Rattle.standing_shapes.specs.Standing.{AreAdded}
use Rattle.standing_shapes.proofs.put.add_state.Given as goal

abbrev pub invariant-loop-number : goal.invariant-loop-number
invariant-loop-number g l = AreAdded (l.design.fixed ++ standing_from l.design every_net 0 (take l.number l.state.nets)) (g.S.ShapeStore.shapes l.fn.store) (g.S.ShapeStore.shapes l.store)

use Rattle.std.proofs.Common.{take}
use Rattle.track_graph.specs.States.{emptied}
use Rattle.standing_shapes.specs.Standing.{AreShapesOf}
use Rattle.standing_shapes.proofs.block.take_nets.Given as goal

abbrev pub invariant-loop-i : goal.invariant-loop-i
invariant-loop-i g l = AreShapesOf l.design (emptied l.state (take l.i l.nets)) (g.S.ShapeStore.shapes l.store)

use Rattle.std.proofs.Common.{take}
use Rattle.standing_shapes.specs.Standing.{AreAdded}
use Rattle.standing_shapes.proofs.put.add_shapes.Given as goal

abbrev pub invariant-loop-shape : goal.invariant-loop-shape
invariant-loop-shape g l = AreAdded (take l.shape-index l.shapes) (g.S.ShapeStore.shapes l.initial.store) (g.S.ShapeStore.shapes l.store)

use Rattle.std.proofs.Common.{take}
use Rattle.std.specs.List.{flat_map}
use Rattle.track_graph.specs.Walks.{walk_shapes_of}
use Rattle.standing_shapes.specs.Standing.{AreAdded}
use Rattle.standing_shapes.proofs.take.take_walks.Given as goal

abbrev pub invariant-loop-walk : goal.invariant-loop-walk
invariant-loop-walk g l = AreAdded (flat_map (walk_shapes_of l.design l.net) (take l.walk-index l.walks)) (g.S.ShapeStore.shapes l.store) (g.S.ShapeStore.shapes l.initial.store)

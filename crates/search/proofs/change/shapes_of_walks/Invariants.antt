use Rattle.std.proofs.Common.{◌≡◌, take}
use Rattle.std.specs.List.{flat_map}
use Rattle.track_graph.specs.Walks.{walk_shapes_of}
use Rattle.search.proofs.change.shapes_of_walks.Given as goal

abbrev pub invariant-loop-walk : goal.invariant-loop-walk
invariant-loop-walk l = l.shapes.items ≡ flat_map (walk_shapes_of l.design l.net) (take l.walk-index l.walks)

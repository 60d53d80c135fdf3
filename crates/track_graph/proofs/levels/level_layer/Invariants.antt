use Rattle.std.proofs.Common.{◌≡◌, drop, slice_get}
use Rattle.track_graph.specs.Levels.{levels, routing_from}
use Rattle.track_graph.proofs.levels.level_layer.Given as goal

abbrev pub invariant-loop-i : goal.invariant-loop-i
invariant-loop-i l = slice_get (levels l.tech) l.level ≡ slice_get (routing_from l.i (drop l.i l.layers)) l.left

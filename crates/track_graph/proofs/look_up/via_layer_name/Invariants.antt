use Rattle.std.proofs.Common.{◌≡◌, drop}
use Rattle.track_graph.specs.Levels.{routing_from}
use Rattle.track_graph.specs.Metal.{first_level_name, via_level_name}
use Rattle.track_graph.proofs.look_up.via_layer_name.Given as goal

abbrev pub invariant-loop-i : goal.invariant-loop-i
invariant-loop-i l = first_level_name (routing_from l.i (drop l.i l.layers)) l.rects ≡ via_level_name l.tech l.fn.via

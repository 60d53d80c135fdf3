use Rattle.std.proofs.Common.{◌+◌, ◌<◌, length, arith}
use Rattle.track_graph.proofs.ShapeLemmas.{routing_number-below}
use Rattle.track_graph.proofs.shapes.layer_at.Goals as goal

pub overflow_cast-result : goal.overflow_cast-result
overflow_cast-result c = let below : c.in-Some.number < 0 + length c.args.tech.now.layers = routing_number-below 0 _ c.args.level _ c.in-Some.field-0-1.now c.in-Some.ensures in let few = c.requires.layer_count in omega arith

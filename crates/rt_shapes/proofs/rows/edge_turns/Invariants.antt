use Rattle.std.proofs.Common.{◌≡◌, ◌++◌, drop}
use Rattle.rt_shapes.specs.Polygons.{edges_from, edges_of}
use Rattle.rt_shapes.specs.Sweep.{turns_of}
use Rattle.rt_shapes.proofs.rows.edge_turns.Given as goal

abbrev pub invariant-loop-to : goal.invariant-loop-to
invariant-loop-to l = l.turns.items ++ turns_of (edges_from l.first l.from (drop l.to-index l.rest)) ≡ turns_of (edges_of l.points)

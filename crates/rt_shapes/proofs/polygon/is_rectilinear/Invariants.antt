use Rattle.std.proofs.Common.{◌≡◌, drop}
use Rattle.std.specs.List.{list_all}
use Rattle.rt_shapes.specs.Polygons.{is_straight, edges_from, is_rectilinear_of}
use Rattle.rt_shapes.proofs.polygon.is_rectilinear.Given as goal

abbrev pub invariant-loop-to : goal.invariant-loop-to
invariant-loop-to l = is_rectilinear_of l.points ≡ list_all is_straight (edges_from l.first l.from (drop l.to-index l.rest))

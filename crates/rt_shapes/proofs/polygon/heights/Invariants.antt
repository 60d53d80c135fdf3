use Rattle.std.proofs.Common.{◌≡◌, drop, fold}
use Rattle.rt_base.specs.declared.geometry.Point.{Point}
use Rattle.rt_shapes.specs.Polygons.{IsAscending, with_number, heights_of}
use Rattle.rt_shapes.proofs.polygon.heights.Given as goal

abbrev pub invariant-loop-p : goal.invariant-loop-p
invariant-loop-p l = record {
  same : fold (λ ys (p : Point). with_number p.y ys) l.ys.items (drop l.p-index l.points) ≡ heights_of l.points;
  ascending : IsAscending l.ys.items;
}

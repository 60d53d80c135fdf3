use Rattle.std.proofs.Common.{◌≡◌, ◌++◌, length}
use Rattle.rt_shapes.specs.Polygons.{IsAscending, slab_of}
use Rattle.rt_shapes.proofs.polygon.add_slab.Given as goal

abbrev pub invariant-pairs : goal.invariant-pairs
invariant-pairs l = record {
  same : l.out.items ++ slab_of l.low l.high l.rest ≡ l.initial.out.items ++ slab_of l.low l.high l.xs;
  ascending : IsAscending l.rest;
}

abbrev pub decreases-pairs : goal.decreases-pairs
decreases-pairs l = length l.rest

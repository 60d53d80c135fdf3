use Rattle.std.proofs.Common.{◌≡◌, ◌++◌, ◌∷◌, List, drop}
use Rattle.std.specs.List.Sorted.{IsPermutation}
use Rattle.rt_shapes.specs.Polygons.{Edge, IsAscending, slabs_from}
use Rattle.rt_shapes.specs.Sweep.{IsRising, turns_of}
use Rattle.rt_shapes.proofs.SweepLemmas.{IsSwept}
use Rattle.rt_shapes.proofs.polygon.add_slabs.Given as goal

abbrev pub invariant-loop-high : goal.invariant-loop-high
invariant-loop-high l = record {
  swept : IsSwept l.turns l.rest l.low l.xs.items;
  rising : IsRising l.rest;
  ascending : IsAscending (l.low ∷ drop l.high-index l.above);
  same : (edges : List Edge) → IsPermutation (turns_of edges) l.turns → l.out.items ++ slabs_from edges l.low (drop l.high-index l.above) ≡ l.initial.out.items ++ slabs_from edges l.lowest l.above;
}

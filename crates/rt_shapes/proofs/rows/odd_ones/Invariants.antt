use Rattle.std.proofs.Common.{◌≡◌, [], drop, fold}
use Rattle.rt_shapes.specs.Polygons.{IsAscending, toggled}
use Rattle.rt_shapes.proofs.rows.odd_ones.Given as goal

abbrev pub invariant-loop-x : goal.invariant-loop-x
invariant-loop-x l = record {
  same : fold (λ xs x. toggled x xs) l.odd.items (drop l.x-index l.numbers) ≡ fold (λ xs x. toggled x xs) [] l.numbers;
  ascending : IsAscending l.odd.items;
}

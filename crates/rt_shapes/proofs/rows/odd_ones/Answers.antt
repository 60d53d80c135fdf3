use Rattle.std.proofs.Common.{◌≡◌, ◌∙◌, ◌%◌, ap, [], fold, count_by, List, ℤ}
use Rattle.std.proofs.lemmas.List.{drop_all}
use Rattle.rt_shapes.specs.Polygons.{toggled}
use Rattle.rt_shapes.proofs.SweepLemmas.{count-odd_of}
use Rattle.rt_shapes.proofs.rows.odd_ones.Goals as goal

pub returns-clause-parity : goal.returns-clause-parity
returns-clause-parity c =
    let none = drop_all c.loop-x.x-index c.args.numbers.now c.loop-x-test.false in
    let same : c.loop-x.odd.items ≡ fold (λ xs x. toggled x xs) [] c.args.numbers.now = rw none at c.loop-x.invariant.same in
    λ p. ap (λ (l : List ℤ). count_by p l % 2) same ∙ count-odd_of p c.args.numbers.now

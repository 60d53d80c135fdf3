use Rattle.std.proofs.Common.{ap}
use Rattle.shape_grid.specs.Cells.{Kept}
use Rattle.std.proofs.lemmas.List.Sorted.{IsPermutation-trans}
use Rattle.shape_grid.proofs.table.Table.add.Goals as goal

pub returns-clause-ok : goal.returns-clause-ok
returns-clause-ok c =
    IsPermutation-trans _ c.put.new.self.shapes _ c.in_ok-put.ensures.ok (rw (ap (λ (k : Kept). k.shapes) c.note.ensures) at c.grow.ensures.shapes)

use Rattle.shape_grid.proofs.Cells.{not_among}
use Rattle.shape_grid.proofs.size.is_among.Goals as goal

pub returns-then-number-reach : goal.returns-then-number-reach
returns-then-number-reach c =
    rw c.power.ensures.value (not_among c.args.reach.first c.args.reach.count _ c.args.number c.requires.first c.requires.count c.if-number-reach.true)

use Rattle.shape_grid.proofs.Tables.{one_table}
use Rattle.shape_grid.proofs.tile.Tile.add_first.Goals as goal

pub returns-clause-ok : goal.returns-clause-ok
returns-clause-ok c =
    rw (← c.self.view_is, c.in_ok-push.ensures.items) (one_table c.self.inside.tables.items _ c.args.shape (rw c.in_ok-table.ensures.shapes at c.in_ok-add.ensures.ok))

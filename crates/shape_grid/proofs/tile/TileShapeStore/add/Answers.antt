use Rattle.shape_grid.proofs.Tables.{table_more, table_same}
use Rattle.shape_grid.proofs.tile.TileShapeStore.add.Goals as goal

pub returns-clause-ok : goal.returns-clause-ok
returns-clause-ok c =
    rw (← c.self.view_is) (table_more c.add.result c.self.inside.tables.items c.in-Some.place c.index_mut-table.result.now c.add.new.self c.args.shape (rw (← c.as_slice.ensures.value) c.in-Some.ensures.within) c.index_mut-table.ensures.value c.add.ensures.ok)

pub returns-clause-err : goal.returns-clause-err
returns-clause-err c =
    rw (← c.self.view_is) (table_same c.add.result c.self.inside.tables.items c.in-Some.place c.index_mut-table.result.now c.add.new.self c.index_mut-table.ensures.value c.add.ensures.err)

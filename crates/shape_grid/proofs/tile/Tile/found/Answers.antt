use Rattle.shape_grid.specs.Stores.{is_touching}
use Rattle.shape_grid.specs.Cells.{Kept}
use Rattle.shape_grid.proofs.Tables.{kept_more}
use Rattle.shape_grid.proofs.tile.Tile.found.Goals as goal

pub loop-table-preserved : goal.loop-table-preserved
loop-table-preserved c =
    kept_more (is_touching c.args.layer c.args.rect.now) (λ (k : Kept). k.shapes) c.deref-table-items.result.now c.loop-table.table-index c.table-item.result c.loop-table.found.items _ c.loop-table-test.true c.table-item.is c.loop-table.invariant c.in_ok-near_into.ensures

use Rattle.std.proofs.Common.{◌&&◌}
use Rattle.shape_grid.specs.Stores.{is_touching}
use Rattle.shape_grid.specs.Cells.{Kept}
use Rattle.shape_grid.proofs.Tables.{any_parts}
use Rattle.shape_grid.proofs.tile.TileShapeStore.any_near.Goals as goal

pub returns : goal.returns
returns g c =
    rw (← c.self.view_is, ← any_parts (λ s. is_touching c.args.layer c.args.rect.now s && g.T.ShapeTest.verdict c.args.test.now s) (λ (k : Kept). k.shapes) c.self.inside.tables.items, ← c.as_slice.ensures.value) c.any_in.ensures

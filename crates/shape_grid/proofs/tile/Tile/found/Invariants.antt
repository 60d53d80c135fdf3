use Rattle.std.proofs.Common.{◌≡◌, take, filter}
use Rattle.shape_grid.specs.Stores.{is_touching}
use Rattle.shape_grid.specs.Cells.{shapes_of}
use Rattle.shape_grid.proofs.tile.Tile.found.Given as goal

abbrev pub invariant-loop-table : goal.invariant-loop-table
invariant-loop-table l = l.found.items ≡ filter (is_touching l.layer l.rect) (shapes_of (take l.table-index l.table-items))

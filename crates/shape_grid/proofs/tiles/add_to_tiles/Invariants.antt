use Rattle.std.proofs.Common.{◌≡◌, ◌≤◌, ◌<◌, ◌*◌, ◌/◌, ◌%◌, ℕ, [], length, get_or}
use Rattle.rt_base.specs.Tiles.{columns_of, column_of, row_of}
use Rattle.shape_grid.specs.Tiling.{Gets}
use Rattle.shape_grid.proofs.Tiled.{InRows}
use Rattle.shape_grid.proofs.tiles.add_to_tiles.Given as goal

abbrev pub invariant-loop-row : goal.invariant-loop-row
invariant-loop-row l =
    record {
      many : length l.tiles.items ≡ length l.fn.tiles.items;
      first : row_of l.grid l.shape.rect.yl ≤ l.row;
      each : (t : ℕ) → Gets (InRows l.grid l.shape.rect l.row t) l.shape (get_or l.fn.tiles.items t []) (get_or l.tiles.items t []);
    }

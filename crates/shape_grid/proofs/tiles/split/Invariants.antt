use Rattle.std.proofs.Common.{◌≡◌, ◌<◌, ◌*◌, ℕ, [], All, IsPermutation, length, get_or, take, filter}
use Rattle.rt_base.specs.Tiles.{columns_of, rows_of}
use Rattle.rt_base.specs.declared.tech.Shape.{Shape}
use Rattle.shape_grid.specs.Tiling.{IsUpright}
use Rattle.shape_grid.proofs.Tiled.{spans_test}
use Rattle.shape_grid.proofs.tiles.split.Given as goal

abbrev pub invariant-loop-shape : goal.invariant-loop-shape
invariant-loop-shape l =
    record {
      many : length l.tiles.items ≡ columns_of l.grid * rows_of l.grid;
      upright : All (λ (s : Shape). IsUpright s.rect) (take l.shape-index l.shapes);
      each : (t : ℕ) → t < length l.tiles.items → IsPermutation (filter (spans_test l.grid t) (take l.shape-index l.shapes)) (get_or l.tiles.items t []);
    }

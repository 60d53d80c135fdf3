use Rattle.std.proofs.Common.{◌≡◌, ◌≤◌, ◌<◌, ℕ, [], length, max, get_or}
use Rattle.shape_grid.specs.Tiling.{Gets}
use Rattle.shape_grid.proofs.tiles.add_in_row.Given as goal

abbrev pub invariant-loop-t : goal.invariant-loop-t
invariant-loop-t l =
    record {
      many : length l.tiles.items ≡ length l.fn.tiles.items;
      most : l.t ≤ max l.from l.past;
      each : (t : ℕ) → Gets ((l.from ≤ t) × (t < l.t)) l.shape (get_or l.fn.tiles.items t []) (get_or l.tiles.items t []);
    }

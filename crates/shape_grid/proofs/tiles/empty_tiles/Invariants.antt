use Rattle.std.proofs.Common.{◌≡◌, ℕ, [], length, get_or}
use Rattle.shape_grid.proofs.tiles.empty_tiles.Given as goal

abbrev pub invariant-loop : goal.invariant-loop
invariant-loop l = record { many : length l.tiles.items ≡ l.counter; empty : (t : ℕ) → get_or l.tiles.items t [] ≡ [] }

use Rattle.std.proofs.Common.{◌≡◌, [], length}
use Rattle.shape_grid.specs.Cells.{all_of}
use Rattle.shape_grid.proofs.table.empty_buckets.Given as goal

abbrev pub invariant-loop : goal.invariant-loop
invariant-loop l = record { many : length l.buckets.items ≡ l.counter; empty : all_of l.buckets.items ≡ [] }

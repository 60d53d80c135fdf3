use Rattle.std.proofs.Common.{◌≡◌, ◌++◌, take, filter}
use Rattle.shape_grid.specs.Stores.{is_touching}
use Rattle.shape_grid.specs.Cells.{all_of}
use Rattle.shape_grid.proofs.table.Table.near_into.Given as goal

abbrev pub invariant-loop-b : goal.invariant-loop-b
invariant-loop-b l = l.found.items ≡ l.fn.found.items ++ filter (is_touching l.layer l.rect) (all_of (take l.b l.self-inside.buckets.items))

use Rattle.std.proofs.Common.{◌≡◌, ℕ, ◌+◌, ◌%◌, ◌^◌, ◌<◌, ◌&&◌, [], false, get_or}
use Rattle.std.specs.List.{list_any}
use Rattle.shape_grid.specs.Stores.{is_touching}
use Rattle.shape_grid.proofs.table.any_in_column.Given as goal

abbrev pub invariant-loop-j : goal.invariant-loop-j
invariant-loop-j g l =
    (j : ℕ) → j < l.j → list_any (λ s. is_touching l.layer l.rect s && g.T.ShapeTest.verdict l.test s) (get_or l.buckets (l.base + (l.up.first + j) % 2 ^ l.rows) []) ≡ false

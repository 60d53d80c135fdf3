use Rattle.std.proofs.Common.{◌≡◌, ℕ, ◌+◌, ◌*◌, ◌%◌, ◌^◌, ◌<◌, ◌&&◌, [], false, get_or}
use Rattle.std.specs.List.{list_any}
use Rattle.shape_grid.specs.Stores.{is_touching}
use Rattle.shape_grid.proofs.table.Table.any_near.Given as goal

abbrev pub invariant-loop-i : goal.invariant-loop-i
invariant-loop-i g l =
    (i : ℕ) → i < l.i → (j : ℕ) → j < l.up.count → list_any (λ s. is_touching l.layer l.rect s && g.T.ShapeTest.verdict l.test s) (get_or l.self-inside.buckets.items (((l.side.first + i) % 2 ^ l.self-inside.bits.columns) * 2 ^ l.self-inside.bits.rows + (l.up.first + j) % 2 ^ l.self-inside.bits.rows) []) ≡ false

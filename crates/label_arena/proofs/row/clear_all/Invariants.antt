use Rattle.std.proofs.Common.{◌≡◌, ◌<◌, ℕ, Some, slice_get, [], length}
use Rattle.label_arena.specs.Rows.{rows_of}
use Rattle.label_arena.proofs.row.clear_all.Given as goal

abbrev pub invariant-rows : goal.invariant-rows
invariant-rows l = record {
  wide : length l.rows.items ≡ l.i-end;
  done : (i : ℕ) → i < l.i → slice_get (rows_of l.rows.items) i ≡ Some [];
}

use Rattle.std.proofs.Common.{◌≡◌, ◌<◌, ℕ, Some, slice_get, Contains, length}
use Rattle.interval_label.specs.Task.{Stop}
use Rattle.interval_label.specs.Known.{row_at}
use Rattle.interval_label.proofs.rows.stops_of.Given as goal

abbrev pub invariant-targets : goal.invariant-targets
invariant-targets l = record {
  wide : length l.rows ≡ length l.arena.graph.intervals;
  only : (n k : ℕ) → Contains (row_at l.rows n) k → k < l.k;
  all : (k : ℕ) (t : Stop) → k < l.k → slice_get l.targets k ≡ Some t → Contains (row_at l.rows t.0.interval.0) k;
}

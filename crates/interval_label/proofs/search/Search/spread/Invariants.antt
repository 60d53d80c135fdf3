use Rattle.std.proofs.Common.{◌≡◌, ◌<◌, ℕ, Some, slice_get}
use Rattle.interval_label.specs.Task.{left_at}
use Rattle.interval_label.specs.Search.{Grows, CoversPoint, CoversRun}
use Rattle.interval_label.proofs.search.Search.spread.Given as goal

abbrev pub invariant-bridges : goal.invariant-bridges
invariant-bridges l = record {
  grows : Grows l.arena.graph (left_at l.arena.graph l.bound) l.known l.number l.label l.fn.self l.self;
  points : (j k : ℕ) → j < l.k-index → slice_get l.k-items j ≡ Some k → CoversPoint l.arena.graph l.self.queue.pairs l.label k;
}

abbrev pub invariant-runs : goal.invariant-runs
invariant-runs l = record {
  grows : Grows l.arena.graph (left_at l.arena.graph l.bound) l.known l.number l.label l.fn.self l.self;
  points : (k : ℕ) → CoversPoint l.arena.graph l.self.queue.pairs l.label k;
  runs : (j k : ℕ) → j < l.k-index → slice_get l.k-items j ≡ Some k → CoversRun l.arena.graph l.known l.self.queue.pairs l.label k;
}

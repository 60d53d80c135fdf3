use Rattle.std.proofs.Common.{◌≡◌, ◌<◌, ◌+◌, ℕ, None, Some, slice_get, Contains}
use Rattle.label_arena.specs.declared.place.Label.{Label}
use Rattle.interval_label.specs.Task.{Stop, left_at}
use Rattle.interval_label.specs.State.{source_label}
use Rattle.interval_label.proofs.answer.begin.Given as goal

abbrev pub invariant-sources : goal.invariant-sources
invariant-sources l = record {
  best : l.search.best ≡ None;
  floor : l.search.queue.floor ≡ 0;
  has : (k : ℕ) (t : Stop) → k < l.k → slice_get l.sources k ≡ Some t → Contains l.search.queue.pairs (t.1 + left_at l.arena.graph l.bound t.0, source_label k t);
  only : (d : ℕ) (y : Label) → Contains l.search.queue.pairs (d, y) → (k : ℕ) × (t : Stop) × (slice_get l.sources k ≡ Some t) × (d ≡ t.1 + left_at l.arena.graph l.bound t.0) × (y ≡ source_label k t);
}

use Rattle.std.proofs.Common.{◌≡◌, ◌<◌, ℕ, Some, slice_get}
use Rattle.label_arena.specs.declared.place.Run.{Run}
use Rattle.label_arena.specs.Plain.{factor_at}
use Rattle.interval_label.proofs.even.is_even.Given as goal

abbrev pub invariant-runs : goal.invariant-runs
invariant-runs l = (j : ℕ) (run : Run) → j < l.k → slice_get l.arena.graph.runs j ≡ Some run → factor_at l.arena.graph run.a.0 ≡ factor_at l.arena.graph run.b.0

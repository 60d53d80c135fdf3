use Rattle.std.proofs.Common.{◌≡◌, ◌<◌, ℕ, Some, slice_get, Contains}
use Rattle.label_arena.specs.declared.place.Place.{Place}
use Rattle.label_arena.specs.declared.place.Run.{Run}
use Rattle.label_arena.specs.Marks.{IsRunEnd}
use Rattle.interval_label.specs.Known.{Marks, IsAcross}
use Rattle.interval_label.proofs.marking.Marking.add_runs.Given as goal

abbrev pub invariant-runs : goal.invariant-runs
invariant-runs l = record {
  marks : Marks l.arena.graph (IsRunEnd l.arena.graph) l.fn.self l.self;
  all : (j : ℕ) (run : Run) (v : Place) → j < l.k → slice_get l.arena.graph.runs j ≡ Some run → (IsAcross l.arena.graph j run.span.lo v → Contains l.self.list.items v) × (IsAcross l.arena.graph j run.span.hi v → Contains l.self.list.items v);
}

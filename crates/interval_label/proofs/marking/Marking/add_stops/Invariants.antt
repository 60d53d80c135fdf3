use Rattle.std.proofs.Common.{◌≡◌, ◌<◌, ℕ, Some, slice_get, Contains}
use Rattle.label_arena.specs.Marks.{IsStop}
use Rattle.interval_label.specs.Task.{Stop}
use Rattle.interval_label.specs.Known.{Marks}
use Rattle.interval_label.proofs.marking.Marking.add_stops.Given as goal

abbrev pub invariant-stops : goal.invariant-stops
invariant-stops l = record {
  marks : Marks l.arena.graph (IsStop l.stops) l.fn.self l.self;
  all : (j : ℕ) (s : Stop) → j < l.k → slice_get l.stops j ≡ Some s → Contains l.self.list.items s.0;
}

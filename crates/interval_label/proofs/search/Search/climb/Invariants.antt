use Rattle.std.proofs.Common.{◌≡◌, ◌<◌, ℕ, Some, slice_get}
use Rattle.interval_label.specs.Task.{left_at}
use Rattle.interval_label.specs.Search.{Grows, ClimbsAt}
use Rattle.interval_label.specs.declared.marking.Mark.{Mark}
use Rattle.interval_label.proofs.search.Search.climb.Given as goal

abbrev pub invariant-marks : goal.invariant-marks
invariant-marks l = record {
  grows : Grows l.arena.graph (left_at l.arena.graph l.bound) l.known l.number l.label l.fn.self l.self;
  done : (j : ℕ) (m : Mark) → j < l.mark-index → slice_get l.mark-items j ≡ Some m → ClimbsAt l.arena.graph l.self.queue.pairs l.label l.run l.from l.to m.coord;
}

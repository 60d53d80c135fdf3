use Rattle.std.proofs.Common.{◌≡◌, ◌+◌, ◌-◌, length, true}
use Rattle.interval_label.specs.Task.{left_at}
use Rattle.interval_label.specs.State.{IsRunning, most_places}
use Rattle.interval_label.proofs.answer.explore.Given as goal

abbrev pub invariant-labels : goal.invariant-labels
invariant-labels g l = record {
  graph : l.arena.graph ≡ l.fn.arena.graph;
  indexed : l.arena.indexed ≡ true;
  running : IsRunning l.fn.arena.graph l.sources l.targets (left_at l.fn.arena.graph l.bound) l.known l.arena.labels l.search.queue.pairs l.search.best;
  steps : l.steps ≡ l.fn.steps + length l.arena.labels;
}

abbrev pub decreases-labels : goal.decreases-labels
decreases-labels g l = most_places l.fn.arena.graph - length l.arena.labels

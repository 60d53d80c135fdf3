use Rattle.std.proofs.Common.{◌≡◌, length}
use Rattle.interval_label.specs.Queue.{Loses}
use Rattle.interval_label.specs.Search.{ExplainedIn}
use Rattle.interval_label.proofs.search.Search.take.Given as goal

abbrev pub invariant-candidates : goal.invariant-candidates
invariant-candidates l = record {
  loses : Loses (ExplainedIn l.arena.graph l.arena.labels) l.fn.self.queue.pairs l.self.queue.pairs;
  best : l.self.best ≡ l.fn.self.best;
}

abbrev pub decreases-candidates : goal.decreases-candidates
decreases-candidates l = length l.self.queue.pairs

use Rattle.std.proofs.Common.{length}
use Rattle.least_walk.specs.Search.{IsFiled, OnlyQueue}
use Rattle.least_walk.proofs.label.Search.settle_next.Given as goal

abbrev pub invariant-loop-number : goal.invariant-loop-number
invariant-loop-number l = record {
  filed : IsFiled l.self;
  only : OnlyQueue l.fn.self l.self;
}

abbrev pub decreases-loop-number : goal.decreases-loop-number
decreases-loop-number l = length l.self.queue

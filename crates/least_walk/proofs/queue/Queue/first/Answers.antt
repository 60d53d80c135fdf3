use Rattle.least_walk.proofs.Keys.{least_from_bound}
use Rattle.least_walk.proofs.queue.Queue.first.Goals as goal

pub returns-clause-some : goal.returns-clause-some
returns-clause-some c = rw (← c.self.view_is) (least_from_bound _ _ (c.in_ok-key.ensures.greatest c.self.invariant))

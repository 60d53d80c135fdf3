use Rattle.least_walk.proofs.Numbers.{sets_from}
use Rattle.least_walk.proofs.known.Known.set.Goals as goal

pub returns : goal.returns
returns c = record { ok = rw (← c.self.view_is) (sets_from _ _ _ _ c.in_ok-insert.ensures.updates.0) }

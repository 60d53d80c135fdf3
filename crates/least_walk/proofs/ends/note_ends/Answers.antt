use Rattle.least_walk.proofs.Ending.{ends_none}
use Rattle.least_walk.proofs.ends.note_ends.Goals as goal

pub loop-place-init : goal.loop-place-init
loop-place-init c = rw c.clear.ensures (ends_none _)

use Rattle.least_walk.specs.Ends.{IsEnds}
use Rattle.least_walk.proofs.ends.note_ends.Given as goal

abbrev pub invariant-loop-place : goal.invariant-loop-place
invariant-loop-place l = IsEnds l.targets l.place l.ends

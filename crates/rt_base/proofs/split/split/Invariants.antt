use Rattle.std.proofs.Common.{length}
use Rattle.rt_base.proofs.Scanning.{Cut}
use Rattle.rt_base.proofs.split.split.Given as goal

abbrev pub invariant-loop-rest : goal.invariant-loop-rest
invariant-loop-rest l = Cut l.text l.tokens.items l.line l.at l.rest

abbrev pub decreases-loop-rest : goal.decreases-loop-rest
decreases-loop-rest l = length l.rest

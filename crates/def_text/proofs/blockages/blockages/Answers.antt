use Rattle.std.proofs.Common.{arith}
use Rattle.rt_forms.proofs.Loops.{runs_more, runs_done, runs_err}
use Rattle.def_text.proofs.blockages.blockages.Goals as goal

pub returns-in_err-more_blockages-clause-reads : goal.returns-in_err-more_blockages-clause-reads
returns-in_err-more_blockages-clause-reads c = runs_err _ _ _ c.blockages.invariant.runs c.in_err-more_blockages.ensures.reads c.from_residual.ensures.1

pub blockages-preserved : goal.blockages-preserved
blockages-preserved c = record { runs = runs_more c.blockages.invariant.runs c.in_ok-more_blockages.ensures.reads c.if-not-branch.true; sound = c.in_ok-more_blockages.ensures.sound; few = omega (arith, c.in_ok-more_blockages.ensures.few, c.blockages.invariant.few); found = omega (arith, c.in_ok-more_blockages.ensures.found, c.blockages.invariant.found) }

pub returns-clause-reads : goal.returns-clause-reads
returns-clause-reads c = runs_done c.blockages.invariant.runs c.in_ok-more_blockages.ensures.reads c.if-not-branch.false

use Rattle.std.proofs.Common.{arith}
use Rattle.rt_forms.proofs.Loops.{runs_more, runs_done, runs_err}
use Rattle.def_text.proofs.nets.options.Goals as goal

pub returns-in_err-more_net-clause-reads : goal.returns-in_err-more_net-clause-reads
returns-in_err-more_net-clause-reads c = runs_err _ _ _ c.options.invariant.runs c.in_err-more_net.ensures.reads c.from_residual.ensures.1

pub options-preserved : goal.options-preserved
options-preserved c = record { runs = runs_more c.options.invariant.runs c.in_ok-more_net.ensures.reads c.if-not-branch.true; wiring = c.in_ok-more_net.ensures.wiring; few = omega (arith, c.in_ok-more_net.ensures.few, c.options.invariant.few) }

pub returns-clause-reads : goal.returns-clause-reads
returns-clause-reads c = runs_done c.options.invariant.runs c.in_ok-more_net.ensures.reads c.if-not-branch.false

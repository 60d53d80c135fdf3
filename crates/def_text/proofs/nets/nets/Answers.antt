use Rattle.std.proofs.Common.{arith}
use Rattle.rt_forms.proofs.Loops.{runs_more, runs_done, runs_err}
use Rattle.def_text.proofs.nets.nets.Goals as goal

pub returns-in_err-more_nets-clause-reads : goal.returns-in_err-more_nets-clause-reads
returns-in_err-more_nets-clause-reads c = runs_err _ _ _ c.nets.invariant.runs c.in_err-more_nets.ensures.reads c.from_residual.ensures.1

pub nets-preserved : goal.nets-preserved
nets-preserved c = record { runs = runs_more c.nets.invariant.runs c.in_ok-more_nets.ensures.reads c.if-not-branch.true; sound = c.in_ok-more_nets.ensures.sound; few = omega (arith, c.in_ok-more_nets.ensures.few, c.nets.invariant.few) }

pub returns-clause-reads : goal.returns-clause-reads
returns-clause-reads c = runs_done c.nets.invariant.runs c.in_ok-more_nets.ensures.reads c.if-not-branch.false

use Rattle.rt_forms.proofs.Loops.{runs_more, runs_done, runs_err}
use Rattle.def_text.proofs.special.options.Goals as goal

pub returns-in_err-more_special-clause-reads : goal.returns-in_err-more_special-clause-reads
returns-in_err-more_special-clause-reads c = runs_err _ _ _ c.options.invariant.runs c.in_err-more_special.ensures.reads c.from_residual.ensures.1

pub options-preserved : goal.options-preserved
options-preserved c = record { runs = runs_more c.options.invariant.runs c.in_ok-more_special.ensures.reads c.if-not-branch.true; sound = c.in_ok-more_special.ensures.sound }

pub returns-clause-reads : goal.returns-clause-reads
returns-clause-reads c = runs_done c.options.invariant.runs c.in_ok-more_special.ensures.reads c.if-not-branch.false

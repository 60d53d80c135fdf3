use Rattle.std.proofs.Common.{◌∙◌}
use Rattle.rt_forms.proofs.Loops.{runs_more, runs_done, runs_err}
use Rattle.def_text.proofs.components.components.Goals as goal

pub returns-in_err-more_components-clause-reads : goal.returns-in_err-more_components-clause-reads
returns-in_err-more_components-clause-reads c = runs_err _ _ _ c.components.invariant.runs c.in_err-more_components.ensures.reads c.from_residual.ensures.1

pub components-preserved : goal.components-preserved
components-preserved c = record { runs = runs_more c.components.invariant.runs c.in_ok-more_components.ensures.reads c.if-not-branch.true; sound = c.in_ok-more_components.ensures.sound; skipped = c.in_ok-more_components.ensures.skipped ∙ c.components.invariant.skipped }

pub returns-clause-reads : goal.returns-clause-reads
returns-clause-reads c = runs_done c.components.invariant.runs c.in_ok-more_components.ensures.reads c.if-not-branch.false

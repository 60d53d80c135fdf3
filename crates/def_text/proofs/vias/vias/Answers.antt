use Rattle.std.proofs.Common.{◌∙◌}
use Rattle.rt_forms.proofs.Loops.{runs_more, runs_done, runs_err}
use Rattle.def_text.proofs.vias.vias.Goals as goal

pub returns-in_err-more_vias-clause-reads : goal.returns-in_err-more_vias-clause-reads
returns-in_err-more_vias-clause-reads c = runs_err _ _ _ c.vias.invariant.runs c.in_err-more_vias.ensures.reads c.from_residual.ensures.1

pub vias-preserved : goal.vias-preserved
vias-preserved c = record { runs = runs_more c.vias.invariant.runs c.in_ok-more_vias.ensures.reads c.if-not-branch.true; sound = c.in_ok-more_vias.ensures.sound; skipped = c.in_ok-more_vias.ensures.skipped ∙ c.vias.invariant.skipped }

pub returns-clause-reads : goal.returns-clause-reads
returns-clause-reads c = runs_done c.vias.invariant.runs c.in_ok-more_vias.ensures.reads c.if-not-branch.false

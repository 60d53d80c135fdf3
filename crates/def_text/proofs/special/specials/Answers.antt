use Rattle.std.proofs.Common.{◌∙◌}
use Rattle.rt_forms.proofs.Loops.{runs_more, runs_done, runs_err}
use Rattle.def_text.proofs.special.specials.Goals as goal

pub returns-in_err-more_specials-clause-reads : goal.returns-in_err-more_specials-clause-reads
returns-in_err-more_specials-clause-reads c = runs_err _ _ _ c.specials.invariant.runs c.in_err-more_specials.ensures.reads c.from_residual.ensures.1

pub specials-preserved : goal.specials-preserved
specials-preserved c = record { runs = runs_more c.specials.invariant.runs c.in_ok-more_specials.ensures.reads c.if-not-branch.true; sound = c.in_ok-more_specials.ensures.sound; skipped = c.in_ok-more_specials.ensures.skipped ∙ c.specials.invariant.skipped }

pub returns-clause-reads : goal.returns-clause-reads
returns-clause-reads c = runs_done c.specials.invariant.runs c.in_ok-more_specials.ensures.reads c.if-not-branch.false

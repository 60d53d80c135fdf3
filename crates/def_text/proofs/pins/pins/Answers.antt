use Rattle.std.proofs.Common.{◌∙◌}
use Rattle.rt_forms.proofs.Loops.{runs_more, runs_done, runs_err}
use Rattle.def_text.proofs.pins.pins.Goals as goal

pub returns-in_err-more_pins-clause-reads : goal.returns-in_err-more_pins-clause-reads
returns-in_err-more_pins-clause-reads c = runs_err _ _ _ c.pins.invariant.runs c.in_err-more_pins.ensures.reads c.from_residual.ensures.1

pub pins-preserved : goal.pins-preserved
pins-preserved c = record { runs = runs_more c.pins.invariant.runs c.in_ok-more_pins.ensures.reads c.if-not-branch.true; sound = c.in_ok-more_pins.ensures.sound; skipped = c.in_ok-more_pins.ensures.skipped ∙ c.pins.invariant.skipped }

pub returns-clause-reads : goal.returns-clause-reads
returns-clause-reads c = runs_done c.pins.invariant.runs c.in_ok-more_pins.ensures.reads c.if-not-branch.false

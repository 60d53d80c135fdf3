use Rattle.std.proofs.Common.{sym, refl, ◌∙◌, false}
use Rattle.rt_forms.proofs.Loops.{until_more, until_stop, until_err}
use Rattle.def_wires.proofs.steps.steps.Goals as goal

pub returns-in_err-more_steps-clause-reads : goal.returns-in_err-more_steps-clause-reads
returns-in_err-more_steps-clause-reads c = until_err _ _ _ c.steps.invariant.until (sym c.ends_path.ensures ∙ c.steps-test.true) c.in_err-more_steps.ensures.reads c.from_residual.ensures.1

pub steps-preserved : goal.steps-preserved
steps-preserved c = record { until = until_more {b = false} c.steps.invariant.until (sym c.ends_path.ensures ∙ c.steps-test.true) c.in_ok-more_steps.ensures.reads refl; sound = c.in_ok-more_steps.ensures.sound }

pub returns-clause-reads : goal.returns-clause-reads
returns-clause-reads c = until_stop c.steps.invariant.until (sym c.ends_path.ensures ∙ c.steps-test.false)

use Rattle.std.proofs.Common.{sym, refl, ◌∙◌, false}
use Rattle.rt_forms.proofs.Loops.{until_more, until_stop, until_err}
use Rattle.def_wires.proofs.options.further_points.Goals as goal

pub returns-in_err-more_points-clause-reads : goal.returns-in_err-more_points-clause-reads
returns-in_err-more_points-clause-reads c = until_err _ _ _ c.points.invariant.until (sym c.no_word.ensures ∙ c.points-test.true) c.in_err-more_points.ensures.reads c.from_residual.ensures.1

pub points-preserved : goal.points-preserved
points-preserved c = record { until = until_more {b = false} c.points.invariant.until (sym c.no_word.ensures ∙ c.points-test.true) c.in_ok-more_points.ensures.reads refl; sound = c.in_ok-more_points.ensures.sound }

pub returns-clause-reads : goal.returns-clause-reads
returns-clause-reads c = until_stop c.points.invariant.until (sym c.no_word.ensures ∙ c.points-test.false)

use Rattle.std.proofs.Common.{sym, refl, ◌∙◌, false}
use Rattle.rt_forms.proofs.Loops.{until_more, until_stop, until_err}
use Rattle.def_wires.proofs.vias.further_rects.Goals as goal

pub returns-in_err-more_rects-clause-reads : goal.returns-in_err-more_rects-clause-reads
returns-in_err-more_rects-clause-reads c = until_err _ _ _ c.rects.invariant.until (sym c.no_word.ensures ∙ c.rects-test.true) c.in_err-more_rects.ensures.reads c.from_residual.ensures.1

pub rects-preserved : goal.rects-preserved
rects-preserved c = record { until = until_more {b = false} c.rects.invariant.until (sym c.no_word.ensures ∙ c.rects-test.true) c.in_ok-more_rects.ensures.reads refl; sound = c.in_ok-more_rects.ensures.sound }

pub returns-clause-reads : goal.returns-clause-reads
returns-clause-reads c = until_stop c.rects.invariant.until (sym c.no_word.ensures ∙ c.rects-test.false)

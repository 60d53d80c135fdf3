use Rattle.std.proofs.Common.{sym, refl, ◌∙◌, false}
use Rattle.rt_forms.proofs.Loops.{until_more, until_stop, until_err}
use Rattle.def_wires.proofs.vias.further_parts.Goals as goal

pub returns-in_err-more_parts-clause-reads : goal.returns-in_err-more_parts-clause-reads
returns-in_err-more_parts-clause-reads c = until_err _ _ _ c.parts.invariant.until (sym c.no_word.ensures ∙ c.parts-test.true) c.in_err-more_parts.ensures.reads c.from_residual.ensures.1

pub parts-preserved : goal.parts-preserved
parts-preserved c = record { until = until_more {b = false} c.parts.invariant.until (sym c.no_word.ensures ∙ c.parts-test.true) c.in_ok-more_parts.ensures.reads refl; sound = c.in_ok-more_parts.ensures.sound }

pub returns-clause-reads : goal.returns-clause-reads
returns-clause-reads c = until_stop c.parts.invariant.until (sym c.no_word.ensures ∙ c.parts-test.false)

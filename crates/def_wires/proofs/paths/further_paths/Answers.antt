use Rattle.std.proofs.Common.{sym, refl, ◌∙◌, false}
use Rattle.rt_forms.proofs.Loops.{until_more, until_stop, until_err}
use Rattle.def_wires.proofs.paths.further_paths.Goals as goal

pub returns-in_err-more_paths-clause-reads : goal.returns-in_err-more_paths-clause-reads
returns-in_err-more_paths-clause-reads c = until_err _ _ _ c.paths.invariant.until (sym c.no_word.ensures ∙ c.paths-test.true) c.in_err-more_paths.ensures.reads c.from_residual.ensures.1

pub paths-preserved : goal.paths-preserved
paths-preserved c = record { until = until_more {b = false} c.paths.invariant.until (sym c.no_word.ensures ∙ c.paths-test.true) c.in_ok-more_paths.ensures.reads refl; sound = c.in_ok-more_paths.ensures.sound }

pub returns-clause-reads : goal.returns-clause-reads
returns-clause-reads c = until_stop c.paths.invariant.until (sym c.no_word.ensures ∙ c.paths-test.false)

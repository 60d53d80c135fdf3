use Rattle.std.proofs.Common.{sym, refl, ◌∙◌, false}
use Rattle.rt_forms.proofs.Loops.{until_more, until_stop, until_err}
use Rattle.def_text.proofs.blockages.mark_rest.Goals as goal

pub returns-in_err-skip_word : goal.returns-in_err-skip_word
returns-in_err-skip_word c = until_err _ _ _ c.skip.invariant (sym c.ends_mark.ensures ∙ c.skip-test.true) c.in_err-skip_word.ensures c.from_residual.ensures.1

pub skip-preserved : goal.skip-preserved
skip-preserved c = until_more {b = false} c.skip.invariant (sym c.ends_mark.ensures ∙ c.skip-test.true) c.in_ok-skip_word.ensures refl

pub returns : goal.returns
returns c = until_stop c.skip.invariant (sym c.ends_mark.ensures ∙ c.skip-test.false)

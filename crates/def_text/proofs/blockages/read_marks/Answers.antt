use Rattle.std.proofs.Common.{ap, not, sym, refl, ◌∙◌, false, arith}
use Rattle.rt_forms.proofs.Loops.{until_more, until_stop, until_err}
use Rattle.def_text.proofs.blockages.read_marks.Goals as goal

pub returns-in_err-more_marks-clause-reads : goal.returns-in_err-more_marks-clause-reads
returns-in_err-more_marks-clause-reads c = until_err _ _ _ c.marks.invariant.until (ap not (sym c.at.ensures ∙ c.marks-test.true)) c.in_err-more_marks.ensures.reads c.from_residual.ensures.1

pub marks-preserved : goal.marks-preserved
marks-preserved c = record {
  until = until_more {b = false} c.marks.invariant.until (ap not (sym c.at.ensures ∙ c.marks-test.true)) c.in_ok-more_marks.ensures.reads refl;
  few = omega (arith, c.in_ok-more_marks.ensures.few, c.marks.invariant.few);
}

pub returns-clause-reads : goal.returns-clause-reads
returns-clause-reads c = until_stop c.marks.invariant.until (ap not (sym c.at.ensures ∙ c.marks-test.false))

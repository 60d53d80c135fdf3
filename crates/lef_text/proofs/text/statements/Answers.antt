use Rattle.std.proofs.Common.{sym, arith}
use Rattle.rt_forms.proofs.Loops.{text_more, text_done, text_err, text_end}
use Rattle.lef_text.proofs.SoundCounts.{room_more}
use Rattle.lef_text.proofs.text.statements.Goals as goal

pub returns-in_err-statement : goal.returns-in_err-statement
returns-in_err-statement c = text_err _ _ _ c.text.invariant.until (sym c.text-test.ensures) c.in_err-statement.ensures.reads c.from_residual.ensures.1

pub returns-then-branch : goal.returns-then-branch
returns-then-branch c = text_done _ _ _ c.text.invariant.until (sym c.text-test.ensures) c.in_ok-statement.ensures.reads c.if-branch.true c.end.ensures

pub text-preserved : goal.text-preserved
text-preserved c = record {
  until = text_more c.text.invariant.until (sym c.text-test.ensures) c.in_ok-statement.ensures.reads c.if-branch.false;
  few = omega (arith, c.in_ok-statement.ensures.few, c.text.invariant.few);
  room = room_more c.args.units _ _ _ _ _ c.text.invariant.room c.in_ok-statement.ensures.reads.0;
}

pub returns : goal.returns
returns c = text_end c.text.invariant.until (sym c.text-test.ensures)

use Rattle.std.proofs.Common.{arith, ◌∙◌}
use Rattle.rt_forms.proofs.Loops.{runs_more, runs_done, runs_err}
use Rattle.def_text.proofs.read.statements.Goals as goal

pub returns-in_err-statement-clause-reads : goal.returns-in_err-statement-clause-reads
returns-in_err-statement-clause-reads c = runs_err _ _ _ c.statements.invariant.runs c.in_err-statement.ensures.reads c.from_residual.ensures.1

pub statements-preserved : goal.statements-preserved
statements-preserved c = record {
  runs = runs_more c.statements.invariant.runs c.in_ok-statement.ensures.reads c.if-not-branch.true;
  sound = c.in_ok-statement.ensures.sound;
  total = c.in_ok-statement.ensures.total ∙ c.statements.invariant.total;
  few = omega (arith, c.in_ok-statement.ensures.few, c.statements.invariant.few);
}

pub returns-clause-reads : goal.returns-clause-reads
returns-clause-reads c = runs_done c.statements.invariant.runs c.in_ok-statement.ensures.reads c.if-not-branch.false

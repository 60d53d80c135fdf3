use Rattle.std.proofs.Common.{arith, ◌∙◌}
use Rattle.rt_forms.proofs.Loops.{runs_more, runs_done, runs_err}
use Rattle.def_text.proofs.read.before_units.Goals as goal

pub returns-in_err-until_units : goal.returns-in_err-until_units
returns-in_err-until_units c = runs_err _ _ _ c.statements.invariant.runs c.in_err-until_units.ensures.reads c.from_residual.ensures.1

pub statements-preserved : goal.statements-preserved
statements-preserved c = record {
  runs = runs_more c.statements.invariant.runs c.in_ok-until_units.ensures.reads c.if-not-branch.true;
  sound = c.in_ok-until_units.ensures.sound;
  total = c.in_ok-until_units.ensures.total ∙ c.statements.invariant.total;
  few = omega (arith, c.in_ok-until_units.ensures.few, c.statements.invariant.few);
}

pub returns : goal.returns
returns c = runs_done c.statements.invariant.runs c.in_ok-until_units.ensures.reads c.if-not-branch.false

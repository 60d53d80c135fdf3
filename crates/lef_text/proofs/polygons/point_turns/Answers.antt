use Rattle.rt_forms.proofs.Loops.{runs_more, runs_done, runs_err}
use Rattle.lef_text.proofs.polygons.point_turns.Goals as goal

pub returns-in_err-point_turn : goal.returns-in_err-point_turn
returns-in_err-point_turn c = runs_err _ _ _ c.lines.invariant c.in_err-point_turn.ensures c.from_residual.ensures.1

pub lines-preserved : goal.lines-preserved
lines-preserved c = runs_more c.lines.invariant c.in_ok-point_turn.ensures c.if-not-branch.true

pub returns : goal.returns
returns c = runs_done c.lines.invariant c.in_ok-point_turn.ensures c.if-not-branch.false

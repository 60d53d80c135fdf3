use Rattle.rt_forms.proofs.Loops.{runs_more, runs_done, runs_err}
use Rattle.lef_text.proofs.vias.via_lines.Goals as goal

pub returns-in_err-via_line : goal.returns-in_err-via_line
returns-in_err-via_line c = runs_err _ _ _ c.lines.invariant c.in_err-via_line.ensures c.from_residual.ensures.1

pub lines-preserved : goal.lines-preserved
lines-preserved c = runs_more c.lines.invariant c.in_ok-via_line.ensures c.if-not-branch.true

pub returns : goal.returns
returns c = runs_done c.lines.invariant c.in_ok-via_line.ensures c.if-not-branch.false

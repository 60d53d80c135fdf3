use Rattle.std.proofs.Common.{arith}
use Rattle.rt_forms.proofs.Loops.{runs_more, runs_done, runs_err}
use Rattle.lef_text.proofs.layers.layer_lines.Goals as goal

pub returns-in_err-layer_line-clause-reads : goal.returns-in_err-layer_line-clause-reads
returns-in_err-layer_line-clause-reads c = runs_err _ _ _ c.lines.invariant.runs c.in_err-layer_line.ensures.reads c.from_residual.ensures.1

pub lines-preserved : goal.lines-preserved
lines-preserved c = record { runs = runs_more c.lines.invariant.runs c.in_ok-layer_line.ensures.reads c.if-not-branch.true; few = omega (arith, c.in_ok-layer_line.ensures.few, c.lines.invariant.few) }

pub returns-clause-reads : goal.returns-clause-reads
returns-clause-reads c = runs_done c.lines.invariant.runs c.in_ok-layer_line.ensures.reads c.if-not-branch.false

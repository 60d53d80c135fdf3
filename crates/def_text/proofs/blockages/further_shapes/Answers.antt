use Rattle.rt_forms.proofs.Loops.{runs_more, runs_done, runs_err}
use Rattle.def_text.proofs.blockages.further_shapes.Goals as goal

pub returns-in_err-more_shapes-clause-reads : goal.returns-in_err-more_shapes-clause-reads
returns-in_err-more_shapes-clause-reads c = runs_err _ _ _ c.shapes.invariant.runs c.in_err-more_shapes.ensures.reads c.from_residual.ensures.1

pub shapes-preserved : goal.shapes-preserved
shapes-preserved c = record { runs = runs_more c.shapes.invariant.runs c.in_ok-more_shapes.ensures.reads c.if-not-branch.true; sound = c.in_ok-more_shapes.ensures.sound }

pub returns-clause-reads : goal.returns-clause-reads
returns-clause-reads c = runs_done c.shapes.invariant.runs c.in_ok-more_shapes.ensures.reads c.if-not-branch.false

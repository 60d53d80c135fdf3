use Rattle.rt_forms.proofs.Loops.{runs_more, runs_done, runs_err}
use Rattle.guide_text.proofs.read.further_boxes.Goals as goal

pub returns-in_err-more_boxes-clause-reads : goal.returns-in_err-more_boxes-clause-reads
returns-in_err-more_boxes-clause-reads c = runs_err _ _ _ c.boxes.invariant.runs c.in_err-more_boxes.ensures.reads c.from_residual.ensures.1

pub boxes-preserved : goal.boxes-preserved
boxes-preserved c = record { runs = runs_more c.boxes.invariant.runs c.in_ok-more_boxes.ensures.reads c.if-not-branch.true; sound = c.in_ok-more_boxes.ensures.sound }

pub returns-clause-reads : goal.returns-clause-reads
returns-clause-reads c = runs_done c.boxes.invariant.runs c.in_ok-more_boxes.ensures.reads c.if-not-branch.false

use Rattle.rt_forms.proofs.Loops.{runs_more, runs_done, runs_err}
use Rattle.def_text.proofs.tracks.further_layers.Goals as goal

pub returns-in_err-more_layers-clause-reads : goal.returns-in_err-more_layers-clause-reads
returns-in_err-more_layers-clause-reads c = runs_err _ _ _ c.layers.invariant.runs c.in_err-more_layers.ensures.reads c.from_residual.ensures.1

pub layers-preserved : goal.layers-preserved
layers-preserved c = record { runs = runs_more c.layers.invariant.runs c.in_ok-more_layers.ensures.reads c.if-not-branch.true; names = c.in_ok-more_layers.ensures.names }

pub returns-clause-reads : goal.returns-clause-reads
returns-clause-reads c = runs_done c.layers.invariant.runs c.in_ok-more_layers.ensures.reads c.if-not-branch.false

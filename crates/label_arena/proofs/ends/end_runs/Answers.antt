use Rattle.std.proofs.lemmas.List.{take_all}
use Rattle.label_arena.proofs.Ending.{runs_step}
use Rattle.label_arena.proofs.ends.end_runs.Goals as goal

pub runs-init : goal.runs-init
runs-init c = c.clear.ensures.items

pub runs-preserved : goal.runs-preserved
runs-preserved c = runs_step _ _ _ _ _ c.runs-test.true c.in_ok-add_ends.ensures c.runs.invariant

pub returns : goal.returns
returns c = rw (take_all c.runs.no c.args.runs.now c.runs-test.false) at c.runs.invariant

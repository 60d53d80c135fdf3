use Rattle.std.proofs.lemmas.List.{take_all}
use Rattle.label_arena.proofs.Ending.{bridges_step}
use Rattle.label_arena.proofs.ends.end_bridges.Goals as goal

pub bridges-init : goal.bridges-init
bridges-init c = c.clear.ensures.items

pub bridges-preserved : goal.bridges-preserved
bridges-preserved c = bridges_step _ _ _ _ _ c.bridges-test.true c.in_ok-add_ends.ensures c.bridges.invariant

pub returns : goal.returns
returns c = rw (take_all c.bridges.no c.args.bridges.now c.bridges-test.false) at c.bridges.invariant

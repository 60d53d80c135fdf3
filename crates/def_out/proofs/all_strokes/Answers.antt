use Rattle.std.proofs.Common.{sym, subst}
use Rattle.track_graph.specs.NetWalks.{IsNetWalk}
use Rattle.def_out.proofs.all_strokes.Goals as goal

pub strokes-requires-clause-walk : goal.strokes-requires-clause-walk
strokes-requires-clause-walk c =
    subst (IsNetWalk c.args.design.now c.args.net) (sym c.walk-item.is) (c.requires.walks c.loop-walk.walk-index c.walk-item.result c.loop-walk-test.true)

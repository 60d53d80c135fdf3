use Rattle.std.proofs.Common.{subst, sym}
use Rattle.track_graph.specs.NetWalks.{IsWalkOf}
use Rattle.search.proofs.change.shapes_of_walks.Goals as goal

pub walk_shapes-requires-clause-walk : goal.walk_shapes-requires-clause-walk
walk_shapes-requires-clause-walk c =
    (subst (IsWalkOf c.args.design.now c.args.net) (sym c.walk-item.is) (c.requires.walks c.loop-walk.walk-index c.walk-item.result c.loop-walk-test.true)).net_walk

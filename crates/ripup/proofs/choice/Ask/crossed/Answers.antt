use Rattle.track_graph.proofs.WalkLemmas.{routable_within, walk-walk_of}
use Rattle.ripup.proofs.choice.Ask.crossed.Goals as goal

pub crossed-requires-clause-walk : goal.crossed-requires-clause-walk
crossed-requires-clause-walk g c =
    let d = c.args.self.now.design.now in
    let n = c.args.self.now.net in
    (walk-walk_of d n c.args.self.now.own.now c.args.soft.now c.requires.ground.design (routable_within d n c.requires.ground.net) c.requires.ground.of_net.pins c.requires.ground.of_net.walks c.requires.soft.legal.walk).net_walk

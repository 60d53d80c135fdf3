use Rattle.block_check.proofs.Stored.{stored-ground, stored-least, tests-same}
use Rattle.block_check.proofs.check.Check.is_least.Goals as goal

pub is_least-requires : goal.is_least-requires
is_least-requires g c = record { ground = stored-ground c.args.self.now.design.now c.args.self.now.standing.state.now c.args.self.now.net (g.S.ShapeStore.shapes c.args.self.now.standing.store.now) c.of_net.result.now c.requires c.of_net.ensures }

pub returns : goal.returns
returns g c =
    let shapes = g.S.ShapeStore.shapes c.args.self.now.standing.store.now in
    tests-same c.is_least.result (stored-least c.args.self.now.design.now c.args.self.now.standing.state.now c.args.self.now.net shapes c.of_net.result.now c.requires c.of_net.ensures c.args.sense.now c.args.walk.now) c.is_least.ensures

use Rattle.block_check.proofs.Stored.{stored-ground, stored-none, tests-same}
use Rattle.block_check.proofs.check.Check.has_none.Goals as goal

pub has_none-requires : goal.has_none-requires
has_none-requires g c = record { ground = stored-ground c.args.self.now.design.now c.args.self.now.standing.state.now c.args.self.now.net (g.S.ShapeStore.shapes c.args.self.now.standing.store.now) c.of_net.result.now c.requires c.of_net.ensures }

pub returns : goal.returns
returns g c =
    let shapes = g.S.ShapeStore.shapes c.args.self.now.standing.store.now in
    tests-same c.has_none.result (stored-none c.args.self.now.design.now c.args.self.now.standing.state.now c.args.self.now.net shapes c.of_net.result.now c.requires c.of_net.ensures c.args.sense.now) c.has_none.ensures

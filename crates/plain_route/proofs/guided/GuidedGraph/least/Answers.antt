use Rattle.std.proofs.Common.{arith}
use Rattle.track_graph.specs.Edges.{edge_cost_of, edge_metal}
use Rattle.plain_route.specs.Stocks.{stock_reading}
use Rattle.plain_route.proofs.LegalLemmas.{at_least}
use Rattle.plain_route.proofs.guided.GuidedGraph.least.Goals as goal

pub returns : goal.returns
returns g c cost step =
    let ground = c.args.self.now.ground.now in
    let d = ground.design.now in
    let part = at_least d ground.net (stock_reading d (g.K.Stock.rips_of ground.stock.now) ground.net ground.sense.now (g.K.Stock.shapes ground.stock.now)) (edge_cost_of d c.args.from c.args.edge.now, edge_metal d c.args.from c.args.edge.now) in
    omega (arith, c.least_cost.ensures, part, step.sum)

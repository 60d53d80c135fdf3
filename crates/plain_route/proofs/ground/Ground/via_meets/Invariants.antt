use Rattle.std.proofs.Common.{◌≡◌, take, false}
use Rattle.track_graph.specs.Metal.{shapes_of, via_metal}
use Rattle.track_graph.specs.Searches.{some_conflict}
use Rattle.plain_route.specs.Stocks.{stock_reading}
use Rattle.plain_route.specs.Senses.{picked}
use Rattle.plain_route.proofs.ground.Ground.via_meets.Given as goal

abbrev pub invariant-loop-layer : goal.invariant-loop-layer
invariant-loop-layer g l = some_conflict l.fn.self.design.now.tech (take l.layer-index (shapes_of l.fn.self.net (via_metal l.fn.self.design.now.tech l.fn.via l.fn.point))) (picked l.fn.dear (stock_reading l.fn.self.design.now (g.K.Stock.rips_of l.fn.self.stock.now) l.fn.self.net l.fn.self.sense.now (g.K.Stock.shapes l.fn.self.stock.now))) ≡ false

use Rattle.std.proofs.Common.{take}
use Rattle.plain_route.specs.Stocks.{stock_reading}
use Rattle.plain_route.specs.Stops.{AreStops}
use Rattle.plain_route.proofs.ground.Ground.stops.Given as goal

abbrev pub invariant-loop-entry : goal.invariant-loop-entry
invariant-loop-entry g l = AreStops l.fn.self.design.now l.fn.self.net (stock_reading l.fn.self.design.now (g.K.Stock.rips_of l.fn.self.stock.now) l.fn.self.net l.fn.self.sense.now (g.K.Stock.shapes l.fn.self.stock.now)) (take l.entry-index l.fn.entries) l.stops

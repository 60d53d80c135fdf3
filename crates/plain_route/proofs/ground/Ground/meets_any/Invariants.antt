use Rattle.std.proofs.Common.{◌≡◌, take, false}
use Rattle.track_graph.specs.Searches.{some_conflict}
use Rattle.plain_route.specs.Stocks.{stock_reading}
use Rattle.plain_route.specs.Senses.{picked}
use Rattle.plain_route.proofs.ground.Ground.meets_any.Given as goal

abbrev pub invariant-loop-shape : goal.invariant-loop-shape
invariant-loop-shape g l = some_conflict l.fn.self.design.now.tech (take l.shape-index l.fn.shapes) (picked l.fn.dear (stock_reading l.fn.self.design.now (g.K.Stock.rips_of l.fn.self.stock.now) l.fn.self.net l.fn.self.sense.now (g.K.Stock.shapes l.fn.self.stock.now))) ≡ false

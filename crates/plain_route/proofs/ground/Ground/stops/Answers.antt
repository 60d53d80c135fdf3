use Rattle.std.proofs.Common.{pos}
use Rattle.rt_base.specs.declared.walk.EntryKind.TheVariants.{Pin as AtPin}
use Rattle.plain_route.proofs.StopLemmas.{stops_more}
use Rattle.plain_route.specs.Stocks.{stock_reading}
use Rattle.plain_route.proofs.ground.Ground.stops.Goals as goal

pub loop-entry-preserved : goal.loop-entry-preserved
loop-entry-preserved g c =
    stops_more c.args.self.now.design.now c.args.self.now.net (stock_reading c.args.self.now.design.now (g.K.Stock.rips_of c.args.self.now.stock.now) c.args.self.now.net c.args.self.now.sense.now (g.K.Stock.shapes c.args.self.now.stock.now)) c.args.entries.now c.loop-entry.entry-index (record { vertex = record { level = 0; point = record { x = pos 0; y = pos 0 } }; kind = AtPin 0 }) c.loop-entry.stops c.add_stop.new.stops c.loop-entry-test.true c.loop-entry.invariant c.in_ok-add_stop.ensures

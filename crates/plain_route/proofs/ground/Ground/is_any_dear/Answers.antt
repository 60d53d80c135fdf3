use Rattle.std.proofs.Common.{sym, ◌∙◌}
use Rattle.plain_route.proofs.FitLemmas.{none_dear}
use Rattle.plain_route.proofs.ground.Ground.is_any_dear.Goals as goal

pub returns-else-has_dear : goal.returns-else-has_dear
returns-else-has_dear g c = c.if-has_dear.false ∙ sym (none_dear c.args.self.now.design.now (g.K.Stock.rips_of c.args.self.now.stock.now) c.args.self.now.net c.args.self.now.sense.now (g.K.Stock.shapes c.args.self.now.stock.now) c.args.shapes.now (sym c.has_dear.ensures ∙ c.if-has_dear.false))

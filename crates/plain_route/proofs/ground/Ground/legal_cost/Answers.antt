use Rattle.std.proofs.Common.{◌^◌, ◌<◌, ℕ, sym, subst}
use Rattle.plain_route.proofs.FitLemmas.{edge_small}
use Rattle.plain_route.proofs.ground.Ground.legal_cost.Goals as goal

pub read_cost-requires : goal.read_cost-requires
read_cost-requires g c = subst (λ (k : ℕ). k < 2 ^ 60) (sym c.edge_cost-cost.ensures) (edge_small c.args.self.now.design.now c.args.v c.args.e.now c.requires.ground.design c.requires.edge)

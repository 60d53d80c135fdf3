use Rattle.std.proofs.Common.{◌^◌, ◌<◌, ℕ, All, sym, subst, ◌∙◌}
use Rattle.plain_route.specs.Fitting.{IsFitting}
use Rattle.plain_route.proofs.FitLemmas.{entry_fits, entry_small}
use Rattle.plain_route.proofs.ground.Ground.entry_cost.Goals as goal

pub meets_any-requires-clause-fit : goal.meets_any-requires-clause-fit
meets_any-requires-clause-fit g c = subst (All (IsFitting c.args.self.now.design.now.tech c.args.self.now.net)) (sym (c.deref.ensures.value ∙ c.in_ok-shapes.ensures)) (entry_fits c.args.self.now.design.now c.args.self.now.net c.args.entry.now c.requires.ground.design c.requires.entry)

pub is_any_dear-requires-clause-fit : goal.is_any_dear-requires-clause-fit
is_any_dear-requires-clause-fit g c = subst (All (IsFitting c.args.self.now.design.now.tech c.args.self.now.net)) (sym (c.deref-2.ensures.value ∙ c.in_ok-shapes.ensures)) (entry_fits c.args.self.now.design.now c.args.self.now.net c.args.entry.now c.requires.ground.design c.requires.entry)

pub read_cost-requires : goal.read_cost-requires
read_cost-requires g c = subst (λ (k : ℕ). k < 2 ^ 60) (sym c.entry_cost-cost.ensures) (entry_small c.args.self.now.design.now c.args.self.now.net c.args.entry.now c.requires.ground.design c.requires.entry)

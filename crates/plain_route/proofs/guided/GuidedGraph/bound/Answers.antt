use Rattle.std.proofs.Common.{All, sym, subst}
use Rattle.future_cost.specs.Laws.{IsSmall}
use Rattle.future_cost.specs.Under.{under}
use Rattle.future_cost.specs.declared.bound.Bound.{Bound}
use Rattle.plain_route.proofs.VertexLemmas.{listed_near}
use Rattle.plain_route.proofs.guided.GuidedGraph.bound.Goals as goal

pub least_bound-requires-clause-small : goal.least_bound-requires-clause-small
least_bound-requires-clause-small g c k b lt =
    let small : All (λ (b : Bound). IsSmall (under b)) c.as_slice.result.now = subst (All (λ (b : Bound). IsSmall (under b))) (sym c.as_slice.ensures) c.requires.whole.1 in
    small k b lt c.args.from (listed_near c.args.self.now.ground.now.design.now c.args.from c.requires.from)

use Rattle.std.proofs.Common.{◌∙◌, sym, ap, not}
use Rattle.least_walk.proofs.Flooding.{then_true, when_some, when_none, known_from, spreads_known, spreads_barred, spreads_reached}
use Rattle.least_walk.proofs.flood.Flood.follow.Goals as goal

pub returns-then-is_some : goal.returns-then-is_some
returns-then-is_some g c = spreads_known _ _ _ _ _ _ c.requires.flood (known_from c.args.self.now.reached c.args.edge.to _ c.get.ensures (sym c.is_some.ensures ∙ c.if-is_some.true))

pub returns-then-is_none : goal.returns-then-is_none
returns-then-is_none g c = spreads_barred _ _ _ _ _ _ c.requires.flood (when_none _ (c.is_none.ensures ∙ ap not c.if-is_none.true) c.cost.ensures.none)

pub returns : goal.returns
returns g c =
    let edge = when_some _ (c.is_none.ensures ∙ ap not c.if-is_none.false) c.cost.ensures.some in
    then_true _ (λ r. spreads_reached _ _ _ _ _ _ _ r) (c.reach.ensures _ c.requires.flood (c.requires.graph.leads _ _ _ c.requires.from edge.1))

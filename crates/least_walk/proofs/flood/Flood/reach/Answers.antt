use Rattle.std.proofs.Common.{◌∙◌, sym}
use Rattle.least_walk.proofs.Flooding.{unknown_from, reaches_new}
use Rattle.least_walk.proofs.flood.Flood.reach.Goals as goal

pub returns : goal.returns
returns c = λ vertices flood within.
    reaches_new vertices _ _ _ _ _ flood within
    (unknown_from c.args.met.now c.args.vertex _ c.get-2.ensures (sym c.is_some-2.ensures ∙ c.if-is_some-2.false))
    c.in_ok-set.ensures.ok c.in_ok-push.ensures.items

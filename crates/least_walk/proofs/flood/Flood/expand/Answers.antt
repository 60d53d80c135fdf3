use Rattle.std.proofs.Common.{sym, refl, subst, List, Contains}
use Rattle.std.proofs.lemmas.Option.{slice_get_read}
use Rattle.rt_base.specs.declared.walk.Edge.{Edge}
use Rattle.least_walk.proofs.Flooding.{then_true, flood_more}
use Rattle.least_walk.proofs.flood.Flood.expand.Goals as goal

pub returns : goal.returns
returns g c =
    then_true _
    (λ s. flood_more _ _ _ _ c.args.place c.index-from.result.now c.as_slice.result.now c.args.self.now _ c.requires.flood
    (slice_get_read _ _ _ c.index-from.result.now refl c.requires.place c.index-from.ensures)
    c.requires.place
    (λ e d edge. subst (λ (es : List Edge). Contains es e) (sym c.as_slice.ensures) (c.in_ok-edges.ensures.all e d edge))
    s)
    c.spread.ensures

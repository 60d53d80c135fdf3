use Rattle.std.proofs.Common.{◌∙◌, ℕ, List, All, ap, subst, sym}
use Rattle.std.specs.List.{list_any}
use Rattle.rt_base.specs.declared.tech.Shape.{Shape}
use Rattle.rt_base.specs.declared.walk.Walk.{Walk}
use Rattle.track_graph.specs.declared.design.Design.{Design}
use Rattle.plain_route.specs.Fitting.{IsFitting}
use Rattle.crossed_nets.specs.Hits.{has, is_hit, AreCrossed}
use Rattle.crossed_nets.proofs.Fits.{walk_fits}
use Rattle.crossed_nets.proofs.nets.crossed.Goals as goal

pub hits-requires-clause-shapes : goal.hits-requires-clause-shapes
hits-requires-clause-shapes g c =
    let d : Design = c.args.ground.now.design.now in
    subst (λ (xs : List Shape). All (IsFitting d.tech c.args.ground.now.net) xs) (sym (c.as_slice.ensures.value ∙ c.in_ok-shapes.ensures))
    (walk_fits d c.args.ground.now.net c.args.walk.now c.requires.ground.design c.requires.walk)

pub returns : goal.returns
returns g c =
    let d : Design = c.args.ground.now.design.now in
    let rips = g.K.Stock.rips_of c.args.ground.now.stock.now in
    let n : ℕ = c.args.ground.now.net in
    let w : Walk = c.args.walk.now in
    let found : List ℕ = c.ascend.new.numbers.items in
    let shapes : List Shape = g.K.Stock.shapes c.args.ground.now.stock.now in
    let are : AreCrossed d rips n w shapes found = record {
      ascending = c.ascend.ensures.ascending;
      exactly = λ m.
          c.ascend.ensures.numbers m
          ∙ ap (λ (xs : List ℕ). has xs m) c.into_vec-nets.ensures
          ∙ c.in_ok-hits.ensures m
          ∙ ap (λ (xs : List Shape). list_any (λ a. list_any (is_hit d rips n m a) shapes) xs) (c.as_slice.ensures.value ∙ c.in_ok-shapes.ensures);
    } in
    subst (λ (xs : List ℕ). AreCrossed d rips n w shapes xs) (sym c.from_vec.ensures) are

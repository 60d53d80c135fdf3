use Rattle.std.proofs.Common.{rules, ◌≡◌, ◌∙◌, ◌||◌, ℕ, List, Bool, OnOk, Result, Ok, Err, ap, subst, w64}
use Rattle.std.specs.List.{list_any}
use Rattle.std.proofs.lemmas.Int.{to_z-of_z}
use Rattle.rt_base.specs.Geometry.{grown}
use Rattle.rt_base.specs.Sides.{Sides}
use Rattle.rt_base.specs.declared.tech.Shape.{Shape}
use Rattle.shape_grid.specs.Stores.{AreNear}
use Rattle.track_graph.specs.declared.design.Design.{Design}
use Rattle.crossed_nets.specs.Hits.{has, is_hit}
use Rattle.crossed_nets.proofs.Touching.{hit-near}
use Rattle.crossed_nets.proofs.near.push_crossed.Goals as goal

then_ok : {T E P Q : Type 0} (r : Result T E) → (P → Q) → OnOk r P → OnOk r Q
then_ok (Ok x) f h = f h
then_ok (Err e) f h = tt

pub returns : goal.returns
returns g c =
    let d : Design = c.args.ground.now.design.now in
    let rips = g.K.Stock.rips_of c.args.ground.now.stock.now in
    let n : ℕ = c.args.ground.now.net in
    let a : Shape = c.args.mine.now in
    let shapes : List Shape = g.K.Stock.shapes c.args.ground.now.stock.now in
    let larger : c.grown.result ≡ grown a.rect c.reach-reach.result = c.grown.ensures ∙ ap (grown a.rect) (to_z-of_z w64 c.reach-reach.result (search rules)) in
    let near = subst (λ (r : Sides). AreNear _ a.layer r shapes c.in_ok-near.near.items) larger c.in_ok-near.ensures in
    then_ok c.push_owners.result
    (λ all m.
    all m
    ∙ ap (λ (xs : List Shape). has c.args.nets.now m || list_any (is_hit d rips n m a) xs) c.deref.ensures.value
    ∙ ap (λ (b : Bool). has c.args.nets.now m || b) (hit-near d rips n m a c.reach-reach.result _ shapes c.in_ok-near.near.items c.reach-reach.ensures.value near))
    c.push_owners.ensures

use Rattle.std.proofs.Common.{rules, ◌≡◌, Bool, ◌&&◌, List, w64, ap, ◌∙◌}
use Rattle.std.specs.List.{list_any}
use Rattle.rt_base.specs.Conflict.{conflict_of}
use Rattle.rt_base.specs.Geometry.{grown}
use Rattle.rt_base.specs.Sides.{Sides}
use Rattle.rt_base.specs.declared.tech.Shape.{Shape}
use Rattle.shape_grid.specs.Stores.{is_touching}
use Rattle.std.proofs.lemmas.Int.{to_z-of_z}
use Rattle.track_graph.proofs.ReadingLaw.{any_same}
use Rattle.plain_route.specs.Roles.{clashes, counts}
use Rattle.plain_route.proofs.StockLaw.{any_picked_of}
use Rattle.plain_route.proofs.TouchLemmas.{tests_as_conflict}
use Rattle.plain_route.proofs.ground.Ground.meets.Goals as goal

pub returns : goal.returns
returns g c =
    let d = c.args.self.now.design.now in
    let rips = g.K.Stock.rips_of c.args.self.now.stock.now in
    let n = c.args.self.now.net in
    let sense = c.args.self.now.sense.now in
    let a : Shape = c.args.shape.now in
    let p : Shape → Bool = λ b. is_touching a.layer (grown a.rect c.reach-reach.result) b && clashes d rips n sense c.args.dear a b in
    let shapes : List Shape = g.K.Stock.shapes c.args.self.now.stock.now in
    let larger : c.grown.result ≡ grown a.rect c.reach-reach.result = c.grown.ensures ∙ ap (grown a.rect) (to_z-of_z w64 c.reach-reach.result (search rules)) in
    let found : c.any_near.result ≡ list_any (λ b. is_touching a.layer c.grown.result b && clashes d rips n sense c.args.dear a b) shapes = c.any_near.ensures in
    let q : Shape → Bool = λ b. conflict_of d.tech a b && counts d rips n sense c.args.dear b in
    found
    ∙ ap (λ (r : Sides). list_any (λ b. is_touching a.layer r b && clashes d rips n sense c.args.dear a b) shapes) larger
    ∙ any_same p q shapes (λ b h. tests_as_conflict d.tech a b c.reach-reach.result (counts d rips n sense c.args.dear b) c.reach-reach.ensures.value c.requires.layer)
    ∙ any_picked_of d rips n (conflict_of d.tech a) sense c.args.dear shapes

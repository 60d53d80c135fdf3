use Rattle.std.proofs.Common.{◌≡◌, ◌^◌, ◌<◌, ℕ, Bool, true, false, ◌||◌, List, length, get_or, sym, subst, ap, ◌∙◌, arith}
use Rattle.std.specs.List.{list_any}
use Rattle.std.proofs.lemmas.List.Folds.{list_any_more, list_any_at}
use Rattle.rt_base.specs.Conflict.{conflict_of}
use Rattle.rt_base.specs.Geometry.{moved}
use Rattle.rt_base.specs.Ranges.{AreSidesWithin}
use Rattle.rt_base.specs.Sides.{Sides}
use Rattle.rt_base.specs.declared.tech.Shape.{Shape}
use Rattle.track_graph.specs.Metal.{Metal, shape_of, shapes_of, via_rects, via_metal}
use Rattle.plain_route.specs.Stocks.{stock_reading}
use Rattle.plain_route.specs.Senses.{picked}
use Rattle.plain_route.proofs.FitLemmas.{via_rect_fits, via_shape_at, via_shape_count, via_rect_within}
use Rattle.plain_route.proofs.ground.Ground.via_meets.Goals as goal

item : (m : Metal) (i : ℕ) (xs ys : List Metal) → xs ≡ ys → m ≡ get_or xs i m → m ≡ get_or ys i m
item m i xs ys e h = h ∙ ap (λ (zs : List Metal). get_or zs i m) e

inside : (i : ℕ) (xs ys : List Metal) → xs ≡ ys → i < length xs → i < length ys
inside i xs ys e h = subst (λ (zs : List Metal). i < length zs) e h

pub moved-requires-clause-rect : goal.moved-requires-clause-rect
moved-requires-clause-rect g c =
    via_rect_within c.args.self.now.design.now c.args.via c.loop-layer.layer-index c.loop-layer-item.result c.requires.ground.design c.requires.via
    (inside _ _ _ c.via_rects-layer-items.ensures c.loop-layer-test.true) (item _ _ _ _ c.via_rects-layer-items.ensures c.loop-layer-item.is)

pub meets-requires-clause-layer : goal.meets-requires-clause-layer
meets-requires-clause-layer g c =
    (via_rect_fits c.args.self.now.design.now c.args.self.now.net c.args.via c.args.point c.loop-layer.layer-index c.loop-layer-item.result c.requires.ground.design c.requires.via c.requires.point
    (inside _ _ _ c.via_rects-layer-items.ensures c.loop-layer-test.true) (item _ _ _ _ c.via_rects-layer-items.ensures c.loop-layer-item.is)).layer

pub meets-requires-clause-sides : goal.meets-requires-clause-sides
meets-requires-clause-sides g c =
    let moved_is : c.moved.result ≡ moved c.args.point c.loop-layer-item.result.1 = c.moved.ensures in
    subst (AreSidesWithin (2 ^ 61)) (sym moved_is)
    (via_rect_fits c.args.self.now.design.now c.args.self.now.net c.args.via c.args.point c.loop-layer.layer-index c.loop-layer-item.result c.requires.ground.design c.requires.via c.requires.point
    (inside _ _ _ c.via_rects-layer-items.ensures c.loop-layer-test.true) (item _ _ _ _ c.via_rects-layer-items.ensures c.loop-layer-item.is)).sides

pub returns-then-meets : goal.returns-then-meets
returns-then-meets g c =
    let d = c.args.self.now.design.now in
    let n = c.args.self.now.net in
    let i = c.loop-layer.layer-index in
    let m : Metal = c.loop-layer-item.result in
    let others : List Shape = picked c.args.dear (stock_reading d (g.K.Stock.rips_of c.args.self.now.stock.now) n c.args.self.now.sense.now (g.K.Stock.shapes c.args.self.now.stock.now)) in
    let p : Shape → Bool = λ a. list_any (conflict_of d.tech a) others in
    let xs : List Shape = shapes_of n (via_metal d.tech c.args.via c.args.point) in
    let lt : i < length (via_rects d.tech c.args.via) = inside _ _ _ c.via_rects-layer-items.ensures c.loop-layer-test.true in
    let its : m ≡ get_or (via_rects d.tech c.args.via) i m = item _ _ _ _ c.via_rects-layer-items.ensures c.loop-layer-item.is in
    let a : Shape = shape_of n (m.0, moved c.args.point m.1) in
    let moved_is : c.moved.result ≡ moved c.args.point m.1 = c.moved.ensures in
    let met : c.meets.result ≡ p (shape_of n (m.0, c.moved.result)) = c.meets.ensures in
    let yes : p a ≡ true = ap (λ (r : Sides). p (shape_of n (m.0, r))) (sym moved_is) ∙ sym met ∙ c.if-meets.true in
    sym (list_any_at p xs i a (omega (arith, lt, via_shape_count d.tech n c.args.via c.args.point)) (ap p (via_shape_at d.tech n c.args.via c.args.point i m a lt its) ∙ yes))

pub loop-layer-preserved : goal.loop-layer-preserved
loop-layer-preserved g c =
    let d = c.args.self.now.design.now in
    let n = c.args.self.now.net in
    let i = c.loop-layer.layer-index in
    let m : Metal = c.loop-layer-item.result in
    let others : List Shape = picked c.args.dear (stock_reading d (g.K.Stock.rips_of c.args.self.now.stock.now) n c.args.self.now.sense.now (g.K.Stock.shapes c.args.self.now.stock.now)) in
    let p : Shape → Bool = λ a. list_any (conflict_of d.tech a) others in
    let xs : List Shape = shapes_of n (via_metal d.tech c.args.via c.args.point) in
    let lt : i < length (via_rects d.tech c.args.via) = inside _ _ _ c.via_rects-layer-items.ensures c.loop-layer-test.true in
    let its : m ≡ get_or (via_rects d.tech c.args.via) i m = item _ _ _ _ c.via_rects-layer-items.ensures c.loop-layer-item.is in
    let a : Shape = shape_of n (m.0, moved c.args.point m.1) in
    let moved_is : c.moved.result ≡ moved c.args.point m.1 = c.moved.ensures in
    let met : c.meets.result ≡ p (shape_of n (m.0, c.moved.result)) = c.meets.ensures in
    let no : p a ≡ false = ap (λ (r : Sides). p (shape_of n (m.0, r))) (sym moved_is) ∙ sym met ∙ c.if-meets.false in
    list_any_more p xs i a (omega (arith, lt, via_shape_count d.tech n c.args.via c.args.point))
    ∙ ap (λ (b : Bool). b || p (get_or xs i a)) c.loop-layer.invariant
    ∙ ap p (via_shape_at d.tech n c.args.via c.args.point i m a lt its) ∙ no

use Rattle.std.proofs.Common.{◌∷◌, [], List, get_or, sym, subst, take}
use Rattle.std.proofs.lemmas.List.{take_more}
use Rattle.rt_base.specs.declared.tech.Shape.{Shape}
use Rattle.standing_shapes.specs.Standing.{AreAdded}
use Rattle.standing_shapes.proofs.Counts.{AreAdded-append, AreAdded-one}
use Rattle.standing_shapes.proofs.put.add_shapes.Goals as goal

pub loop-shape-preserved : goal.loop-shape-preserved
loop-shape-preserved g c =
    let a : Shape = c.shape-item.result in
    let first : List Shape = g.S.ShapeStore.shapes c.args.store.now in
    let then : List Shape = g.S.ShapeStore.shapes c.loop-shape.store in
    let last : List Shape = g.S.ShapeStore.shapes c.add.new.self in
    subst (λ (xs : List Shape). AreAdded xs first last) (sym (take_more c.args.shapes.now c.loop-shape.shape-index a c.loop-shape-test.true))
    (AreAdded-append (take c.loop-shape.shape-index c.args.shapes.now) (get_or c.args.shapes.now c.loop-shape.shape-index a ∷ []) first then last c.loop-shape.invariant
    (subst (λ (x : Shape). AreAdded (x ∷ []) then last) c.shape-item.is (AreAdded-one a then last c.in_ok-add.ensures.ok)))

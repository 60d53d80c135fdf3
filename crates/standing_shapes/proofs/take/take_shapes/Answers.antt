use Rattle.std.proofs.Common.{◌≡◌, ◌∙◌, ◌+◌, ◌≤◌, ◌∷◌, ◌++◌, [], List, Bool, true, false, Contains, ap, drop, sym, subst, take, arith}
use Rattle.std.specs.Bool.{OnTrue, OnFalse}
use Rattle.std.specs.List.{sum_by}
use Rattle.std.specs.List.Sorted.{IsPermutation}
use Rattle.std.proofs.lemmas.List.{take-append-drop, take_more}
use Rattle.std.proofs.lemmas.List.Sums.{sum_by-cons}
use Rattle.rt_base.specs.declared.tech.Shape.{Shape}
use Rattle.standing_shapes.specs.Standing.{AreAdded, AreAmong}
use Rattle.standing_shapes.proofs.Counts.{AreAdded-one, AreAdded-prepend, AreAmong-next}
use Rattle.standing_shapes.proofs.SameShape.{count_of, count_of-same, counted-contains}
use Rattle.standing_shapes.proofs.take.take_shapes.Goals as goal

-- a shape that is among those of a list is in it
among-contains : (a : Shape) (xs : List Shape) → AreAmong (a ∷ []) xs → Contains xs a
among-contains a xs h =
    let alone : sum_by (count_of a) (a ∷ []) ≡ count_of a a + sum_by (count_of a) [] = sum_by-cons (count_of a) a [] in
    let one : count_of a a ≡ 1 = count_of-same a in
    let at_most : sum_by (count_of a) (a ∷ []) ≤ sum_by (count_of a) xs = h (count_of a) in
    counted-contains a xs (omega arith)

-- what is there is found
found_where_there : (P Q : Type 0) (found : Bool) → OnTrue found P → OnFalse found (Q → ⊥) → Q → P
found_where_there P Q true h absent there = h
found_where_there P Q false h absent there = absurd (absent there)

pub loop-shape-preserved : goal.loop-shape-preserved
loop-shape-preserved g c =
    let a : Shape = c.shape-item.result in
    let shapes : List Shape = c.args.shapes.now in
    let first : List Shape = g.S.ShapeStore.shapes c.args.store.now in
    let then : List Shape = g.S.ShapeStore.shapes c.loop-shape.store in
    let last : List Shape = g.S.ShapeStore.shapes c.remove-found.new.self in
    let more : take (c.loop-shape.shape-index + 1) shapes ≡ take c.loop-shape.shape-index shapes ++ a ∷ [] =
    take_more shapes c.loop-shape.shape-index a c.loop-shape-test.true
    ∙ ap (λ (x : Shape). take c.loop-shape.shape-index shapes ++ x ∷ []) (sym c.shape-item.is) in
    let whole : shapes ≡ (take c.loop-shape.shape-index shapes ++ a ∷ []) ++ drop (c.loop-shape.shape-index + 1) shapes =
    sym (take-append-drop (c.loop-shape.shape-index + 1) shapes) ∙ ap (λ (xs : List Shape). xs ++ drop (c.loop-shape.shape-index + 1) shapes) more in
    let has : Contains then a =
    among-contains a then
    (AreAmong-next (take c.loop-shape.shape-index shapes) (a ∷ []) (drop (c.loop-shape.shape-index + 1) shapes) then first
    (subst (λ (xs : List Shape). AreAmong xs first) whole c.requires) c.loop-shape.invariant) in
    let found : IsPermutation (a ∷ last) then =
    found_where_there (IsPermutation (a ∷ last) then) (Contains then a) c.remove-found.result c.remove-found.ensures.found c.remove-found.ensures.absent has in
    subst (λ (xs : List Shape). AreAdded xs last first) (sym more)
    (AreAdded-prepend (take c.loop-shape.shape-index shapes) (a ∷ []) first then last c.loop-shape.invariant (AreAdded-one a last then found))

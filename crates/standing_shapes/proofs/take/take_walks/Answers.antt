use Rattle.std.proofs.Common.{◌≡◌, ◌∙◌, ℕ, ◌+◌, ◌<◌, ◌∷◌, ◌++◌, [], List, length, ap, drop, get_or, sym, subst, take}
use Rattle.std.specs.List.{flat_map}
use Rattle.std.proofs.lemmas.List.{append-nil, take-append-drop, take_more}
use Rattle.std.proofs.lemmas.Grind.{flat_map-append}
use Rattle.rt_base.specs.declared.tech.Shape.{Shape}
use Rattle.rt_base.specs.declared.walk.Walk.{Walk}
use Rattle.track_graph.specs.Walks.{walk_shapes_of}
use Rattle.standing_shapes.specs.Standing.{AreAmong}
use Rattle.standing_shapes.proofs.Counts.{AreAmong-next}
use Rattle.standing_shapes.proofs.take.take_walks.Goals as goal

-- the shapes of a list of walks, in three parts
three_parts : (f : Walk → List Shape) (ws : List Walk) (i : ℕ) (w : Walk) → i < length ws → w ≡ get_or ws i w → flat_map f ws ≡ (flat_map f (take i ws) ++ f w) ++ flat_map f (drop (i + 1) ws)
three_parts f ws i w l is =
    let more : take (i + 1) ws ≡ take i ws ++ w ∷ [] = take_more ws i w l ∙ ap (λ (x : Walk). take i ws ++ x ∷ []) (sym is) in
    let front : flat_map f (take (i + 1) ws) ≡ flat_map f (take i ws) ++ f w =
    ap (flat_map f) more ∙ flat_map-append f (take i ws) (w ∷ []) ∙ ap (λ (ss : List Shape). flat_map f (take i ws) ++ ss) (append-nil (f w)) in
    ap (flat_map f) (sym (take-append-drop (i + 1) ws)) ∙ flat_map-append f (take (i + 1) ws) (drop (i + 1) ws) ∙ ap (λ (ss : List Shape). ss ++ flat_map f (drop (i + 1) ws)) front

pub take_walk-requires-clause-among : goal.take_walk-requires-clause-among
take_walk-requires-clause-among g c =
    let shapes : Walk → List Shape = walk_shapes_of c.args.design.now c.args.net in
    let walks : List Walk = c.args.walks.now in
    let w : Walk = c.walk-item.result in
    let first : List Shape = g.S.ShapeStore.shapes c.args.store.now in
    let now : List Shape = g.S.ShapeStore.shapes c.loop-walk.store in
    AreAmong-next (flat_map shapes (take c.loop-walk.walk-index walks)) (shapes w) (flat_map shapes (drop (c.loop-walk.walk-index + 1) walks)) now first
    (subst (λ (xs : List Shape). AreAmong xs first) (three_parts shapes walks c.loop-walk.walk-index w c.loop-walk-test.true c.walk-item.is) c.requires.among)
    c.loop-walk.invariant

use Rattle.std.proofs.Common.{◌≡◌, ◌^◌, ◌+◌, ◌<◌, ◌++◌, ◌∷◌, [], List, subst, sym, refl, ap, ◌∙◌, pos, lit≤, length, get_or, take, map, append_assoc, arith, All}
use Rattle.std.proofs.lemmas.List.{map-append, take_more}
use Rattle.std.proofs.lemmas.List.Elements.{All-get_or}
use Rattle.rt_base.specs.Orientations.{placed}
use Rattle.rt_base.specs.Ranges.{AreSidesWithin}
use Rattle.rt_base.proofs.Ranges.{sides-weaker}
use Rattle.def_wires.specs.Meaning.{Metal, via_metal}
use Rattle.def_wires.proofs.Placing.{placed_within}
use Rattle.def_wires.proofs.rectangles.add_via.Goals as goal

pub moved-requires-clause-rect : goal.moved-requires-clause-rect
moved-requires-clause-rect c =
    let m = c.rects-item.result in
    let P : Metal → Type 0 = λ x. AreSidesWithin (2 ^ 60 + 2 ^ 30) x.1 in
    let lt : c.rects.layer-index < length c.args.rects.now = omega arith in
    let within : P m = subst P (sym c.rects-item.is) (All-get_or P c.args.rects.now c.rects.layer-index m lt c.requires.rects) in
    subst (λ s. AreSidesWithin (2 ^ 61) s) (sym c.place.ensures) (sides-weaker (2 ^ 60 + 2 ^ 30) (2 ^ 61) (placed c.args.orient (pos 0) (pos 0) m.1) (lit≤ tt) (placed_within (2 ^ 60 + 2 ^ 30) c.args.orient m.1 within))

pub rects-preserved : goal.rects-preserved
rects-preserved c =
    let m = c.rects-item.result in
    let f = via_metal c.args.orient c.args.at in
    let lt : c.rects.layer-index < length c.args.rects.now = omega arith in
    let one : take (c.rects.layer-index + 1) c.args.rects.now ≡ take c.rects.layer-index c.args.rects.now ++ m ∷ [] = take_more c.args.rects.now c.rects.layer-index m lt ∙ ap (λ (x : Metal). take c.rects.layer-index c.args.rects.now ++ x ∷ []) (sym c.rects-item.is) in
    let item : (m.0, c.moved.result) ≡ f m = rw (c.moved.ensures, c.place.ensures) refl in
    rw (one, map-append, c.in_ok-push.ensures.ok, c.rects.invariant, item, append_assoc) refl

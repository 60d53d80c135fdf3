use Rattle.std.proofs.Common.{◌∙◌, ◌++◌, ℕ, List, take, sym, ap, subst}
use Rattle.std.specs.Prelude.{flat_map}
use Rattle.std.proofs.lemmas.List.{flat_map_more}
use Rattle.rt_base.specs.Sides.{Sides}
use Rattle.rt_base.specs.declared.tech.LayerNo.{LayerNo}
use Rattle.rt_base.specs.declared.tech.Owner.{Owner}
use Rattle.rt_base.specs.declared.tech.Shape.{Shape}
use Rattle.cells.specs.Cells.{placed_rects, fixed_shapes}
use Rattle.cells.specs.Indexes.{owner_in}
use Rattle.cells.specs.Owners.{cell_owner}
use Rattle.cells.proofs.Lists.{next}
use Rattle.cells.proofs.ShapeLemmas.{pin_part, near_pin}
use Rattle.cells.specs.Ranges.{AreNear}
use Rattle.std.proofs.lemmas.List.{take_all}
use Rattle.cells.proofs.shapes.add_pins.Goals as goal

pub loop-pin-preserved : goal.loop-pin-preserved
loop-pin-preserved c =
    let whose = owner_in c.args.owners.now in
    let component = c.args.component.now in
    let of = c.args.of.now in
    let old = c.args.shapes.now.items in
    let pins = c.as_slice-pins.result.now in
    let i = c.loop-pin.pin-index in
    let pin = c.pin-item.result in
    let part = pin_part whose component of in
    let rects = c.in_ok-rects.ensures ∙ ap (placed_rects of component.placed) c.as_slice.ensures in
    let owner = c.in_ok-owner.ensures ∙ ap (λ (n : List ℕ). cell_owner whose (n, c.bytes-in-loop-pin.result.now)) c.bytes.ensures ∙ ap (λ (n : List ℕ). cell_owner whose (component.name, n)) c.bytes-in-loop-pin.ensures in
    c.in_ok-add_rects.ensures
    ∙ ap (λ (ss : List Shape). ss ++ fixed_shapes c.in_ok-owner.owner c.deref.result.now) c.loop-pin.invariant
    ∙ ap (λ (o : Owner). (old ++ flat_map part (take i pins)) ++ fixed_shapes o c.deref.result.now) owner
    ∙ ap (λ (rs : List (LayerNo × Sides)). (old ++ flat_map part (take i pins)) ++ fixed_shapes (cell_owner whose (component.name, pin.0)) rs) (c.deref.ensures.value ∙ rects)
    ∙ flat_map_more part old (take i pins) pin
    ∙ ap (λ (ps : List (List ℕ × List (LayerNo × Sides))). old ++ flat_map part ps) (sym (next pins i pin c.loop-pin-test.true c.pin-item.is))

pub placed_rects-requires-clause-rects : goal.placed_rects-requires-clause-rects
placed_rects-requires-clause-rects c = subst (λ (rs : List (LayerNo × Sides)). AreNear rs) (sym c.as_slice.ensures) (near_pin c.args.of.now c.as_slice-pins.result.now c.loop-pin.pin-index c.pin-item.result c.requires.of c.as_slice-pins.ensures c.loop-pin-test.true c.pin-item.is)

pub returns : goal.returns
returns c =
    let part = pin_part (owner_in c.args.owners.now) c.args.component.now c.args.of.now in
    c.loop-pin.invariant ∙ ap (λ (ps : List (List ℕ × List (LayerNo × Sides))). c.args.shapes.now.items ++ flat_map part ps) (take_all c.loop-pin.pin-index c.as_slice-pins.result.now c.loop-pin-test.false ∙ c.as_slice-pins.ensures)

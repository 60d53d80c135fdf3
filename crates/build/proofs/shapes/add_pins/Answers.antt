use Rattle.std.proofs.Common.{◌∙◌, ◌++◌, ℕ, List, take, sym, ap}
use Rattle.std.specs.Prelude.{flat_map}
use Rattle.std.proofs.lemmas.List.{flat_map_more}
use Rattle.rt_base.specs.Sides.{Sides}
use Rattle.rt_base.specs.declared.tech.Owner.{Owner}
use Rattle.rt_base.specs.declared.tech.Shape.{Shape}
use Rattle.def_text.specs.declared.def.IoPin.{IoPin}
use Rattle.cells.specs.Owners.{io_owner}
use Rattle.build.specs.Built.{shapes_on, pin_shapes}
use Rattle.cells.specs.Indexes.{owner_in}
use Rattle.build.proofs.Steps.{next}
use Rattle.build.proofs.shapes.add_pins.Goals as goal

pub loop-pin-preserved : goal.loop-pin-preserved
loop-pin-preserved c =
    let names = c.args.layers.now in
    let whose = owner_in c.args.owners.now in
    let old = c.args.shapes.now.items in
    let pins = c.args.pins.now in
    let i = c.loop-pin.pin-index in
    let pin = c.pin-item.result in
    let owner = c.in_ok-owner.ensures ∙ ap (io_owner whose) c.bytes.ensures in
    c.in_ok-add_shapes.ensures
    ∙ ap (λ (ss : List Shape). ss ++ shapes_on names c.in_ok-owner.owner c.as_slice.result.now) c.loop-pin.invariant
    ∙ ap (λ (o : Owner). (old ++ flat_map (pin_shapes names whose) (take i pins)) ++ shapes_on names o c.as_slice.result.now) owner
    ∙ ap (λ (rs : List (List ℕ × Sides)). (old ++ flat_map (pin_shapes names whose) (take i pins)) ++ shapes_on names (io_owner whose pin.name) rs) c.as_slice.ensures
    ∙ flat_map_more (pin_shapes names whose) old (take i pins) pin
    ∙ ap (λ (ps : List IoPin). old ++ flat_map (pin_shapes names whose) ps) (sym (next pins i pin c.loop-pin-test.true c.pin-item.is))

use Rattle.std.proofs.Common.{[], ◌∷◌, ◌∙◌, sym}
use Rattle.build.specs.Faults.{first_by, component_fault, pin_fault, rects_fault, placed_fault}
use Rattle.build.specs.Inputs.{input_by}
use Rattle.build.specs.LookUps.{layer_names_of}
use Rattle.build.proofs.NameSteps.{components_same, pins_same, blockages_same, told_at, told_last}
use Rattle.build.proofs.checks.check_placed.Goals as goal

pub returns-in_err-check_components : goal.returns-in_err-check_components
unfolding placed_fault
returns-in_err-check_components c =
    let i = input_by c.args.given.now in
    let names = layer_names_of i.lef in
    told_at 0 (first_by (component_fault i.lef.macros) i.def.components ∷ first_by (pin_fault names) i.def.pins ∷ rects_fault names i.def.blockages ∷ [])
    c.from_residual.result c.in_err-check_components.field-0.0 _ c.from_residual.ensures.1 c.in_err-check_components.ensures tt
    (components_same i c.as_slice-macros.result.now c.as_slice-components.result.now c.as_slice-macros.ensures c.as_slice-components.ensures)

pub returns-in_err-check_pins : goal.returns-in_err-check_pins
unfolding placed_fault
returns-in_err-check_pins c =
    let i = input_by c.args.given.now in
    let names = layer_names_of i.lef in
    let before = sym (components_same i c.as_slice-macros.result.now c.as_slice-components.result.now c.as_slice-macros.ensures c.as_slice-components.ensures) ∙ c.in_ok-check_components.ensures in
    told_at 1 (first_by (component_fault i.lef.macros) i.def.components ∷ first_by (pin_fault names) i.def.pins ∷ rects_fault names i.def.blockages ∷ [])
    c.from_residual-in_err-check_pins.result c.in_err-check_pins.field-0.0 _ c.from_residual-in_err-check_pins.ensures.1 c.in_err-check_pins.ensures (before, tt)
    (pins_same i c.args.known.now c.as_slice.result.now c.requires.is_lookup c.as_slice.ensures)

pub returns : goal.returns
unfolding placed_fault
returns c =
    let i = input_by c.args.given.now in
    let names = layer_names_of i.lef in
    let components = sym (components_same i c.as_slice-macros.result.now c.as_slice-components.result.now c.as_slice-macros.ensures c.as_slice-components.ensures) ∙ c.in_ok-check_components.ensures in
    let pins = sym (pins_same i c.args.known.now c.as_slice.result.now c.requires.is_lookup c.as_slice.ensures) ∙ c.in_ok-check_pins.ensures in
    told_last (first_by (component_fault i.lef.macros) i.def.components ∷ first_by (pin_fault names) i.def.pins ∷ []) c.check_rects.result _ (rects_fault names i.def.blockages) c.check_rects.ensures
    (components, (pins, tt)) (blockages_same i c.args.known.now c.as_slice-2.result.now c.requires.is_lookup c.as_slice-2.ensures)

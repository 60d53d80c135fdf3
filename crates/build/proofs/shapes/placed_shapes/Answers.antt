use Rattle.std.proofs.Common.{◌∙◌, ℕ, List, ◌++◌, ap}
use Rattle.std.specs.Prelude.{flat_map}
use Rattle.rt_base.specs.Sides.{Sides}
use Rattle.rt_base.specs.declared.tech.Owner.TheVariants.{Nobody}
use Rattle.rt_base.specs.declared.tech.Shape.{Shape}
use Rattle.lef_text.specs.declared.lef.Macro.{Macro}
use Rattle.def_text.specs.declared.def.Component.{Component}
use Rattle.def_text.specs.declared.def.IoPin.{IoPin}
use Rattle.cells.specs.Cells.{component_shapes}
use Rattle.cells.specs.Indexes.{owner_in}
use Rattle.build.specs.Built.{shapes_on, pin_shapes}
use Rattle.build.proofs.KnownLemmas.{placed_same}
use Rattle.build.proofs.shapes.placed_shapes.Goals as goal

pub returns : goal.returns
returns c =
    let names = c.args.known.now.layers in
    let whose = owner_in c.args.known.now.owners in
    let macros = c.as_slice.result.now in
    let components = c.as_slice-2.result.now in
    let pins = c.as_slice-3.result.now in
    let blocked = c.as_slice-4.result.now in
    let lef = c.args.lef.now in
    let def = c.args.def.now in
    c.in_ok-add_shapes.ensures
    ∙ ap (λ (ss : List Shape). ss ++ shapes_on names Nobody blocked) (c.in_ok-add_pins.ensures ∙ ap (λ (ss : List Shape). ss ++ flat_map (pin_shapes names whose) pins) (c.in_ok-add_components.ensures ∙ ap (λ (ss : List Shape). ss ++ flat_map (component_shapes macros whose) components) c.new-shapes.ensures.items))
    ∙ ap (λ (ms : List Macro). flat_map (component_shapes ms whose) components ++ flat_map (pin_shapes names whose) pins ++ shapes_on names Nobody blocked) c.as_slice.ensures
    ∙ ap (λ (cs : List Component). flat_map (component_shapes lef.macros whose) cs ++ flat_map (pin_shapes names whose) pins ++ shapes_on names Nobody blocked) c.as_slice-2.ensures
    ∙ ap (λ (ps : List IoPin). flat_map (component_shapes lef.macros whose) def.components ++ flat_map (pin_shapes names whose) ps ++ shapes_on names Nobody blocked) c.as_slice-3.ensures
    ∙ ap (λ (rs : List (List ℕ × Sides)). flat_map (component_shapes lef.macros whose) def.components ++ flat_map (pin_shapes names whose) def.pins ++ shapes_on names Nobody rs) c.as_slice-4.ensures
    ∙ placed_same lef def c.args.known.now c.requires.known

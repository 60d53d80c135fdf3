use Rattle.std.proofs.Common.{◌≡◌, ◌∙◌, ℕ, List, [], Bool, true, false, cond, IfOk, length, All, unwrap_or, sym, ap, subst, arith}
use Rattle.std.proofs.lemmas.List.{length-map}
use Rattle.rt_base.specs.Sides.{Sides}
use Rattle.rt_base.specs.declared.tech.Layer.{Layer}
use Rattle.track_graph.specs.Metal.{Metal}
use Rattle.lef_text.specs.declared.lef.Macro.{Macro}
use Rattle.def_text.specs.declared.def.Component.{Component}
use Rattle.def_text.specs.declared.def.IoPin.{IoPin}
use Rattle.def_text.specs.Defs.{IsComponent}
use Rattle.cells.specs.Cells.{cell_pin}
use Rattle.cells.specs.Owners.{is_io}
use Rattle.cells.specs.Ranges.{IsPlaceable}
use Rattle.build.specs.Ground.{input_on}
use Rattle.build.specs.LookUps.{layer_names_of, metals_of, pin_names, pin_rects, connected_rects}
use Rattle.build.proofs.CellLemmas.{placeable}
use Rattle.build.proofs.KnownLemmas.{metals_same, cells_same}
use Rattle.build.proofs.nets.connected.Goals as goal

pub rects_of-said-requires : goal.rects_of-said-requires
rects_of-said-requires c = c.requires.is_lookup.are_pin_names ∙ ap pin_names (sym c.as_slice-pins.ensures)

pub metals-requires : goal.metals-requires
metals-requires c = omega (arith, ap length c.requires.is_lookup.are_layer_names.shaped_names, length-map (input_on c.args.on.now).lef.layers (λ (l : Layer). l.name), c.requires.is_input.is_lef.few_layers)

pub returns-then-is_io : goal.returns-then-is_io
returns-then-is_io c =
    let lef = (input_on c.args.on.now).lef in
    let def = (input_on c.args.on.now).def in
    let known = c.args.on.now.known.now in
    let d = c.args.connection.now in
    let cells : List Metal = unwrap_or (cell_pin (input_on c.args.on.now).lef.macros (input_on c.args.on.now).def.components c.args.connection.now) [] in
    let io : is_io c.args.connection.now ≡ true = sym c.is_io.ensures ∙ c.if-is_io.true in
    let said = c.rects_of-said.ensures ∙ ap (λ (ps : List IoPin). pin_rects ps c.bytes.result.now) c.as_slice-pins.ensures ∙ ap (pin_rects def.pins) c.bytes.ensures in
    let is : metals_of c.args.on.now.known.now.layers c.rects_of-said.result.now ≡ connected_rects (input_on c.args.on.now).lef (input_on c.args.on.now).def c.args.connection.now =
    ap (metals_of known.layers) said
    ∙ ap (λ (f : List (List ℕ × Sides) → List Metal). f (pin_rects def.pins d.1)) (metals_same lef known.layers c.requires.is_lookup.are_layer_names)
    ∙ sym (ap (λ (b : Bool). cond b (metals_of (layer_names_of lef) (pin_rects def.pins d.1)) cells) io) in
    subst (λ (rs : List Metal). IfOk c.metals.result (λ v. v.items ≡ rs)) is c.metals.ensures

pub pin_rects-requires-clause-index : goal.pin_rects-requires-clause-index
pin_rects-requires-clause-index c = cells_same (input_on c.args.on.now).lef (input_on c.args.on.now).def c.args.on.now.known.now c.as_slice-macros.result.now c.as_slice-components.result.now c.requires.is_lookup c.as_slice-macros.ensures c.as_slice-components.ensures

pub pin_rects-requires-clause-macros : goal.pin_rects-requires-clause-macros
pin_rects-requires-clause-macros c =
    subst (λ (ms : List Macro). All IsPlaceable ms) (sym c.as_slice-macros.ensures) (placeable (length (input_on c.args.on.now).lef.layers) (input_on c.args.on.now).lef.macros c.requires.is_input.is_lef.macros)

pub pin_rects-requires-clause-components : goal.pin_rects-requires-clause-components
pin_rects-requires-clause-components c = subst (λ (cs : List Component). All IsComponent cs) (sym c.as_slice-components.ensures) c.requires.is_input.is_def.components

pub returns : goal.returns
returns c =
    let lef = (input_on c.args.on.now).lef in
    let def = (input_on c.args.on.now).def in
    let d = c.args.connection.now in
    let io : is_io c.args.connection.now ≡ false = sym c.is_io.ensures ∙ c.if-is_io.false in
    let is : unwrap_or (cell_pin c.as_slice-macros.result.now c.as_slice-components.result.now c.args.connection.now) [] ≡ connected_rects (input_on c.args.on.now).lef (input_on c.args.on.now).def c.args.connection.now =
    ap (λ (ms : List Macro). unwrap_or (cell_pin ms c.as_slice-components.result.now d) []) c.as_slice-macros.ensures
    ∙ ap (λ (cs : List Component). unwrap_or (cell_pin lef.macros cs d) []) c.as_slice-components.ensures
    ∙ sym (ap (λ (b : Bool). cond b (metals_of (layer_names_of lef) (pin_rects def.pins d.1)) (unwrap_or (cell_pin lef.macros def.components d) [])) io) in
    subst (λ (rs : List Metal). IfOk c.pin_rects.result (λ v. v.items ≡ rs)) is c.pin_rects.ensures

-- What the look-ups say is what LEF and DEF say.
use Rattle.std.proofs.Common.{◌≡◌, ℕ, List, [], ◌++◌, Bool, ◌||◌, not, Option, map, bytes_eq, unwrap_or, sym, ap, subst, ◌∙◌}
use Rattle.std.specs.Prelude.{flat_map}
use Rattle.std.specs.List.{list_any}
use Rattle.rt_base.specs.Sides.{Sides}
use Rattle.rt_base.specs.declared.tech.Layer.{Layer}
use Rattle.rt_base.specs.declared.tech.Owner.{Owner}
use Rattle.rt_base.specs.declared.tech.Owner.TheVariants.{Nobody}
use Rattle.track_graph.specs.Metal.{Metal}
use Rattle.lef_text.specs.declared.lef.Lef.{Lef}
use Rattle.lef_text.specs.declared.lef.Macro.{Macro}
use Rattle.def_text.specs.declared.def.Component.{Component}
use Rattle.cells.specs.declared.owners.Owners.{Owners}
use Rattle.cells.specs.Cells.{component_shapes}
use Rattle.cells.specs.Indexes.{AreOwners, AreCells, owner_in}
use Rattle.cells.specs.Owners.{owner_of}
use Rattle.def_text.specs.declared.def.Def.{Def}
use Rattle.def_text.specs.declared.def.DefNet.{DefNet}
use Rattle.def_text.specs.declared.def.IoPin.{IoPin}
use Rattle.def_text.specs.declared.def.TrackRow.{TrackRow}
use Rattle.build.specs.declared.error.BuildError.{BuildError}
use Rattle.build.specs.declared.error.BuildError.TheVariants.{NoLayer}
use Rattle.build.specs.declared.layer_names.LayerNames.{LayerNames}
use Rattle.build.specs.declared.lookup.Lookup.{Lookup}
use Rattle.build.specs.Built.{shapes_on, pin_shapes, placed_of}
use Rattle.build.specs.Faults.{fault_if, first_by, layer_fault, row_fault, rects_fault, pin_fault}
use Rattle.build.specs.Indexes.{AreLayerNames}
use Rattle.build.specs.Indexing.{IsLookup}
use Rattle.build.specs.LookUps.{layer_names_of, is_known, metals_of}

known_same : (lef : Lef) (names : LayerNames) → AreLayerNames lef names → (n : List ℕ) → is_known names n ≡ is_known (layer_names_of lef) n
known_same lef names h n =
    ap (λ (ns : List (List ℕ)). list_any (bytes_eq n) ns || list_any (bytes_eq n) names.dropped) h.shaped_names
    ∙ ap (λ (b : Bool). list_any (bytes_eq n) (map (λ (l : Layer). l.name) lef.layers) || b) (h.dropped_names n)

pub layer_fault_same : (lef : Lef) (names : LayerNames) → AreLayerNames lef names → layer_fault names ≡ layer_fault (layer_names_of lef)
layer_fault_same lef names h = λ i n. fault_if (not (known_same lef names h n i)) (NoLayer n)

pub row_fault_same : (lef : Lef) (names : LayerNames) → AreLayerNames lef names → row_fault names ≡ row_fault (layer_names_of lef)
row_fault_same lef names h =
    let by : (List ℕ → Option BuildError) → TrackRow → Option BuildError = λ f row. first_by f (unwrap_or row.layers []) in
    ap by (layer_fault_same lef names h)

pub rects_fault_same : (lef : Lef) (names : LayerNames) → AreLayerNames lef names → rects_fault names ≡ rects_fault (layer_names_of lef)
rects_fault_same lef names h =
    let by : (List ℕ → Option BuildError) → List (List ℕ × Sides) → Option BuildError = λ f rects. first_by (λ (r : List ℕ × Sides). f r.0) rects in
    ap by (layer_fault_same lef names h)

pub pin_fault_same : (lef : Lef) (names : LayerNames) → AreLayerNames lef names → pin_fault names ≡ pin_fault (layer_names_of lef)
pin_fault_same lef names h =
    let by : (List (List ℕ × Sides) → Option BuildError) → IoPin → Option BuildError = λ f pin. f pin.rects in
    ap by (rects_fault_same lef names h)

whose_same : (nets : List DefNet) (owners : Owners) → AreOwners nets owners → owner_in owners ≡ owner_of nets
whose_same nets owners h = λ i q. h q i

pub metals_same : (lef : Lef) (names : LayerNames) → AreLayerNames lef names → metals_of names ≡ metals_of (layer_names_of lef)
metals_same lef names h =
    let by : List (List ℕ) → List (List ℕ × Sides) → List Metal = λ shaped rects. metals_of (record { shaped = shaped; dropped = names.dropped }) rects in
    ap by h.shaped_names

-- the look-ups of macros and components
pub cells_same : (lef : Lef) (def : Def) (known : Lookup) (macros : List Macro) (components : List Component) → IsLookup lef def known → macros ≡ lef.macros → components ≡ def.components → AreCells macros components known.cells
cells_same lef def known macros components h m c =
    subst (λ (ms : List Macro). AreCells ms components known.cells) (sym m) (subst (λ (cs : List Component). AreCells lef.macros cs known.cells) (sym c) h.are_cells)

-- the shapes of the input, by the look-ups
pub placed_same : (lef : Lef) (def : Def) (known : Lookup) → IsLookup lef def known → flat_map (component_shapes lef.macros (owner_in known.owners)) def.components ++ flat_map (pin_shapes known.layers (owner_in known.owners)) def.pins ++ shapes_on known.layers Nobody def.blockages ≡ placed_of lef def
placed_same lef def known h =
    ap (λ (whose : List ℕ × List ℕ → Owner). flat_map (component_shapes lef.macros whose) def.components ++ flat_map (pin_shapes known.layers whose) def.pins ++ shapes_on known.layers Nobody def.blockages) (whose_same def.nets known.owners h.are_owners)
    ∙ ap (λ (shaped : List (List ℕ)). let names : LayerNames = record { shaped = shaped; dropped = known.layers.dropped } in flat_map (component_shapes lef.macros (owner_of def.nets)) def.components ++ flat_map (pin_shapes names (owner_of def.nets)) def.pins ++ shapes_on names Nobody def.blockages) h.are_layer_names.shaped_names

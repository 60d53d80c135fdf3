-- Layers, pins and nets by their names.
use Rattle.std.specs.Prelude.{ℕ, List, [], Bool, ◌||◌, if◌then◌else◌, map, position, bytes_eq, Option, option_map, unwrap_or, is_some}
use Rattle.std.specs.List.{list_any, filter_map, find}
use Rattle.rt_base.specs.Sides.{Sides}
use Rattle.rt_base.specs.declared.tech.Layer.{Layer}
use Rattle.rt_base.specs.declared.tech.LayerNo.{LayerNo}
use Rattle.track_graph.specs.Metal.{Metal}
use Rattle.lef_text.specs.declared.lef.Lef.{Lef}
use Rattle.def_text.specs.declared.def.Def.{Def}
use Rattle.def_text.specs.declared.def.DefNet.{DefNet}
use Rattle.def_text.specs.declared.def.IoPin.{IoPin}
use Rattle.cells.specs.Cells.{component_of, cell_pin}
use Rattle.cells.specs.Owners.{is_io}
use Rattle.build.specs.declared.layer_names.LayerNames.{LayerNames}

-- the names of LEF's layers: of those that hold shapes, and of the others
abbrev pub layer_names_of : Lef → LayerNames
layer_names_of lef = record { shaped = map (λ (l : Layer). l.name) lef.layers; dropped = lef.dropped }

-- the number of the layer with this name among those that hold shapes
abbrev pub layer_number : LayerNames → List ℕ → Option ℕ
layer_number names name = position (bytes_eq name) names.shaped

-- LEF has a layer of this name, of whatever type
abbrev pub is_known : LayerNames → List ℕ → Bool
is_known names name = list_any (bytes_eq name) names.shaped || list_any (bytes_eq name) names.dropped

abbrev pub layer_no_of : ℕ → LayerNo
layer_no_of k = record { 0 = k }

-- a rectangle on a named layer, nothing where the layer holds no shapes
abbrev pub metal_of : LayerNames → List ℕ × Sides → Option Metal
metal_of names r = option_map (λ (k : ℕ). (layer_no_of k, r.1)) (layer_number names r.0)

-- rectangles of DEF, without those on layers that hold no shapes
abbrev pub metals_of : LayerNames → List (List ℕ × Sides) → List Metal
metals_of names rects = filter_map (metal_of names) rects

-- the rectangles of the pin of PINS with this name, none where there is no such pin
abbrev pub pin_rects : List IoPin → List ℕ → List (List ℕ × Sides)
pin_rects pins name = unwrap_or (option_map (λ (p : IoPin). p.rects) (find (λ (p : IoPin). bytes_eq name p.name) pins)) []

abbrev pub pin_names : List IoPin → List (List ℕ)
pin_names pins = map (λ (p : IoPin). p.name) pins

abbrev pub net_names : List DefNet → List (List ℕ)
net_names nets = map (λ (n : DefNet). n.name) nets

-- a connection is to a pin of the design, or to one of a component that there is
abbrev pub has_component : Def → List ℕ × List ℕ → Bool
has_component def c = is_io c || is_some (component_of def.components c.0)

-- PINS or the component's macro has the pin of a connection
abbrev pub has_pin : Lef → Def → List ℕ × List ℕ → Bool
has_pin lef def c = if is_io c then list_any (bytes_eq c.1) (pin_names def.pins) else is_some (cell_pin lef.macros def.components c)

-- the rectangles of the pin of a connection, where it is placed
abbrev pub connected_rects : Lef → Def → List ℕ × List ℕ → List Metal
connected_rects lef def c = if is_io c then metals_of (layer_names_of lef) (pin_rects def.pins c.1) else unwrap_or (cell_pin lef.macros def.components c) []

-- What keeps a design from being built, one fault after the other: units, names, tracks and counts.
use Rattle.std.specs.Prelude.{ℕ, ◌+◌, ◌*◌, ◌-◌, ◌%◌, ◌==◌, List, [], ◌∷◌, Bool, not, if◌then◌else◌, nat_lt, length, fold, sum_by, count_by, max, min, ◌^◌, unsigned_abs, Option, Some, None, option_map, unwrap_or, is_some, bytes_eq, true, false}
use Rattle.std.specs.List.{list_any, enumerate_from}
use Rattle.std.specs.Option.{option_or}
use Rattle.rt_base.specs.Sides.{Sides}
use Rattle.rt_base.specs.Conflict.{same_owner}
use Rattle.rt_base.specs.Tiles.{columns_of, rows_of, column_of, row_of}
use Rattle.rt_base.specs.declared.grid.Grid.{Grid}
use Rattle.rt_base.specs.declared.tech.Layer.{Layer}
use Rattle.rt_base.specs.declared.tech.Owner.TheVariants.{Net as OfNet}
use Rattle.rt_base.specs.declared.tech.Shape.{Shape}
use Rattle.rt_base.specs.declared.tech.Tech.{Tech}
use Rattle.rt_base.specs.declared.tech.Via.{Via}
use Rattle.track_graph.specs.declared.design.Net.{Net}
use Rattle.track_graph.specs.declared.design.Pin.{Pin}
use Rattle.lef_text.specs.declared.lef.Lef.{Lef}
use Rattle.lef_text.specs.declared.lef.Macro.{Macro}
use Rattle.def_text.specs.declared.def.Component.{Component}
use Rattle.def_text.specs.declared.def.Def.{Def}
use Rattle.def_text.specs.declared.def.DefNet.{DefNet}
use Rattle.def_text.specs.declared.def.IoPin.{IoPin}
use Rattle.def_text.specs.declared.def.TrackRow.{TrackRow}
use Rattle.guide_text.specs.IsGuides.{Guide}
use Rattle.fixed_wires.specs.FixedWires.{vias_fault, wires_fault}
use Rattle.cells.specs.Cells.{macro_of}
use Rattle.cells.specs.Owners.{owner_of}
use Rattle.build.specs.declared.error.BuildError.{BuildError}
use Rattle.build.specs.declared.error.BuildError.TheVariants.{Scale, NoMacro, NoComponent, NoPin, NoLayer, NoNet, PinTwice, NoTracks, Limit}
use Rattle.build.specs.declared.error.Limited.{Limited}
use Rattle.build.specs.declared.error.Limited.TheVariants.{RoutingLayers, Vias, UsableVias, Tracks, Nets, FixedShapes, Coordinate, Entries, Tiles, TileShapes}
use Rattle.build.specs.declared.layer_names.LayerNames.{LayerNames}
use Rattle.build.specs.Inputs.{Input}
use Rattle.build.specs.LookUps.{layer_names_of, is_known, net_names, has_component, has_pin}
use Rattle.build.specs.TrackLines.{is_used, line_count, routing_layers}
use Rattle.build.specs.Built.{fixed_of}
use Rattle.build.specs.WireErrors.{wiring_error}
use Rattle.build.specs.Wires.{tech_said, wiring_tech}

-- the first fault of these
abbrev pub first_of : List (Option BuildError) → Option BuildError
first_of [] = None
first_of (f ∷ fs) = option_or f (first_of fs)

-- the first fault that a test finds in a list
abbrev pub first_by : {X : Type 0} → (X → Option BuildError) → List X → Option BuildError
first_by test [] = None
first_by test (x ∷ xs) = option_or (test x) (first_by test xs)

abbrev pub fault_if : Bool → BuildError → Option BuildError
fault_if b e = if b then Some e else None

-- DEF's units don't divide LEF's
abbrev pub scale_fault : Lef → Def → Option BuildError
scale_fault lef def = fault_if (not (lef.units % def.units == 0)) (Scale lef.units def.units)

-- LEF has no layer of this name
abbrev pub layer_fault : LayerNames → List ℕ → Option BuildError
layer_fault names name = fault_if (not (is_known names name)) (NoLayer name)

-- the layers that a TRACKS statement names
abbrev pub row_fault : LayerNames → TrackRow → Option BuildError
row_fault names row = first_by (layer_fault names) (unwrap_or row.layers [])

-- the layers of named rectangles
abbrev pub rects_fault : LayerNames → List (List ℕ × Sides) → Option BuildError
rects_fault names rects = first_by (λ (r : List ℕ × Sides). layer_fault names r.0) rects

abbrev pub pin_fault : LayerNames → IoPin → Option BuildError
pin_fault names pin = rects_fault names pin.rects

-- the macro of a component
abbrev pub component_fault : List Macro → Component → Option BuildError
component_fault macros c = fault_if (not (is_some (macro_of macros c.of))) (NoMacro c.of)

-- a connection of net n: there is no such component; the component, or PINS, has no such pin; the pin is another net's
abbrev pub connection_fault : Lef → Def → ℕ → List ℕ × List ℕ → Option BuildError
connection_fault lef def n c = first_of (
    fault_if (not (has_component def c)) (NoComponent c.0)
    ∷ fault_if (not (has_pin lef def c)) (NoPin c.1)
    ∷ fault_if (not (same_owner (owner_of def.nets c) (OfNet n))) (PinTwice c.1)
    ∷ [])

-- a count above its most
abbrev pub limit_fault : Limited → ℕ → ℕ → Option BuildError
limit_fault what count most = fault_if (nat_lt most count) (Limit what count most)

-- the items of VIAS
abbrev pub items_fault : Input → Option BuildError
items_fault i = option_map wiring_error (vias_fault (tech_said i.lef) i.text i.tokens i.def.vias)

-- how many vias LEF and DEF say, and then the items of VIAS
abbrev pub vias_part : Input → Option BuildError
vias_part i = option_or (limit_fault Vias (length i.lef.vias + length i.def.vias) 4294967295) (items_fault i)

-- the wiring of a net, where special of a net of SPECIALNETS
abbrev pub wiring_fault : Input → Bool → DefNet → Option BuildError
wiring_fault i special net = option_map wiring_error (wires_fault (wiring_tech i) i.text i.tokens special net.wiring)

-- a net of NETS: its connections, and then its wiring
abbrev pub net_fault : Input → ℕ × DefNet → Option BuildError
net_fault i net = option_or (first_by (connection_fault i.lef i.def net.0) net.1.pins) (wiring_fault i false net.1)

-- an entry of the guides: its net, by the names of NETS, and then the layers of its boxes
abbrev pub guide_fault : LayerNames → List (List ℕ) → Guide → Option BuildError
guide_fault names nets guide = option_or (fault_if (not (list_any (bytes_eq guide.0) nets)) (NoNet guide.0)) (rects_fault names guide.1)

-- a routing layer for which no TRACKS statement is used
abbrev pub level_fault : List TrackRow → Layer → Option BuildError
level_fault rows l = fault_if (not (list_any (is_used l) rows)) (NoTracks l.name)

-- units, and the layers that TRACKS statements name
unfoldable pub unit_fault : Input → Option BuildError
unit_fault i = first_of (
    scale_fault i.lef i.def
    ∷ first_by (row_fault (layer_names_of i.lef)) i.def.tracks
    ∷ [])

-- the macros of components, and the layers of pins and of blockages
unfoldable pub placed_fault : Input → Option BuildError
placed_fault i = first_of (
    first_by (component_fault i.lef.macros) i.def.components
    ∷ first_by (pin_fault (layer_names_of i.lef)) i.def.pins
    ∷ rects_fault (layer_names_of i.lef) i.def.blockages
    ∷ [])

-- the wiring of special nets, and the connections and the wiring of nets
unfoldable pub wired_fault : Input → Option BuildError
wired_fault i = first_of (
    first_by (wiring_fault i true) i.def.special
    ∷ first_by (net_fault i) (enumerate_from 0 i.def.nets)
    ∷ [])

-- layers without tracks, guides, and how many routing layers there are
unfoldable pub level_and_guide_fault : Input → Option BuildError
level_and_guide_fault i = first_of (
    first_by (level_fault i.def.tracks) (routing_layers i.lef.layers)
    ∷ first_by (guide_fault (layer_names_of i.lef) (net_names i.def.nets)) (unwrap_or i.guides [])
    ∷ limit_fault RoutingLayers (length (routing_layers i.lef.layers)) 16
    ∷ [])

-- the sections of DEF: vias, what is placed, and wiring
unfoldable pub section_fault : Input → Option BuildError
section_fault i = option_or (vias_part i) (option_or (placed_fault i) (wired_fault i))

-- units and names, section by section, each in file order; then levels and guides
unfoldable pub name_fault : Input → Option BuildError
name_fault i = first_of (
    unit_fault i
    ∷ section_fault i
    ∷ level_and_guide_fault i
    ∷ [])

-- the greatest distance of a side from 0
abbrev pub farthest : Sides → ℕ
farthest s = max (max (unsigned_abs s.xl) (unsigned_abs s.xh)) (max (unsigned_abs s.yl) (unsigned_abs s.yh))

abbrev pub largest_coordinate : List Shape → ℕ
largest_coordinate shapes = fold (λ (most : ℕ) (s : Shape). max most (farthest s.rect)) 0 shapes

abbrev pub usable_count : Tech → ℕ
usable_count tech = count_by (λ (v : Via). v.usable) tech.vias

-- the lines of a level, as the limit says them: no number above 2^128 - 1 is said
abbrev pub lines_said : Layer → List TrackRow → ℕ
lines_said l rows = min (line_count l rows) (2 ^ 128 - 1)

-- usable vias, track lines (level by level, bottom up), nets, shapes of the input and their coordinates
abbrev pub count_faults : Input → Tech → List (Option BuildError)
count_faults i tech =
    limit_fault UsableVias (usable_count tech) 64
    ∷ first_by (λ (l : Layer). limit_fault Tracks (lines_said l i.def.tracks) 65536) (routing_layers i.lef.layers)
    ∷ limit_fault Nets (length i.def.nets) 1000000
    ∷ limit_fault FixedShapes (length (fixed_of i)) 4194304
    ∷ limit_fault Coordinate (largest_coordinate (fixed_of i)) 1073741824
    ∷ []

abbrev pub count_fault : Input → Tech → Option BuildError
count_fault i tech = first_of (count_faults i tech)

-- how many entries the pins of these nets have
abbrev pub entry_count : List Net → ℕ
entry_count nets = sum_by (λ (net : Net). sum_by (λ (pin : Pin). length pin.entries) net.pins) nets

-- how many tiles a rectangle meets: so many columns and rows lie between those of its corners
abbrev pub met_count : Grid → Sides → ℕ
met_count g s = (column_of g s.xh - column_of g s.xl + 1) * (row_of g s.yh - row_of g s.yl + 1)

-- entries, tiles, and pairs of a tile and a shape of the input that meets it
abbrev pub size_by : Grid → List Shape → ℕ → Option BuildError
size_by grid fixed count = first_of (
    limit_fault Entries count 16777216
    ∷ limit_fault Tiles (columns_of grid * rows_of grid) 1048576
    ∷ limit_fault TileShapes (sum_by (λ (s : Shape). met_count grid s.rect) fixed) 16777216
    ∷ [])

abbrev pub size_fault : Grid → List Shape → List Net → Option BuildError
size_fault grid fixed nets = size_by grid fixed (entry_count nets)

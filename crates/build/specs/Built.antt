-- The design that LEF, DEF and guides describe (LEF 5.8: LAYER, VIA and MACRO; DEF 5.8: DIEAREA, TRACKS, VIAS, COMPONENTS, PINS, BLOCKAGES, SPECIALNETS and NETS; ISPD 2018 contest: guides). The kinds of nets, tiles and entries are this project's own.
use Rattle.std.specs.Prelude.{◌≡◌, ℕ, List, [], ◌∷◌, ◌++◌, IsTrue, Bool, false, not, if◌then◌else◌, nat_lt, ◌↔◌, length, map, flat_map, codes, Contains, AllPairs, Option, Some, None}
use Rattle.std.specs.List.{AllZip, enumerate_from}
use Rattle.rt_base.specs.Sides.{Sides}
use Rattle.rt_base.specs.declared.grid.Grid.{Grid}
use Rattle.rt_base.specs.declared.tech.Layer.{Layer}
use Rattle.rt_base.specs.declared.tech.Owner.{Owner}
use Rattle.rt_base.specs.declared.tech.Owner.TheVariants.{Nobody}
use Rattle.rt_base.specs.declared.tech.Shape.{Shape}
use Rattle.rt_base.specs.declared.tech.Tech.{Tech}
use Rattle.rt_base.specs.declared.tech.Via.{Via}
use Rattle.rt_base.specs.declared.walk.Entry.{Entry}
use Rattle.track_graph.specs.declared.design.Design.{Design}
use Rattle.track_graph.specs.declared.design.Net.{Net}
use Rattle.track_graph.specs.declared.design.NetKind.{NetKind}
use Rattle.track_graph.specs.declared.design.NetKind.TheVariants.{Routable, Prewired, Unguided, Single}
use Rattle.track_graph.specs.declared.design.Options.{Options}
use Rattle.track_graph.specs.declared.design.Pin.{Pin}
use Rattle.track_graph.specs.Designs.{IsUsable}
use Rattle.track_graph.specs.Entries.{IsEntry}
use Rattle.track_graph.specs.Levels.{TrackSystem}
use Rattle.track_graph.specs.Metal.{Metal}
use Rattle.lef_text.specs.declared.lef.Lef.{Lef}
use Rattle.def_text.specs.declared.def.Def.{Def}
use Rattle.def_text.specs.declared.def.DefNet.{DefNet}
use Rattle.def_text.specs.declared.def.IoPin.{IoPin}
use Rattle.guide_text.specs.IsGuides.{Guide}
use Rattle.net_guides.specs.NetGuides.{is_guided, boxes_of}
use Rattle.cells.specs.Cells.{fixed_shapes, component_shapes}
use Rattle.cells.specs.Owners.{owner_of, io_owner}
use Rattle.pin_access.specs.EntryOrder.{system_of, IsEntryBefore}
use Rattle.build.specs.declared.layer_names.LayerNames.{LayerNames}
use Rattle.build.specs.Inputs.{Input}
use Rattle.build.specs.LookUps.{layer_names_of, metals_of, connected_rects}
use Rattle.build.specs.TrackLines.{AreTracksOf, routing_layers}
use Rattle.build.specs.Wires.{special_shapes, wired_shapes, wiring_tech}

-- a via that LEF or DEF says; routing may use it where it is DEFAULT and its rectangles join two neighbouring levels
pub record IsViaSaid (tech : Tech) (said via : Via) : Type 0 where
  pub name : via.name ≡ said.name
  pub rects : via.rects ≡ said.rects
  pub usable : IsTrue via.usable ↔ (IsTrue said.usable × IsUsable tech said.rects)

-- LEF's layers, LEF's vias, and after them the vias of DEF, which are never DEFAULT
pub record IsTechOf (i : Input) (tech : Tech) : Type 0 where
  pub layers : tech.layers ≡ i.lef.layers
  pub vias : AllZip (IsViaSaid tech) (wiring_tech i).vias tech.vias

-- the shapes of rectangles of DEF
abbrev pub shapes_on : LayerNames → Owner → List (List ℕ × Sides) → List Shape
shapes_on names owner rects = fixed_shapes owner (metals_of names rects)

-- the shapes of a pin of the design, where this function says whose the pin of a connection is
abbrev pub pin_shapes : LayerNames → (List ℕ × List ℕ → Owner) → IoPin → List Shape
pin_shapes names whose pin = shapes_on names (io_owner whose pin.name) pin.rects

-- the shapes of the components in file order, then those of the pins of the design, then the blockages, which are nobody's
abbrev pub placed_of : Lef → Def → List Shape
placed_of lef def =
    flat_map (component_shapes lef.macros (owner_of def.nets)) def.components ++ flat_map (pin_shapes (layer_names_of lef) (owner_of def.nets)) def.pins ++ shapes_on (layer_names_of lef) Nobody def.blockages

-- and then the wiring of the special nets, and that of the nets, in file order
abbrev pub fixed_of : Input → List Shape
fixed_of i = placed_of i.lef i.def ++ flat_map (special_shapes i) i.def.special ++ flat_map (wired_shapes i) (enumerate_from 0 i.def.nets)

-- there are guides, and none for the net of this name
abbrev pub is_unguided : Option (List Guide) → List ℕ → Bool
is_unguided None name = false
is_unguided (Some guides) name = not (is_guided guides name)

-- a net with wiring of its own is wired already; one with fewer than two pins has nothing to be joined; one that the guides leave out isn't routed
abbrev pub kind_of : Option (List Guide) → DefNet → NetKind
kind_of guides net =
    if nat_lt 0 (length net.wiring) then Prewired
    else if nat_lt (length net.pins) 2 then Single
    else if is_unguided guides net.name then Unguided
    else Routable

-- without guides a net may run anywhere in the die: a box for each level
abbrev pub whole_guide : Sides → List Layer → List (ℕ × Sides)
whole_guide die layers = map (λ (l : ℕ × Layer). (l.0, die)) (enumerate_from 0 (routing_layers layers))

-- the guide of the net of this name
abbrev pub guide_of : Sides → List Layer → Option (List Guide) → List ℕ → List (ℕ × Sides)
guide_of die layers None name = whole_guide die layers
guide_of die layers (Some guides) name = boxes_of layers guides name

-- the entries of pin k of a net
pub record AreEntriesOf (g : TrackSystem) (k : ℕ) (rects : List Metal) (entries : List Entry) : Type 0 where
  pub exactly : (e : Entry) → Contains entries e ↔ IsEntry g k rects e
  pub ordered : AllPairs IsEntryBefore entries

-- pin k of a net, named by this connection
pub record IsPinOf (lef : Lef) (def : Def) (g : TrackSystem) (named : ℕ × (List ℕ × List ℕ)) (pin : Pin) : Type 0 where
  pub comp : pin.comp ≡ named.1.0
  pub name : pin.pin ≡ named.1.1
  pub rects : pin.rects ≡ connected_rects lef def named.1
  pub entries : AreEntriesOf g named.0 pin.rects pin.entries

pub record IsNetOf (i : Input) (g : TrackSystem) (said : DefNet) (net : Net) : Type 0 where
  pub name : net.name ≡ said.name
  pub pins : AllZip (IsPinOf i.lef i.def g) (enumerate_from 0 said.pins) net.pins
  pub guide : net.guide ≡ guide_of g.die g.tech.layers i.guides said.name
  pub kind : net.kind ≡ kind_of i.guides said
  pub close : net.close ≡ said.close

-- LEF's counts of statements that are read and not used, and then DEF's
abbrev pub skipped_of : Lef → Def → List (List ℕ × ℕ)
skipped_of lef def = lef.skipped ++ (codes "NETS", def.skipped) ∷ []

abbrev pub grid_of : Def → Options → Grid
grid_of def options = record { die = def.die; tile = options.tile }

-- the design of an input and options
pub record IsDesignOf (i : Input) (chosen : Options) (d : Design) : Type 0 where
  pub tech : IsTechOf i d.tech
  pub tracks : AreTracksOf i.lef i.def d.tracks
  pub grid : d.grid ≡ grid_of i.def chosen
  pub nets : AllZip (IsNetOf i (system_of d.tech d.tracks i.def.die)) i.def.nets d.nets
  pub fixed : d.fixed ≡ fixed_of i
  pub options : d.options ≡ chosen
  pub skipped : d.skipped ≡ skipped_of i.lef i.def

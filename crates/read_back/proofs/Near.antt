-- The rectangles of pins are near enough, since they are shapes of the input.
use Rattle.std.proofs.Common.{◌≡◌, ℕ, ◌≤◌, ◌^◌, List, [], ◌++◌, Bool, true, false, cond, Option, Some, None, option_map, unwrap_or, All, refl, sym, subst, flat_map, bytes_eq, arith}
use Rattle.std.specs.Prelude.{option_and_then, slice_get}
use Rattle.std.specs.List.{enumerate_from}
use Rattle.std.proofs.lemmas.List.Elements.{All-nil, All-weaker}
use Rattle.rt_base.specs.Ranges.{AreSidesWithin}
use Rattle.rt_base.specs.declared.geometry.Point.{Point}
use Rattle.rt_base.specs.declared.orient.Orient.{Orient}
use Rattle.rt_base.specs.declared.tech.Owner.{Owner}
use Rattle.rt_base.specs.declared.tech.Owner.TheVariants.{Nobody}
use Rattle.rt_base.specs.declared.tech.Shape.{Shape}
use Rattle.track_graph.specs.declared.design.Design.{Design}
use Rattle.track_graph.specs.declared.design.Net.{Net}
use Rattle.track_graph.specs.declared.design.Options.{Options}
use Rattle.track_graph.specs.declared.design.Pin.{Pin}
use Rattle.track_graph.specs.Levels.{TrackSystem}
use Rattle.track_graph.specs.Metal.{Metal}
use Rattle.lef_text.specs.declared.lef.Lef.{Lef}
use Rattle.lef_text.specs.declared.lef.Macro.{Macro}
use Rattle.def_text.specs.declared.def.Component.{Component}
use Rattle.def_text.specs.declared.def.Def.{Def}
use Rattle.def_text.specs.declared.def.IoPin.{IoPin}
use Rattle.def_text.specs.Defs.{IsDef}
use Rattle.pin_access.specs.EntryOrder.{system_of}
use Rattle.cells.specs.Cells.{fixed_shape, fixed_shapes, placed_rects, pin_in, pin_of, macro_of, component_of, cell_pin, macro_shapes, component_shapes}
use Rattle.cells.specs.Owners.{is_io, io_owner, owner_of, cell_owner}
use Rattle.cells.proofs.Lists.{All-found}
use Rattle.build.specs.Built.{placed_of, pin_shapes, shapes_on, fixed_of, IsNetOf, IsPinOf}
use Rattle.build.specs.Faults.{farthest, largest_coordinate}
use Rattle.build.specs.Refusals.{Gives}
use Rattle.build.specs.Wires.{special_shapes, wired_shapes}
use Rattle.build.specs.Inputs.{Input}
use Rattle.build.specs.LookUps.{layer_names_of, metals_of, pin_rects, connected_rects}
use Rattle.build.proofs.Zips.{AllZip-second}
use Rattle.build.proofs.FirstFaults.{counted}
use Rattle.build.proofs.Steps.{rects_named}
use Rattle.wire_cover.specs.GoodStrokes.{IsNear}
use Rattle.read_back.proofs.Lists.{all_left, all_right, all_parts, all_unmapped, max_each}

abbrev pub IsNearMetal : Metal → Type 0
IsNearMetal m = AreSidesWithin (2 ^ 30) m.1

abbrev IsNearShape : Shape → Type 0
IsNearShape s = AreSidesWithin (2 ^ 30) s.rect

-- shapes of rectangles
near_rects : (owner : Owner) (rects : List Metal) → All IsNearShape (fixed_shapes owner rects) → All IsNearMetal rects
near_rects owner rects h = all_unmapped IsNearShape (fixed_shape owner) rects h

none_near : All IsNearMetal []
none_near = All-nil IsNearMetal

-- the pin of a macro
pin_near : (whose : List ℕ → Owner) (name : List ℕ) (at : Option (Point × Orient)) (m : Macro) → All IsNearShape (macro_shapes whose at m) → All IsNearMetal (unwrap_or (option_map (λ (p : List ℕ × List Metal). placed_rects m at p.1) (pin_in name m)) [])
pin_near whose name at m h = by_pin (pin_in name m) (λ p e. All-found (λ q. All IsNearShape (part q)) (λ (q : List ℕ × List Metal). bytes_eq name q.0) m.pins p parts e)
  where
    part : List ℕ × List Metal → List Shape
    part p = fixed_shapes (whose p.0) (placed_rects m at p.1)

    parts : All (λ q. All IsNearShape (part q)) m.pins
    parts = all_parts IsNearShape part m.pins (all_left IsNearShape (flat_map part m.pins) (fixed_shapes Nobody (placed_rects m at m.obs)) h)

    by_pin : (o : Option (List ℕ × List Metal)) → ((p : List ℕ × List Metal) → o ≡ Some p → All IsNearShape (part p)) → All IsNearMetal (unwrap_or (option_map (λ (p : List ℕ × List Metal). placed_rects m at p.1) o) [])
    by_pin None k = none_near
    by_pin (Some p) k = near_rects (whose p.0) (placed_rects m at p.1) (k p refl)

-- the pin of a component
cell_near : (macros : List Macro) (whose : List ℕ × List ℕ → Owner) (components : List Component) (c : List ℕ × List ℕ) → All IsNearShape (flat_map (component_shapes macros whose) components) → All IsNearMetal (unwrap_or (cell_pin macros components c) [])
cell_near macros whose components c h = by_component (component_of components c.0) (λ x e. All-found (λ y. All IsNearShape (component_shapes macros whose y)) (λ (y : Component). bytes_eq c.0 y.name) components x (all_parts IsNearShape (component_shapes macros whose) components h) e)
  where
    by_macro : (x : Component) (o : Option Macro) → All IsNearShape (unwrap_or (option_map (macro_shapes (λ (name : List ℕ). cell_owner whose (x.name, name)) x.placed) o) []) → All IsNearMetal (unwrap_or (option_and_then (λ (m : Macro). option_map (λ (p : List ℕ × List Metal). placed_rects m x.placed p.1) (pin_in c.1 m)) o) [])
    by_macro x None k = none_near
    by_macro x (Some m) k = pin_near (λ (name : List ℕ). cell_owner whose (x.name, name)) c.1 x.placed m k

    by_component : (o : Option Component) → ((x : Component) → o ≡ Some x → All IsNearShape (component_shapes macros whose x)) → All IsNearMetal (unwrap_or (option_and_then (pin_of macros c.1) o) [])
    by_component None k = none_near
    by_component (Some x) k = by_macro x (macro_of macros x.of) (k x refl)

-- the pin of a connection
connected_near : (lef : Lef) (def : Def) (c : List ℕ × List ℕ) → All IsNearShape (placed_of lef def) → All IsNearMetal (connected_rects lef def c)
connected_near lef def c h = by_kind (is_io c)
  where
    cells : List Shape
    cells = flat_map (component_shapes lef.macros (owner_of def.nets)) def.components

    pins : List Shape
    pins = flat_map (pin_shapes (layer_names_of lef) (owner_of def.nets)) def.pins

    blocked : List Shape
    blocked = shapes_on (layer_names_of lef) Nobody def.blockages

    each_pin : All (λ (p : IoPin). All IsNearMetal (metals_of (layer_names_of lef) p.rects)) def.pins
    each_pin = All-weaker (λ (p : IoPin). All IsNearShape (pin_shapes (layer_names_of lef) (owner_of def.nets) p)) (λ (p : IoPin). All IsNearMetal (metals_of (layer_names_of lef) p.rects))
        (λ p k. near_rects (io_owner (owner_of def.nets) p.name) (metals_of (layer_names_of lef) p.rects) k) def.pins
        (all_parts IsNearShape (pin_shapes (layer_names_of lef) (owner_of def.nets)) def.pins (all_right IsNearShape cells pins (all_left IsNearShape (cells ++ pins) blocked h)))

    by_kind : (b : Bool) → All IsNearMetal (cond b (metals_of (layer_names_of lef) (pin_rects def.pins c.1)) (unwrap_or (cell_pin lef.macros def.components c) []))
    by_kind true = rects_named (λ rs. All IsNearMetal (metals_of (layer_names_of lef) rs)) def.pins c.1 none_near each_pin
    by_kind false = cell_near lef.macros (owner_of def.nets) def.components c (all_left IsNearShape cells pins (all_left IsNearShape (cells ++ pins) blocked h))

-- all shapes are as near as the farthest
shape_near : (s : Shape) → farthest s.rect ≤ 2 ^ 30 → IsNearShape s
shape_near s h = (omega arith, omega arith, omega arith, omega arith)

pub pins_near : (i : Input) → largest_coordinate (fixed_of i) ≤ 2 ^ 30 → (c : List ℕ × List ℕ) → All IsNearMetal (connected_rects i.lef i.def c)
pins_near i h c =
    connected_near i.lef i.def c
    (all_left IsNearShape (placed_of i.lef i.def) (flat_map (special_shapes i) i.def.special) (all_left IsNearShape (placed_of i.lef i.def ++ flat_map (special_shapes i) i.def.special) (flat_map (wired_shapes i) (enumerate_from 0 i.def.nets)) (All-weaker (λ (s : Shape). farthest s.rect ≤ 2 ^ 30) IsNearShape shape_near (fixed_of i) (max_each (λ (s : Shape). farthest s.rect) 0 (2 ^ 30) (fixed_of i) h))))

-- ---- the pins of a design

by_pin : (pins : List Pin) → ((k : ℕ) (pin : Pin) → slice_get pins k ≡ Some pin → All IsNearMetal pin.rects) → (k : ℕ) → All IsNearMetal (unwrap_or (option_map (λ (p : Pin). p.rects) (slice_get pins k)) [])
by_pin pins h k = by_case (slice_get pins k) (h k)
  where
    by_case : (o : Option Pin) → ((pin : Pin) → o ≡ Some pin → All IsNearMetal pin.rects) → All IsNearMetal (unwrap_or (option_map (λ (p : Pin). p.rects) o) [])
    by_case None g = none_near
    by_case (Some pin) g = g pin refl

pub design_near : (i : Input) (options : Options) (d : Design) → IsDef i.def → Gives i options d → IsNear d
design_near i options d ok gives = record { die = rw gives.design.grid ok.die; pins = λ n k. by_net (slice_get d.nets n) (net_near n) k }
  where
    few : largest_coordinate (fixed_of i) ≤ 2 ^ 30
    few = (counted i d.tech gives.passes.counts).near

    g : TrackSystem
    g = system_of d.tech d.tracks i.def.die

    net_near : (n : ℕ) (net : Net) → slice_get d.nets n ≡ Some net → (k : ℕ) (pin : Pin) → slice_get net.pins k ≡ Some pin → All IsNearMetal pin.rects
    net_near n net at k pin is =
        let said = AllZip-second (IsNetOf i g) i.def.nets d.nets n net gives.design.nets at in
        let named = AllZip-second (IsPinOf i.lef i.def g) (enumerate_from 0 said.0.pins) net.pins k pin said.2.pins is in
        subst (All IsNearMetal) (sym named.2.rects) (pins_near i few named.0.1)

    by_net : (o : Option Net) → ((net : Net) → o ≡ Some net → (k : ℕ) (pin : Pin) → slice_get net.pins k ≡ Some pin → All IsNearMetal pin.rects) → (k : ℕ) → All IsNearMetal (unwrap_or (option_map (λ (p : Pin). p.rects) (slice_get (unwrap_or (option_map (λ (net : Net). net.pins) o) []) k)) [])
    by_net None h k = by_pin [] (λ j pin e. absurd cc) k
    by_net (Some net) h k = by_pin net.pins (h net refl) k

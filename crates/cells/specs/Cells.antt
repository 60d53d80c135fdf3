-- Placed components: their macros, turned and moved (LEF 5.8, MACRO; DEF 5.8, COMPONENTS).
use Rattle.std.specs.Prelude.{ℕ, List, [], ◌++◌, true, map, flat_map, bytes_eq, Option, Some, None, option_map, option_and_then, unwrap_or}
use Rattle.std.specs.List.{find}
use Rattle.rt_base.specs.Sides.{Sides}
use Rattle.rt_base.specs.Geometry.{moved}
use Rattle.rt_base.specs.Orientations.{placed}
use Rattle.rt_base.specs.declared.geometry.Point.{Point}
use Rattle.rt_base.specs.declared.orient.Orient.{Orient}
use Rattle.rt_base.specs.declared.tech.LayerNo.{LayerNo}
use Rattle.rt_base.specs.declared.tech.Owner.{Owner}
use Rattle.rt_base.specs.declared.tech.Owner.TheVariants.{Nobody}
use Rattle.rt_base.specs.declared.tech.Shape.{Shape}
use Rattle.lef_text.specs.declared.lef.Macro.{Macro}
use Rattle.def_text.specs.declared.def.Component.{Component}
use Rattle.cells.specs.Owners.{cell_owner}

-- the macro of a name
abbrev pub macro_of : List Macro → List ℕ → Option Macro
macro_of macros name = find (λ (m : Macro). bytes_eq name m.name) macros

-- the component of a name
abbrev pub component_of : List Component → List ℕ → Option Component
component_of components name = find (λ (c : Component). bytes_eq name c.name) components

-- the pin of a name in a macro, with its rectangles
abbrev pub pin_in : List ℕ → Macro → Option (List ℕ × List (LayerNo × Sides))
pin_in name m = find (λ (p : List ℕ × List (LayerNo × Sides)). bytes_eq name p.0) m.pins

-- a rectangle of a macro, turned and moved
abbrev pub placed_rect : Macro → Point × Orient → LayerNo × Sides → LayerNo × Sides
placed_rect m at r = (r.0, moved at.0 (placed at.1 m.w m.h r.1))

-- rectangles of a macro where a component of it is placed, none where it isn't
abbrev pub placed_rects : Macro → Option (Point × Orient) → List (LayerNo × Sides) → List (LayerNo × Sides)
placed_rects m None rects = []
placed_rects m (Some at) rects = map (placed_rect m at) rects

-- the rectangles of a component's pin, where the component's macro has a pin of this name
abbrev pub pin_of : List Macro → List ℕ → Component → Option (List (LayerNo × Sides))
pin_of macros name c =
    option_and_then (λ (m : Macro). option_map (λ (p : List ℕ × List (LayerNo × Sides)). placed_rects m c.placed p.1) (pin_in name m)) (macro_of macros c.of)

-- the rectangles of the pin that a connection to a component names, where there is one
abbrev pub cell_pin : List Macro → List Component → List ℕ × List ℕ → Option (List (LayerNo × Sides))
cell_pin macros components c = option_and_then (pin_of macros c.1) (component_of components c.0)

-- rectangles of the input, as fixed shapes of an owner
abbrev pub fixed_shape : Owner → LayerNo × Sides → Shape
fixed_shape owner m = record { layer = m.0; rect = m.1; owner = owner; fixed = true }

abbrev pub fixed_shapes : Owner → List (LayerNo × Sides) → List Shape
fixed_shapes owner rects = map (fixed_shape owner) rects

-- the shapes of a macro that is placed so: those of its pins in the macro's order, where this function says whose a pin is, and then the obstructions, which are nobody's
abbrev pub macro_shapes : (List ℕ → Owner) → Option (Point × Orient) → Macro → List Shape
macro_shapes whose at m =
    flat_map (λ (p : List ℕ × List (LayerNo × Sides)). fixed_shapes (whose p.0) (placed_rects m at p.1)) m.pins ++ fixed_shapes Nobody (placed_rects m at m.obs)

-- the shapes of a component, where this function says whose the pin of a connection is
abbrev pub component_shapes : List Macro → (List ℕ × List ℕ → Owner) → Component → List Shape
component_shapes macros whose c =
    unwrap_or (option_map (macro_shapes (λ (name : List ℕ). cell_owner whose (c.name, name)) c.placed) (macro_of macros c.of)) []

-- Each form is lawful.
use Rattle.std.specs.Prelude.{IsErrAnd, IfOk, IfErr}
use Rattle.std.proofs.lemmas.Result.{err_from_is_err_and}
use Rattle.rt_forms.specs.Clauses.{Looks}
use Rattle.lef_text.specs.declared.lef.Lef.{Lef}
use Rattle.lef_text.specs.declared.error.LefError.TheVariants.{Memory}
use Rattle.std.proofs.Common.{◌≡◌, ◌≢◌, ◌≤◌, length, sym, subst, ◌∙◌, ap, ℕ, Bool, List, ℤ, Result, Ok, Err, Option, Some, None, [], true, false}
use Rattle.rt_forms.specs.Lexeme.{Place, Lexeme, put}
use Rattle.lef_text.specs.Faults.{lef_faults}
use Rattle.rt_forms.specs.Form.{Read, and_then, loop, text}
use Rattle.rt_forms.proofs.Laws.{Lawful, lawful, consuming, lawful_bind, lawful_next, lawful_loop, lawful_text}
use Rattle.rt_forms.proofs.Whole.{IsWhole, text_is}
use Rattle.rt_forms.proofs.Skips.{lawful_up_to, lawful_up_to_pair}
use Rattle.lef_text.specs.declared.error.LefError.{LefError}
use Rattle.lef_text.specs.declared.library.Library.{Library}
use Rattle.lef_text.specs.declared.library.LayerLines.{LayerLines}
use Rattle.lef_text.specs.declared.library.ViaLines.{ViaLines}
use Rattle.lef_text.specs.declared.library.FormLines.{FormLines}
use Rattle.lef_text.specs.declared.library.LayerType.{LayerType}
use Rattle.lef_text.specs.declared.library.LayerType.TheVariants as types
use Rattle.lef_text.specs.declared.layer_words.LayerLine.{LayerLine}
use Rattle.lef_text.specs.declared.layer_words.LayerLine.TheVariants as layer_lines
use Rattle.lef_text.specs.declared.via_words.ViaLine.{ViaLine}
use Rattle.lef_text.specs.declared.via_words.ViaLine.TheVariants as via_lines
use Rattle.lef_text.specs.declared.via_words.FormLine.{FormLine}
use Rattle.lef_text.specs.declared.via_words.FormLine.TheVariants as form_lines
use Rattle.lef_text.specs.declared.statement_words.Statement.{Statement}
use Rattle.lef_text.specs.declared.statement_words.Statement.TheVariants as statements
use Rattle.lef_text.specs.Numbers.{length_line, rectangle}
use Rattle.lef_text.specs.Polygons as polygons
use Rattle.lef_text.specs.Tables as tables
use Rattle.lef_text.specs.declared.library.Lengths.{Lengths}
use Rattle.lef_text.specs.declared.library.Rows.{Rows}
use Rattle.lef_text.specs.GeneratedVias as generated
use Rattle.lef_text.specs.Layers as layers
use Rattle.lef_text.specs.Vias as vias
use Rattle.lef_text.specs.Shapes as shapes
use Rattle.lef_text.specs.Shapes.{Shapes, Drawn}
use Rattle.lef_text.specs.Macros as macros
use Rattle.lef_text.specs.Macros.{Cell}
use Rattle.lef_text.specs.Lef as lefs
use Rattle.lef_text.specs.declared.shape_words.ShapeLine.{ShapeLine}
use Rattle.lef_text.specs.declared.shape_words.ShapeLine.TheVariants as shape_lines
use Rattle.lef_text.specs.declared.macro_words.MacroLine.{MacroLine}
use Rattle.lef_text.specs.declared.macro_words.MacroLine.TheVariants as macro_lines
use Rattle.rt_base.specs.Sides.{Sides}
use Rattle.rt_base.specs.declared.geometry.Point.{Point}
use Rattle.rt_base.specs.declared.tech.LayerNo.{LayerNo}

-- ---- numbers

lawful_length : (units : ℕ) (least : ℤ) → Lawful (length_line units least)
unfolding length_line
lawful_length units least = search lawful

lawful_rectangle : (in_macro : Bool) (units : ℕ) → Lawful (rectangle in_macro units)
unfolding rectangle
lawful_rectangle in_macro units = search lawful depth 16

-- ---- polygons

lawful_point_turn : (units : ℕ) (points : List Point) → Lawful (polygons.point_turn units points)
unfolding polygons.point_turn
lawful_point_turn units points = search lawful depth 16

lawful_point_turns : (units : ℕ) (points : List Point) → Lawful (loop (polygons.point_turn units) points)
unfolding polygons.point_turn
lawful_point_turns units points = lawful_loop (polygons.point_turn units) points (lawful_point_turn units) (λ u. search consuming)

lawful_points : (in_macro : Bool) (units : ℕ) → Lawful (polygons.polygon_points in_macro units)
unfolding polygons.polygon_points
lawful_points in_macro units = search (lawful, lawful_point_turns)

lawful_polygon : (in_macro : Bool) (units : ℕ) (w : Place) → Lawful (polygons.polygon in_macro units w)
unfolding polygons.polygon
lawful_polygon in_macro units w = search (lawful, lawful_points)

-- ---- tables and current densities

lawful_length_turn : (units : ℕ) (s : Lengths) → Lawful (tables.length_turn units s)
unfolding tables.length_turn
lawful_length_turn units s = search lawful depth 16

lawful_length_turns : (units : ℕ) (s : Lengths) → Lawful (loop (tables.length_turn units) s)
unfolding tables.length_turn
lawful_length_turns units s = lawful_loop (tables.length_turn units) s (lawful_length_turn units) (λ u. search consuming)

lawful_spacing_turn : (units k : ℕ) (xs : List ℤ) → Lawful (tables.spacing_turn units k xs)
unfolding tables.spacing_turn
lawful_spacing_turn units k xs = search lawful

lawful_spacing_turns : (units k : ℕ) (xs : List ℤ) → Lawful (loop (tables.spacing_turn units k) xs)
unfolding tables.spacing_turn
lawful_spacing_turns units k xs = lawful_loop (tables.spacing_turn units k) xs (lawful_spacing_turn units k) (λ u. search consuming)

lawful_row_turn : (units k : ℕ) (s : Rows) → Lawful (tables.row_turn units k s)
unfolding tables.row_turn
lawful_row_turn units k s = search (lawful, lawful_spacing_turns) depth 16

lawful_row_turns : (units k : ℕ) (s : Rows) → Lawful (loop (tables.row_turn units k) s)
unfolding tables.row_turn
lawful_row_turns units k s = lawful_loop (tables.row_turn units k) s (lawful_row_turn units k) (λ u. search consuming)

lawful_run_table : (units : ℕ) (s : LayerLines) (w : Place) → Lawful (tables.run_table units s w)
unfolding tables.run_table
lawful_run_table units s w = search (lawful, lawful_length_turns, lawful_row_turns) depth 16

lawful_table : (units : ℕ) (s : LayerLines) → Lawful (tables.table_line units s)
unfolding tables.table_line
lawful_table units s = search (lawful, lawful_up_to, lawful_run_table) depth 16

lawful_density : (s : LayerLines) → Lawful (tables.density_line s)
unfolding tables.density_line
lawful_density s = search (lawful, lawful_up_to) depth 16

-- ---- layers

lawful_type : Lawful layers.layer_type
unfolding layers.layer_type
lawful_type = search lawful depth 16

lawful_spacing : (units : ℕ) (s : LayerLines) → Lawful (layers.spacing_line units s)
unfolding layers.spacing_line
lawful_spacing units s = search (lawful, lawful_up_to) depth 16

lawful_end : (top : Option (List ℕ × Bool)) (s : LayerLines) → Lawful (layers.end_of_layer top s)
unfolding layers.end_of_layer
lawful_end top s = search lawful

lawful_line_by : (units : ℕ) (top : Option (List ℕ × Bool)) (s : LayerLines) (w : Place) (k : LayerLine) → Lawful (layers.line_by units top s w k)
lawful_line_by units top s w layer_lines.Direction = search lawful
lawful_line_by units top s w layer_lines.Unused = search (lawful, lawful_up_to)
lawful_line_by units top s w layer_lines.Width = search (lawful, lawful_length)
lawful_line_by units top s w layer_lines.Spacing = lawful_spacing units s
lawful_line_by units top s w layer_lines.SpacingTable = lawful_table units s
lawful_line_by units top s w layer_lines.CurrentDensity = lawful_density s
lawful_line_by units top s w layer_lines.End = lawful_end top s
lawful_line_by units top s w layer_lines.Other = search (lawful, lawful_up_to)

lawful_layer_line : (units : ℕ) (top : Option (List ℕ × Bool)) (s : LayerLines) → Lawful (layers.layer_line units top s)
unfolding layers.layer_line
lawful_layer_line units top s = search (lawful_bind, lawful_next, lawful_line_by)

lawful_layer_lines : (units : ℕ) (top : Option (List ℕ × Bool)) (s : LayerLines) → Lawful (loop (layers.layer_line units top) s)
unfolding layers.layer_line
lawful_layer_lines units top s = lawful_loop (layers.layer_line units top) s (lawful_layer_line units top) (λ u. search consuming)

lawful_dropped_line : (name : List ℕ) (s : Unit {0}) → Lawful (layers.dropped_line name s)
unfolding layers.dropped_line
lawful_dropped_line name s = search (lawful, lawful_up_to) depth 16

lawful_dropped_lines : (name : List ℕ) (s : Unit {0}) → Lawful (loop (layers.dropped_line name) s)
unfolding layers.dropped_line
lawful_dropped_lines name s = lawful_loop (layers.dropped_line name) s (lawful_dropped_line name) (λ u. search consuming)

lawful_used : (units : ℕ) (lib : Library) (name : List ℕ) (routing : Bool) → Lawful (layers.used_layer units lib name routing)
unfolding layers.used_layer
lawful_used units lib name routing = search (lawful, lawful_layer_lines)

lawful_dropped : (lib : Library) (name : List ℕ) → Lawful (layers.dropped_layer lib name)
unfolding layers.dropped_layer
lawful_dropped lib name = search (lawful, lawful_dropped_lines)

lawful_layer_by : (units : ℕ) (lib : Library) (name : List ℕ) (t : LayerType) → Lawful (layers.layer_by units lib name t)
lawful_layer_by units lib name types.Routing = lawful_used units lib name true
lawful_layer_by units lib name types.Cut = lawful_used units lib name false
lawful_layer_by units lib name types.Other = lawful_dropped lib name

lawful_layer : (units : ℕ) (lib : Library) → Lawful (layers.layer_statement units lib)
unfolding layers.layer_statement
lawful_layer units lib = search (lawful, lawful_type, lawful_layer_by)

-- ---- vias

lawful_rect_line : (units : ℕ) (s : ViaLines) (w : Place) (layer : _) → Lawful (vias.rect_line units s w layer)
lawful_rect_line units s w None = search lawful
lawful_rect_line units s w (Some layer) = search (lawful, lawful_rectangle)

lawful_polygon_line : (units : ℕ) (s : ViaLines) (w : Place) (layer : _) → Lawful (vias.polygon_line units s w layer)
lawful_polygon_line units s w None = search lawful
lawful_polygon_line units s w (Some layer) = search (lawful, lawful_polygon)

lawful_pair : (units : ℕ) (least : ℤ) → Lawful (generated.pair units least)
unfolding generated.pair
lawful_pair units least = search lawful depth 16

lawful_enclosure : (units : ℕ) → Lawful (generated.enclosure units)
unfolding generated.enclosure
lawful_enclosure units = search lawful depth 16

lawful_three_layers : (lib : Library) → Lawful (generated.three_layers lib)
unfolding generated.three_layers
lawful_three_layers lib = search lawful depth 16

lawful_rows_and_columns : Lawful generated.rows_and_columns
unfolding generated.rows_and_columns
lawful_rows_and_columns = search lawful depth 16

lawful_rule_name : Lawful generated.rule_name
unfolding generated.rule_name
lawful_rule_name = search lawful

lawful_new_line : (units : ℕ) (lib : Library) (f : FormLines) (k : FormLine) → Lawful (generated.new_line units lib f k)
lawful_new_line units lib f form_lines.Rule = search (lawful, lawful_rule_name)
lawful_new_line units lib f form_lines.CutSize = search (lawful, lawful_pair)
lawful_new_line units lib f form_lines.Layers = search (lawful, lawful_three_layers)
lawful_new_line units lib f form_lines.CutSpacing = search (lawful, lawful_pair)
lawful_new_line units lib f form_lines.Enclosure = search (lawful, lawful_enclosure)
lawful_new_line units lib f form_lines.RowCol = search (lawful, lawful_rows_and_columns)

lawful_form_line : (units : ℕ) (lib : Library) (f : FormLines) (w : Place) (k : FormLine) → Lawful (generated.form_line units lib f w k)
unfolding generated.form_line
lawful_form_line units lib f w k = search (lawful, lawful_new_line)

lawful_generated_line : (units : ℕ) (lib : Library) (s : ViaLines) (w : Place) (k : FormLine) (layer : Option (Option LayerNo)) → Lawful (vias.generated_line units lib s w k layer)
lawful_generated_line units lib s w k None = search (lawful, lawful_form_line)
lawful_generated_line units lib s w k (Some layer) = search lawful

lawful_via_by : (units : ℕ) (lib : Library) (name : List ℕ) (s : ViaLines) (w : Place) (k : ViaLine) → Lawful (vias.line_by units lib name s w k)
lawful_via_by units lib name s w via_lines.Layer = search lawful
lawful_via_by units lib name s w via_lines.Rect = lawful_rect_line units s w s.layer
lawful_via_by units lib name s w via_lines.Polygon = lawful_polygon_line units s w s.layer
lawful_via_by units lib name s w via_lines.Unused = search (lawful, lawful_up_to)
lawful_via_by units lib name s w (via_lines.Form k) = lawful_generated_line units lib s w k s.layer
lawful_via_by units lib name s w via_lines.Refused = search lawful
lawful_via_by units lib name s w via_lines.End = search lawful
lawful_via_by units lib name s w via_lines.Unknown = search lawful

lawful_via_line : (units : ℕ) (lib : Library) (name : List ℕ) (s : ViaLines) → Lawful (vias.via_line units lib name s)
unfolding vias.via_line
lawful_via_line units lib name s = search (lawful_bind, lawful_next, lawful_via_by)

pub lawful_via_lines : (units : ℕ) (lib : Library) (name : List ℕ) (s : ViaLines) → Lawful (loop (vias.via_line units lib name) s)
unfolding vias.via_line
lawful_via_lines units lib name s = lawful_loop (vias.via_line units lib name) s (lawful_via_line units lib name) (λ u. search consuming)

lawful_optional : (word : List ℕ) → Lawful (vias.optional word)
unfolding vias.optional
lawful_optional word = search lawful depth 16

lawful_via_rects : (units : ℕ) (lib : Library) (name : List ℕ) → Lawful (vias.via_rects units lib name)
unfolding vias.via_rects
lawful_via_rects units lib name = search (lawful, lawful_via_lines)

lawful_via : (units : ℕ) (lib : Library) → Lawful (vias.via_statement units lib)
unfolding vias.via_statement
lawful_via units lib = search (lawful, lawful_optional, lawful_via_rects) depth 16

-- ---- shapes

lawful_layer_rest : (units : ℕ) (lib : Library) (k : ℕ) → Lawful (shapes.layer_rest units lib k)
unfolding shapes.layer_rest
lawful_layer_rest units lib k = search lawful depth 16

lawful_layer_words : (lib : Library) → Lawful (shapes.layer_words lib)
unfolding shapes.layer_words
lawful_layer_words lib = search (lawful, lawful_optional)

lawful_rect_of : (units : ℕ) (s : Shapes) (w : Place) (layer : Option (Option LayerNo)) → Lawful (shapes.rect_line units s w layer)
lawful_rect_of units s w None = search lawful
lawful_rect_of units s w (Some layer) = search (lawful, lawful_rectangle)

lawful_polygon_of : (units : ℕ) (s : Shapes) (w : Place) (layer : Option (Option LayerNo)) → Lawful (shapes.polygon_line units s w layer)
lawful_polygon_of units s w None = search lawful
lawful_polygon_of units s w (Some layer) = search (lawful, lawful_polygon)

lawful_shape_by : (units : ℕ) (s : Shapes) (w : Place) (k : ShapeLine) → Lawful (shapes.line_by units s w k)
lawful_shape_by units s w shape_lines.Unused = search (lawful, lawful_up_to)
lawful_shape_by units s w shape_lines.Layer = search (lawful, lawful_layer_words, lawful_layer_rest)
lawful_shape_by units s w shape_lines.Width = search lawful
lawful_shape_by units s w shape_lines.Rect = lawful_rect_of units s w s.layer
lawful_shape_by units s w shape_lines.Polygon = lawful_polygon_of units s w s.layer
lawful_shape_by units s w shape_lines.Refused = search lawful
lawful_shape_by units s w shape_lines.End = search lawful
lawful_shape_by units s w shape_lines.Unknown = search lawful

lawful_shape_line : (units : ℕ) (s : Shapes) → Lawful (shapes.shape_line units s)
unfolding shapes.shape_line
lawful_shape_line units s = search (lawful_bind, lawful_next, lawful_shape_by)

lawful_shape_lines : (units : ℕ) (s : Shapes) → Lawful (loop (shapes.shape_line units) s)
unfolding shapes.shape_line
lawful_shape_lines units s = lawful_loop (shapes.shape_line units) s (lawful_shape_line units) (λ u. search consuming)

lawful_more_shapes : (units : ℕ) (lib : Library) (s : List (LayerNo × Sides)) → Lawful (shapes.more_shapes units lib s)
unfolding shapes.more_shapes
lawful_more_shapes units lib s = search (lawful, lawful_shape_lines)

-- ---- macros

lawful_pin_line : (units : ℕ) (name : List ℕ) (s : Drawn) → Lawful (macros.pin_line units name s)
unfolding macros.pin_line
lawful_pin_line units name s = search (lawful, lawful_up_to, lawful_more_shapes) depth 16

lawful_pin_lines : (units : ℕ) (name : List ℕ) (s : Drawn) → Lawful (loop (macros.pin_line units name) s)
unfolding macros.pin_line
lawful_pin_lines units name s = lawful_loop (macros.pin_line units name) s (lawful_pin_line units name) (λ u. search consuming)

lawful_pin : (units : ℕ) (s : Cell) → Lawful (macros.pin units s)
unfolding macros.pin
lawful_pin units s = search (lawful, lawful_pin_lines)

lawful_size : (units : ℕ) → Lawful (macros.size units)
unfolding macros.size
lawful_size units = search lawful depth 16

lawful_origin : (units : ℕ) → Lawful (macros.origin units)
unfolding macros.origin
lawful_origin units = search lawful depth 16

lawful_macro_by : (units : ℕ) (name : List ℕ) (s : Cell) (w : Place) (k : MacroLine) → Lawful (macros.line_by units name s w k)
lawful_macro_by units name s w macro_lines.Size = search (lawful, lawful_size)
lawful_macro_by units name s w macro_lines.Origin = search (lawful, lawful_origin)
lawful_macro_by units name s w macro_lines.Pin = lawful_pin units s
lawful_macro_by units name s w macro_lines.Obs = search (lawful, lawful_more_shapes)
lawful_macro_by units name s w macro_lines.Density = search (lawful, lawful_up_to)
lawful_macro_by units name s w macro_lines.Timing = search (lawful, lawful_up_to_pair)
lawful_macro_by units name s w macro_lines.Unused = search (lawful, lawful_up_to)
lawful_macro_by units name s w macro_lines.End = search lawful
lawful_macro_by units name s w macro_lines.Unknown = search lawful

lawful_macro_line : (units : ℕ) (name : List ℕ) (s : Cell) → Lawful (macros.macro_line units name s)
unfolding macros.macro_line
lawful_macro_line units name s = search (lawful_bind, lawful_next, lawful_macro_by)

pub lawful_macro_lines : (units : ℕ) (name : List ℕ) (s : Cell) → Lawful (loop (macros.macro_line units name) s)
unfolding macros.macro_line
lawful_macro_lines units name s = lawful_loop (macros.macro_line units name) s (lawful_macro_line units name) (λ u. search consuming)

lawful_macro_body : (units : ℕ) (lib : Library) (name : List ℕ) → Lawful (macros.macro_body units lib name)
unfolding macros.macro_body
lawful_macro_body units lib name = search (lawful, lawful_macro_lines)

lawful_macro : (units : ℕ) (lib : Library) → Lawful (macros.macro_statement units lib)
unfolding macros.macro_statement
lawful_macro units lib = search (lawful, lawful_macro_body)

-- ---- the text

lawful_units_line : (n : ℕ) → Lawful (lefs.units_line n)
unfolding lefs.units_line
lawful_units_line n = search (lawful, lawful_up_to) depth 16

lawful_units : (n : ℕ) → Lawful (loop lefs.units_line n)
unfolding lefs.units_line
lawful_units n = lawful_loop lefs.units_line n lawful_units_line (λ u. search consuming)

lawful_section : Lawful lefs.named_section
unfolding lefs.named_section
lawful_section = search (lawful, lawful_up_to_pair)

lawful_statement_by : (units : ℕ) (lib : Library) (w : Place) (k : Statement) → Lawful (lefs.statement_by units lib w k)
lawful_statement_by units lib w statements.Units = search (lawful, lawful_units)
lawful_statement_by units lib w statements.Unused = search (lawful, lawful_up_to)
lawful_statement_by units lib w statements.Properties = search (lawful, lawful_up_to_pair)
lawful_statement_by units lib w statements.Spacings = search (lawful, lawful_up_to_pair)
lawful_statement_by units lib w statements.Extension = search (lawful, lawful_up_to)
lawful_statement_by units lib w statements.Site = search (lawful, lawful_section)
lawful_statement_by units lib w statements.Rule = search (lawful, lawful_section)
lawful_statement_by units lib w statements.Layer = lawful_layer units lib
lawful_statement_by units lib w statements.Via = lawful_via units lib
lawful_statement_by units lib w statements.Macro = lawful_macro units lib
lawful_statement_by units lib w statements.End = search lawful
lawful_statement_by units lib w statements.Unknown = search lawful

pub lawful_statement : (units : ℕ) (lib : Library) → Lawful (lefs.statement units lib)
unfolding lefs.statement
lawful_statement units lib = search (lawful_bind, lawful_next, lawful_statement_by)

lawful_statements : (units : ℕ) (lib : Library) → Lawful (text (lefs.statement units) lib)
unfolding lefs.statement
lawful_statements units lib = lawful_text (lefs.statement units) lib (lawful_statement units) (λ u. search consuming)

pub lawful_lef : (units : ℕ) → Lawful (lefs.lef units)
unfolding lefs.lef
lawful_lef units = search (lawful, lawful_statements)

pub lef_is : (units : ℕ) → IsWhole (lefs.lef units)
unfolding lefs.lef
lef_is units = record {
  at_end = λ front rest l h.
      let e = (text_is (lefs.statement units) lefs.empty).at_end h.1 (put h.2 rest) h.0 h.4 in
      let none : h.2 ≡ [] = h.5.0 in
      rw none at e;
}

-- what follows the statements
pub lef_ok : (units : ℕ) (ws new : List Lexeme) (lib : Library) → (text (lefs.statement units) lefs.empty).read lef_faults ws ≡ Ok (lib, new) → (lefs.lef units).read lef_faults ws ≡ Ok (lefs.lef_of lib, new)
unfolding lefs.lef
lef_ok units ws new lib h = ap (λ (r : Read LefError Library). and_then r (λ x. Ok (lefs.lef_of x.0, x.1))) h

pub lef_err : (units : ℕ) (ws : List Lexeme) (e : LefError) → (text (lefs.statement units) lefs.empty).read lef_faults ws ≡ Err e → (lefs.lef units).read lef_faults ws ≡ Err e
unfolding lefs.lef
lef_err units ws e h = ap (λ (r : Read LefError Library). and_then r (λ x. Ok (lefs.lef_of x.0, x.1))) h

pub looks_err : (units : ℕ) (ws new : List Lexeme) (lib : Library) (r : Result Lef LefError) (e : LefError) → lib ≡ lefs.empty → (e ≢ Memory → (text (lefs.statement units) lib).read lef_faults ws ≡ Err e) → IsErrAnd r (λ x. x ≡ e) → Looks lef_faults (λ x. x) r ws new (lefs.lef units)
looks_err units ws new lib r e from h q =
    let p = err_from_is_err_and r q in
    rw (p.1, p.2) (λ n. lef_err units ws e (subst (λ (l : Library). (text (lefs.statement units) l).read lef_faults ws ≡ Err e) from (h n)))

pub looks_ok : (units : ℕ) (ws new : List Lexeme) (lib0 lib : Library) (r : Result Lef LefError) → lib0 ≡ lefs.empty → (text (lefs.statement units) lib0).read lef_faults ws ≡ Ok (lib, new) → length new ≤ length ws → IfOk r (λ l. l ≡ lefs.lef_of lib) → IfErr r (λ e. e ≡ Memory) → Looks lef_faults (λ x. x) r ws new (lefs.lef units)
looks_ok units ws new lib0 lib (Ok l) from h le ok err =
    (lef_ok units ws new lib (subst (λ (m : Library). (text (lefs.statement units) m).read lef_faults ws ≡ Ok (lib, new)) from h) ∙ ap (λ (m : Lef). Ok (m, new)) (sym ok), le)
looks_ok units ws new lib0 lib (Err e) from h le ok err = λ n. absurd (n err)

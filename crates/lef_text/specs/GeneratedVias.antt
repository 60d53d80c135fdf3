-- The generated form of vias (LEF/DEF 5.8 Language Reference, LEF VIA: VIARULE, CUTSIZE, LAYERS, CUTSPACING, ENCLOSURE, ROWCOL).
use Rattle.std.specs.Prelude.{ℕ, ◌^◌, ◌==◌, ◌||◌, ◌&&◌, List, [], Option, Some, None, is_some, is_none, unwrap_or, ℤ, pos, Bool, true, false, fold, if◌then◌else◌}
use Rattle.rt_base.specs.Sides.{Sides}
use Rattle.rt_base.specs.declared.tech.LayerNo.{LayerNo}
use Rattle.rt_shapes.specs.declared.cut_array.Generated.{Generated}
use Rattle.rt_shapes.specs.GeneratedVias.{generated_of}
use Rattle.rt_forms.specs.Lexeme.{Place}
use Rattle.rt_forms.specs.Form.{Form, one, done, ◌>>=◌, choose}
use Rattle.rt_forms.specs.Reading.{a_name, semicolon}
use Rattle.lef_text.specs.declared.error.LefError.{LefError}
use Rattle.lef_text.specs.declared.library.Library.{Library}
use Rattle.lef_text.specs.declared.library.FormLines.{FormLines}
use Rattle.lef_text.specs.declared.via_words.FormLine.{FormLine}
use Rattle.lef_text.specs.declared.via_words.FormLine.TheVariants as lines
use Rattle.lef_text.specs.Numbers.{length_at_least, count}
use Rattle.lef_text.specs.OnLayers.{unknown, layer_word, with_shape}

-- a bottom layer, a layer of cuts and a top layer, None where it is dropped
abbrev pub Layers : Type 0
Layers = Option LayerNo × Option LayerNo × Option LayerNo

-- ---- lines

-- `x y ;`, both from least on
unfoldable pub pair : ℕ → ℤ → Form LefError (ℤ × ℤ)
pair units least = do
  x ← one (length_at_least units least)
  y ← one (length_at_least units least)
  _ ← semicolon
  done (x, y)

-- `bottom-x bottom-y top-x top-y ;`, all from 0 on
unfoldable pub enclosure : ℕ → Form LefError (ℤ × ℤ × ℤ × ℤ)
enclosure units = do
  bottom_x ← one (length_at_least units (pos 0))
  bottom_y ← one (length_at_least units (pos 0))
  top_x ← one (length_at_least units (pos 0))
  top_y ← one (length_at_least units (pos 0))
  _ ← semicolon
  done (bottom_x, bottom_y, top_x, top_y)

-- `bottom cuts top ;`
unfoldable pub three_layers : Library → Form LefError Layers
three_layers lib = do
  bottom ← one (layer_word lib)
  cuts ← one (layer_word lib)
  top ← one (layer_word lib)
  _ ← semicolon
  done (bottom, cuts, top)

-- `rows columns ;`
unfoldable pub rows_and_columns : Form LefError (ℕ × ℕ)
rows_and_columns = do
  rows ← count 1 (2 ^ 30)
  columns ← count 1 (2 ^ 30)
  _ ← semicolon
  done (rows, columns)

-- `name ;`
unfoldable pub rule_name : Form LefError (Unit {0})
rule_name = do
  _ ← a_name
  semicolon

-- this line stands
abbrev pub stands : FormLines → FormLine → Bool
stands f lines.Rule = f.rule
stands f lines.CutSize = is_some f.cut
stands f lines.Layers = is_some f.layers
stands f lines.CutSpacing = is_some f.spacing
stands f lines.Enclosure = is_some f.enclosure
stands f lines.RowCol = is_some f.array

abbrev pub new_line : ℕ → Library → FormLines → FormLine → Form LefError FormLines
new_line units lib f lines.Rule = do
  _ ← rule_name
  done (record f { rule = true })
new_line units lib f lines.CutSize = do
  c ← pair units (pos 1)
  done (record f { cut = Some c })
new_line units lib f lines.Layers = do
  l ← three_layers lib
  done (record f { layers = Some l })
new_line units lib f lines.CutSpacing = do
  s ← pair units (pos 0)
  done (record f { spacing = Some s })
new_line units lib f lines.Enclosure = do
  e ← enclosure units
  done (record f { enclosure = Some e })
new_line units lib f lines.RowCol = do
  a ← rows_and_columns
  done (record f { array = Some a })

-- behind its first word w; a second one is unknown
unfoldable pub form_line : ℕ → Library → FormLines → Place → FormLine → Form LefError FormLines
form_line units lib f w k = choose (stands f k) (unknown w) (new_line units lib f k)

abbrev pub no_form_lines : FormLines
no_form_lines = record { rule = false; cut = None; layers = None; spacing = None; enclosure = None; array = None }

abbrev pub is_begun : FormLines → Bool
is_begun f = f.rule || is_some f.cut || is_some f.layers || is_some f.spacing || is_some f.enclosure || is_some f.array

-- ---- the rectangles

-- the parts of the form in place of layers: 0 is the bottom one, 1 the cuts, 2 the top one
abbrev pub parts : LayerNo × LayerNo × LayerNo
parts = (record { 0 = 0 }, record { 0 = 1 }, record { 0 = 2 })

abbrev pub layer_of_part : Layers → LayerNo → Option LayerNo
layer_of_part layers part = if part.0 == 0 then layers.0 else if part.0 == 1 then layers.1 else layers.2

abbrev pub form_by : Bool → Option (ℤ × ℤ) → Option Layers → Option (ℤ × ℤ) → Option (ℤ × ℤ × ℤ × ℤ) → ℕ × ℕ → Option (Generated × Layers)
form_by false cut layers spacing enclosure array = None
form_by true None layers spacing enclosure array = None
form_by true (Some c) None spacing enclosure array = None
form_by true (Some c) (Some l) None enclosure array = None
form_by true (Some c) (Some l) (Some s) None array = None
form_by true (Some c) (Some l) (Some s) (Some e) array = Some (record { cut = c; layers = parts; spacing = s; enclosure = e; rows = pos array.0; columns = pos array.1 }, l)

-- the form and its layers, None where a line other than ROWCOL is missing
abbrev pub form_of : FormLines → Option (Generated × Layers)
form_of f = form_by f.rule f.cut f.layers f.spacing f.enclosure (unwrap_or f.array (1, 1))

abbrev pub lacks_a_line : FormLines → Bool
lacks_a_line f = is_begun f && is_none (form_of f)

-- the rectangles of the parts, each on its layer; those on a layer that is dropped are dropped
abbrev pub on_layers : Layers → List (LayerNo × Sides) → List (LayerNo × Sides)
on_layers layers rects = fold (λ all (r : LayerNo × Sides). with_shape all (layer_of_part layers r.0) r.1) [] rects

abbrev pub rects_by : Option (Generated × Layers) → List (LayerNo × Sides) → List (LayerNo × Sides)
rects_by None rects = rects
rects_by (Some form) rects = on_layers form.1 (generated_of form.0)

-- those of the form where it stands, else these
abbrev pub rects_at_end : FormLines → List (LayerNo × Sides) → List (LayerNo × Sides)
rects_at_end f rects = rects_by (form_of f) rects

-- PORT and OBS of macros (LEF/DEF 5.8 Language Reference, LEF MACRO: OBS, MACRO PIN: PORT).
use Rattle.std.specs.Prelude.{ℕ, ◌+◌, ◌||◌, List, [], ◌∷◌, position, Result, Ok, Err, Option, Some, None, bytes_eq, codes, slice_get, zero, suc, true, if◌then◌else◌}
use Rattle.rt_base.specs.Sides.{Sides}
use Rattle.rt_base.specs.declared.tech.LayerNo.{LayerNo}
use Rattle.rt_forms.specs.Lexeme.{Place}
use Rattle.rt_forms.specs.Form.{Form, next, one, check, done, ◌>>=◌, choose, loop, Turn, More, Done}
use Rattle.rt_forms.specs.Reading.{semicolon, rest, is_name_word}
use Rattle.lef_text.specs.declared.error.LefError.{LefError}
use Rattle.lef_text.specs.declared.error.LefError.TheVariants.{Expected, NoLayer}
use Rattle.lef_text.specs.declared.library.Library.{Library}
use Rattle.lef_text.specs.declared.shape_words.ShapeLine.{ShapeLine}
use Rattle.lef_text.specs.declared.shape_words.ShapeLine.TheVariants as lines
use Rattle.lef_text.specs.Words.{shape_line_of}
use Rattle.lef_text.specs.Numbers.{number, rectangle}
use Rattle.lef_text.specs.Polygons.{polygon}
use Rattle.lef_text.specs.OnLayers.{with_shape, with_shapes, unknown, refused_line}
use Rattle.lef_text.specs.Vias.{optional}

-- the shapes so far, the last LAYER, and the text before with its counts
pub record Shapes : Type 0 where
  pub lib : Library
  pub layer : Option (Option LayerNo)
  pub shapes : List (LayerNo × Sides)

abbrev pub shapes_of : Library → Option (Option LayerNo) → List (LayerNo × Sides) → Shapes
shapes_of lib layer shapes = record { lib = lib; layer = layer; shapes = shapes }

-- ---- LAYER

-- one more at this place
abbrev pub counted_at : ℕ → List (List ℕ × ℕ) → List (List ℕ × ℕ)
counted_at k [] = []
counted_at zero (x ∷ xs) = (x.0, x.1 + 1) ∷ xs
counted_at (suc k) (x ∷ xs) = x ∷ counted_at k xs

-- the place of a layer among those that are named, and its number
abbrev pub at_place : Place → ℕ → Option (Option LayerNo) → Result (ℕ × Option LayerNo) LefError
at_place p k None = Err (NoLayer p.line p.word)
at_place p k (Some n) = Ok (k, n)

abbrev pub found_place : Library → Place → Option ℕ → Result (ℕ × Option LayerNo) LefError
found_place lib p None = Err (NoLayer p.line p.word)
found_place lib p (Some k) = at_place p k (slice_get lib.numbers k)

abbrev pub layer_place : Library → Place → Result (ℕ × Option LayerNo) LefError
layer_place lib p = if is_name_word p.word then found_place lib p (position (λ n. bytes_eq p.word n) lib.layer_names) else Err (Expected p.line)

abbrev pub with_count : Library → ℕ → Library
with_count lib k = record lib { skipped = counted_at k lib.skipped }

-- `SPACING v ;` or `DESIGNRULEWIDTH v ;` behind the layer's name, or `;`
unfoldable pub layer_rest : ℕ → Library → ℕ → Form LefError Library
layer_rest units lib k = do
  w ← next
  choose (bytes_eq w.word (codes "SPACING") || bytes_eq w.word (codes "DESIGNRULEWIDTH")) (do
    _ ← number units
    _ ← semicolon
    done (with_count lib k))
      (choose (bytes_eq w.word (codes ";")) (done lib) (check (Err (Expected w.line))))

-- the name of a layer, and perhaps EXCEPTPGNET
unfoldable pub layer_words : Library → Form LefError (ℕ × Option LayerNo)
layer_words lib = do
  l ← one (layer_place lib)
  _ ← optional (codes "EXCEPTPGNET")
  done l

abbrev pub shape_layer : ℕ → Shapes → Form LefError (Turn Shapes)
shape_layer units s = do
  l ← layer_words s.lib
  lib ← layer_rest units s.lib l.0
  done (More (shapes_of lib (Some l.1) s.shapes))

-- ---- the other lines

abbrev pub unused_line : Shapes → Form LefError (Turn Shapes)
unused_line s = do
  _ ← rest
  done (More s)

abbrev pub width_line : ℕ → Shapes → Form LefError (Turn Shapes)
width_line units s = do
  _ ← number units
  _ ← semicolon
  done (More s)

abbrev pub rect_line : ℕ → Shapes → Place → Option (Option LayerNo) → Form LefError (Turn Shapes)
rect_line units s w None = unknown w
rect_line units s w (Some layer) = do
  r ← rectangle true units
  done (More (shapes_of s.lib s.layer (with_shape s.shapes layer r)))

abbrev pub polygon_line : ℕ → Shapes → Place → Option (Option LayerNo) → Form LefError (Turn Shapes)
polygon_line units s w None = unknown w
polygon_line units s w (Some layer) = do
  rects ← polygon true units w
  done (More (shapes_of s.lib s.layer (with_shapes s.shapes layer rects)))

abbrev pub line_by : ℕ → Shapes → Place → ShapeLine → Form LefError (Turn Shapes)
line_by units s w lines.Unused = unused_line s
line_by units s w lines.Layer = shape_layer units s
line_by units s w lines.Width = width_line units s
line_by units s w lines.Rect = rect_line units s w s.layer
line_by units s w lines.Polygon = polygon_line units s w s.layer
line_by units s w lines.Refused = refused_line w
line_by units s w lines.End = done (Done s)
line_by units s w lines.Unknown = unknown w

unfoldable pub shape_line : ℕ → Shapes → Form LefError (Turn Shapes)
shape_line units s = do
  w ← next
  line_by units s w (shape_line_of w.word)

-- ---- the lines behind PORT or OBS

-- the shapes so far, and the text before with its counts
pub record Drawn : Type 0 where
  pub lib : Library
  pub shapes : List (LayerNo × Sides)

abbrev pub drawn : Library → List (LayerNo × Sides) → Drawn
drawn lib shapes = record { lib = lib; shapes = shapes }

-- shapes that are added to these
unfoldable pub more_shapes : ℕ → Library → List (LayerNo × Sides) → Form LefError Drawn
more_shapes units lib shapes = do
  t ← loop (shape_line units) (shapes_of lib None shapes)
  done (drawn t.lib t.shapes)

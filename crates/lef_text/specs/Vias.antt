-- VIA of LEF (LEF/DEF 5.8 Language Reference, LEF VIA).
use Rattle.std.specs.Prelude.{ℕ, List, [], ◌∷◌, ◌++◌, Result, Ok, Err, Option, Some, None, bytes_eq, codes, if◌then◌else◌, Bool, true, false, not}
use Rattle.std.specs.List.{list_any}
use Rattle.rt_base.specs.Sides.{Sides}
use Rattle.rt_base.specs.declared.tech.LayerNo.{LayerNo}
use Rattle.rt_forms.specs.Lexeme.{Place}
use Rattle.rt_forms.specs.Form.{Form, next, one, done, ◌>>=◌, choose, loop, Turn, More, Done}
use Rattle.rt_forms.specs.Reading.{the_word, semicolon, rest, at, is_name_word}
use Rattle.lef_text.specs.declared.error.LefError.{LefError}
use Rattle.lef_text.specs.declared.error.LefError.TheVariants.{Expected, Twice, Refused}
use Rattle.lef_text.specs.declared.library.Library.{Library}
use Rattle.lef_text.specs.declared.library.ViaLines.{ViaLines}
use Rattle.lef_text.specs.declared.via_words.FormLine.{FormLine}
use Rattle.lef_text.specs.declared.via_words.ViaLine.{ViaLine}
use Rattle.lef_text.specs.declared.via_words.ViaLine.TheVariants as lines
use Rattle.lef_text.specs.IsLef.{is_path_word}
use Rattle.lef_text.specs.Words.{via_line_of}
use Rattle.lef_text.specs.Numbers.{rectangle}
use Rattle.lef_text.specs.Polygons.{polygon}
use Rattle.lef_text.specs.OnLayers.{layer_word, with_shape, with_shapes, unknown, refused_line}
use Rattle.lef_text.specs.GeneratedVias.{form_line, no_form_lines, is_begun, lacks_a_line, rects_at_end}

-- ---- lines

abbrev pub layer_line : Library → ViaLines → Form LefError (Turn ViaLines)
layer_line lib s = do
  layer ← one (layer_word lib)
  _ ← semicolon
  done (More (record s { layer = Some layer }))

-- LAYER begins no line of a generated via
abbrev pub first_form : Library → ViaLines → Place → Form LefError (Turn ViaLines)
first_form lib s w = choose (is_begun s.form) (unknown w) (layer_line lib s)

abbrev pub rect_line : ℕ → ViaLines → Place → Option (Option LayerNo) → Form LefError (Turn ViaLines)
rect_line units s w None = unknown w
rect_line units s w (Some layer) = do
  r ← rectangle false units
  done (More (record s { rects = with_shape s.rects layer r }))

abbrev pub polygon_line : ℕ → ViaLines → Place → Option (Option LayerNo) → Form LefError (Turn ViaLines)
polygon_line units s w None = unknown w
polygon_line units s w (Some layer) = do
  rects ← polygon false units w
  done (More (record s { rects = with_shapes s.rects layer rects }))

abbrev pub unused_line : ViaLines → Form LefError (Turn ViaLines)
unused_line s = do
  _ ← rest
  done (More s)

-- a generated via has all its lines
abbrev pub end_line : List ℕ → ViaLines → Place → Form LefError (Turn ViaLines)
end_line name s w = choose (lacks_a_line s.form) (unknown w) (do
  _ ← the_word name
  done (Done s))

-- a line of the generated form, where no LAYER stands before
abbrev pub generated_line : ℕ → Library → ViaLines → Place → FormLine → Option (Option LayerNo) → Form LefError (Turn ViaLines)
generated_line units lib s w k None = do
  f ← form_line units lib s.form w k
  done (More (record s { form = f }))
generated_line units lib s w k (Some layer) = unknown w

abbrev pub line_by : ℕ → Library → List ℕ → ViaLines → Place → ViaLine → Form LefError (Turn ViaLines)
line_by units lib name s w lines.Layer = first_form lib s w
line_by units lib name s w lines.Rect = rect_line units s w s.layer
line_by units lib name s w lines.Polygon = polygon_line units s w s.layer
line_by units lib name s w lines.Unused = unused_line s
line_by units lib name s w (lines.Form k) = generated_line units lib s w k s.layer
line_by units lib name s w lines.Refused = refused_line w
line_by units lib name s w lines.End = end_line name s w
line_by units lib name s w lines.Unknown = unknown w

unfoldable pub via_line : ℕ → Library → List ℕ → ViaLines → Form LefError (Turn ViaLines)
via_line units lib name s = do
  w ← next
  line_by units lib name s w (via_line_of w.word)

-- ---- the statement

-- a name for a new via
abbrev pub via_name : List (List ℕ) → Place → Result Place LefError
via_name names p =
    if not (is_name_word p.word) then Err (Expected p.line)
    else if is_path_word p.word then Err (Refused p.line p.word)
    else if list_any (bytes_eq p.word) names then Err (Twice p.line p.word)
    else Ok p

-- this word, if it is the next
unfoldable pub optional : List ℕ → Form LefError Bool
optional word = do
  here ← at word
  choose here (do
    _ ← the_word word
    done true)
      (done false)

abbrev pub no_via_lines : ViaLines
no_via_lines = record { layer = None; rects = []; form = no_form_lines }

abbrev pub with_via : Library → List ℕ → Bool → List (LayerNo × Sides) → Library
with_via lib name usable rects = record lib { vias = lib.vias ++ record { name = name; usable = usable; rects = rects } ∷ [] }

abbrev pub with_via_name : Library → List ℕ → Library
with_via_name lib name = record lib { via_names = lib.via_names ++ name ∷ [] }

-- the rectangles of a via, behind its name
unfoldable pub via_rects : ℕ → Library → List ℕ → Form LefError (List (LayerNo × Sides))
via_rects units lib name = do
  s ← loop (via_line units lib name) no_via_lines
  done (rects_at_end s.form s.rects)

abbrev pub via_body : ℕ → Library → List ℕ → Bool → Form LefError (Turn Library)
via_body units lib name usable = do
  rects ← via_rects units lib name
  done (More (with_via lib name usable rects))

-- behind the word VIA
unfoldable pub via_statement : ℕ → Library → Form LefError (Turn Library)
via_statement units lib = do
  name ← one (via_name lib.via_names)
  usable ← optional (codes "DEFAULT")
  _ ← optional (codes "TOPOFSTACKONLY")
  via_body units (with_via_name lib name.word) name.word usable

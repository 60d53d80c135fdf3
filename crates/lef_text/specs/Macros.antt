-- MACRO of LEF (LEF/DEF 5.8 Language Reference, LEF MACRO).
use Rattle.std.specs.Prelude.{ℕ, ◌^◌, All, List, [], ◌∷◌, ◌++◌, map, pos, bytes_eq, codes}
use Rattle.rt_base.specs.Sides.{Sides}
use Rattle.rt_base.specs.Geometry.{moved}
use Rattle.rt_base.specs.Ranges.{IsPointWithin, AreSidesWithin}
use Rattle.rt_base.specs.declared.geometry.Point.{Point}
use Rattle.rt_base.specs.declared.tech.LayerNo.{LayerNo}
use Rattle.rt_forms.specs.Lexeme.{Place}
use Rattle.rt_forms.specs.Form.{Form, next, one, done, ◌>>=◌, choose, loop, Turn, More, Done}
use Rattle.rt_forms.specs.Reading.{the_word, semicolon, rest, up_to_word, up_to_pair, is_name_word}
use Rattle.lef_text.specs.declared.error.LefError.{LefError}
use Rattle.lef_text.specs.declared.lef.Macro.{Macro}
use Rattle.lef_text.specs.declared.library.Library.{Library}
use Rattle.lef_text.specs.declared.library.MacroLines.{MacroLines}
use Rattle.lef_text.specs.declared.macro_words.MacroLine.{MacroLine}
use Rattle.lef_text.specs.declared.macro_words.MacroLine.TheVariants as lines
use Rattle.lef_text.specs.Words.{macro_line_of}
use Rattle.lef_text.specs.Numbers.{number}
use Rattle.lef_text.specs.Layers.{new_name}
use Rattle.lef_text.specs.OnLayers.{unknown}
use Rattle.lef_text.specs.Shapes.{Drawn, drawn, more_shapes}

-- ---- PIN

abbrev pub port : ℕ → Drawn → Form LefError (Turn Drawn)
port units s = do
  t ← more_shapes units s.lib s.shapes
  done (More (drawn t.lib t.shapes))

abbrev pub end_of_pin : List ℕ → Drawn → Form LefError (Turn Drawn)
end_of_pin name s = do
  _ ← the_word name
  done (Done s)

abbrev pub unused_of_pin : Drawn → Form LefError (Turn Drawn)
unused_of_pin s = do
  _ ← rest
  done (More s)

unfoldable pub pin_line : ℕ → List ℕ → Drawn → Form LefError (Turn Drawn)
pin_line units name s = do
  w ← next
  choose (bytes_eq w.word (codes "PORT")) (port units s) (
      choose (bytes_eq w.word (codes "END")) (end_of_pin name s) (
      choose (is_name_word w.word) (unused_of_pin s) (unknown w)))

-- ---- lines of a macro

-- the lines so far, and the text before with its counts
pub record Cell : Type 0 where
  pub lib : Library
  pub lines : MacroLines

abbrev pub cell_of : Library → MacroLines → Cell
cell_of lib m = record { lib = lib; lines = m }

abbrev pub with_pin : MacroLines → List ℕ → List (LayerNo × Sides) → MacroLines
with_pin m name shapes = record m { pins = m.pins ++ (name, shapes) ∷ []; pin_names = m.pin_names ++ name ∷ [] }

unfoldable pub pin : ℕ → Cell → Form LefError (Turn Cell)
pin units s = do
  name ← one (new_name s.lines.pin_names)
  t ← loop (pin_line units name.word) (drawn s.lib [])
  done (More (cell_of t.lib (with_pin s.lines name.word t.shapes)))

abbrev pub obs : ℕ → Cell → Form LefError (Turn Cell)
obs units s = do
  t ← more_shapes units s.lib s.lines.obs
  done (More (cell_of t.lib (record s.lines { obs = t.shapes })))

-- `w BY h ;`
unfoldable pub size : ℕ → Form LefError Point
size units = do
  w ← number units
  _ ← the_word (codes "BY")
  h ← number units
  _ ← semicolon
  done (record { x = w; y = h })

-- `x y ;`
unfoldable pub origin : ℕ → Form LefError Point
origin units = do
  x ← number units
  y ← number units
  _ ← semicolon
  done (record { x = x; y = y })

abbrev pub size_line : ℕ → Cell → Form LefError (Turn Cell)
size_line units s = do
  z ← size units
  done (More (cell_of s.lib (record s.lines { size = z })))

abbrev pub origin_line : ℕ → Cell → Form LefError (Turn Cell)
origin_line units s = do
  o ← origin units
  done (More (cell_of s.lib (record s.lines { origin = o })))

abbrev pub unused_of_macro : Cell → Form LefError (Turn Cell)
unused_of_macro s = do
  _ ← rest
  done (More s)

abbrev pub density : Cell → Form LefError (Turn Cell)
density s = do
  _ ← up_to_word (codes "END")
  done (More s)

abbrev pub timing : Cell → Form LefError (Turn Cell)
timing s = do
  _ ← up_to_pair (codes "END") (codes "TIMING")
  done (More s)

abbrev pub end_of_macro : List ℕ → Cell → Form LefError (Turn Cell)
end_of_macro name s = do
  _ ← the_word name
  done (Done s)

abbrev pub line_by : ℕ → List ℕ → Cell → Place → MacroLine → Form LefError (Turn Cell)
line_by units name s w lines.Size = size_line units s
line_by units name s w lines.Origin = origin_line units s
line_by units name s w lines.Pin = pin units s
line_by units name s w lines.Obs = obs units s
line_by units name s w lines.Density = density s
line_by units name s w lines.Timing = timing s
line_by units name s w lines.Unused = unused_of_macro s
line_by units name s w lines.End = end_of_macro name s
line_by units name s w lines.Unknown = unknown w

unfoldable pub macro_line : ℕ → List ℕ → Cell → Form LefError (Turn Cell)
macro_line units name s = do
  w ← next
  line_by units name s w (macro_line_of w.word)

-- ---- the statement

abbrev pub moved_shape : Point → LayerNo × Sides → LayerNo × Sides
moved_shape by s = (s.0, moved by s.1)

abbrev pub moved_shapes : Point → List (LayerNo × Sides) → List (LayerNo × Sides)
moved_shapes by shapes = map (moved_shape by) shapes

abbrev pub moved_pin : Point → List ℕ × List (LayerNo × Sides) → List ℕ × List (LayerNo × Sides)
moved_pin by p = (p.0, moved_shapes by p.1)

abbrev pub moved_pins : Point → List (List ℕ × List (LayerNo × Sides)) → List (List ℕ × List (LayerNo × Sides))
moved_pins by pins = map (moved_pin by) pins

-- near enough to (0, 0) to be moved
abbrev pub IsNearShape : LayerNo × Sides → Type 0
IsNearShape s = AreSidesWithin (2 ^ 30) s.1

abbrev pub IsNearPin : List ℕ × List (LayerNo × Sides) → Type 0
IsNearPin p = All IsNearShape p.1

pub record AreNear (m : MacroLines) : Type 0 where
  pub origin : IsPointWithin (2 ^ 30) m.origin
  pub pins : All IsNearPin m.pins
  pub obs : All IsNearShape m.obs

-- a macro, moved by its last ORIGIN
abbrev pub macro_of : List ℕ → MacroLines → Macro
macro_of name m = record { name = name; w = m.size.x; h = m.size.y; pins = moved_pins m.origin m.pins; obs = moved_shapes m.origin m.obs }

abbrev pub corner_0 : Point
corner_0 = record { x = pos 0; y = pos 0 }

abbrev pub no_macro_lines : MacroLines
no_macro_lines = record { size = corner_0; origin = corner_0; pins = []; pin_names = []; obs = [] }

abbrev pub with_macro_name : Library → List ℕ → Library
with_macro_name lib name = record lib { macro_names = lib.macro_names ++ name ∷ [] }

abbrev pub with_macro : Library → Macro → Library
with_macro lib m = record lib { macros = lib.macros ++ m ∷ [] }

unfoldable pub macro_body : ℕ → Library → List ℕ → Form LefError (Turn Library)
macro_body units lib name = do
  s ← loop (macro_line units name) (cell_of lib no_macro_lines)
  done (More (with_macro s.lib (macro_of name s.lines)))

-- behind the word MACRO
unfoldable pub macro_statement : ℕ → Library → Form LefError (Turn Library)
macro_statement units lib = do
  name ← one (new_name lib.macro_names)
  macro_body units (with_macro_name lib name.word) name.word

-- LAYER of LEF (LEF/DEF 5.8 Language Reference, LEF LAYER (Cut) and LAYER (Routing)).
use Rattle.std.specs.Prelude.{ℕ, ◌%◌, ◌==◌, List, [], ◌∷◌, ◌++◌, length, Result, Ok, Err, Option, Some, None, ℤ, pos, unsigned_abs, unwrap_or, bytes_eq, codes, if◌then◌else◌, Bool, true, false, not}
use Rattle.std.specs.Int.{int_max}
use Rattle.std.specs.List.{list_any}
use Rattle.rt_base.specs.declared.tech.Layer.{Layer}
use Rattle.rt_base.specs.declared.tech.SpacingTable.{SpacingTable}
use Rattle.rt_forms.specs.Lexeme.{Place}
use Rattle.rt_forms.specs.Form.{Form, next, one, admit, check, done, ◌>>=◌, choose, loop, Turn, More, Done}
use Rattle.rt_forms.specs.Reading.{the_word, semicolon, rest, is_name_word, if_so}
use Rattle.lef_text.specs.declared.error.LefError.{LefError}
use Rattle.lef_text.specs.declared.error.LefError.TheVariants.{Expected, Unknown, Twice, Refused, LayerWithout, OddWidth, SameDirection}
use Rattle.lef_text.specs.declared.error.What.{What}
use Rattle.lef_text.specs.declared.error.What.TheVariants.{Direction, Width, Spacing}
use Rattle.lef_text.specs.declared.library.Library.{Library}
use Rattle.lef_text.specs.declared.library.LayerLines.{LayerLines}
use Rattle.lef_text.specs.declared.library.LayerType.{LayerType}
use Rattle.lef_text.specs.declared.library.LayerType.TheVariants as types
use Rattle.lef_text.specs.declared.layer_words.LayerLine.{LayerLine}
use Rattle.lef_text.specs.declared.layer_words.LayerLine.TheVariants as lines
use Rattle.lef_text.specs.Words.{layer_line_of}
use Rattle.lef_text.specs.Numbers.{length_line, length_at_least}
use Rattle.lef_text.specs.Tables.{counted, counted_line, greatest, table_line, density_line}

-- a name that none of these is
abbrev pub new_name : List (List ℕ) → Place → Result Place LefError
new_name names p = if not (is_name_word p.word) then Err (Expected p.line) else if list_any (bytes_eq p.word) names then Err (Twice p.line p.word) else Ok p

-- ---- TYPE

abbrev pub type_word : Place → Result (Unit {0}) LefError
type_word p = if bytes_eq p.word (codes "TYPE") then Ok tt else Err (Unknown p.line)

abbrev pub type_of : List ℕ → Option LayerType
type_of word =
    if bytes_eq word (codes "ROUTING") then Some types.Routing
    else if bytes_eq word (codes "CUT") then Some types.Cut
    else if_so (list_any (bytes_eq word) (codes "MASTERSLICE" ∷ codes "OVERLAP" ∷ codes "IMPLANT" ∷ [])) types.Other

unfoldable pub layer_type : Form LefError LayerType
layer_type = do
  _ ← one type_word
  type ← admit (λ p. type_of p.word)
  _ ← semicolon
  done type

-- ---- lines of routing and cut layers

abbrev pub direction_word : Place → Result Bool LefError
direction_word p =
    if bytes_eq p.word (codes "HORIZONTAL") then Ok true
    else if bytes_eq p.word (codes "VERTICAL") then Ok false
    else if is_name_word p.word then Err (Refused p.line p.word)
    else Err (Expected p.line)

abbrev pub direction_line : LayerLines → Form LefError (Turn LayerLines)
direction_line s = do
  d ← one direction_word
  _ ← semicolon
  done (More (record s { horizontal = Some d }))

abbrev pub width_line : ℕ → LayerLines → Form LefError (Turn LayerLines)
width_line units s = do
  w ← length_line units (pos 1)
  done (More (record s { width = Some w }))

abbrev pub with_spacing : LayerLines → Result ℤ LefError → Result (Turn LayerLines) LefError
with_spacing s (Ok n) = Ok (More (record s { spacing = Some (greatest s.spacing n) }))
with_spacing s (Err e) = Err e

-- `SPACING v ;` has three words. Any other line is counted.
unfoldable pub spacing_line : ℕ → LayerLines → Form LefError (Turn LayerLines)
spacing_line units s = do
  v ← next
  choose (bytes_eq v.word (codes ";")) (done (counted s)) (do
    end ← next
    choose (bytes_eq end.word (codes ";"))
        (check (with_spacing s (length_at_least units (pos 0) v)))
        (do
          _ ← rest
          done (counted s)))

-- what a routing layer lacks
abbrev pub lack_of : Option Bool → Option ℤ → Option ℤ → Option What
lack_of None width spacing = Some Direction
lack_of (Some d) None spacing = Some Width
lack_of (Some d) (Some w) None = Some Spacing
lack_of (Some d) (Some w) (Some s) = None

abbrev pub are_same : Bool → Bool → Bool
are_same true b = b
are_same false b = not b

-- a routing layer below has another direction
abbrev pub crosses : Option (List ℕ × Bool) → List ℕ → Bool → Result (Unit {0}) LefError
crosses None name horizontal = Ok tt
crosses (Some below) name horizontal = if are_same below.1 horizontal then Err (SameDirection below.0 name) else Ok tt

abbrev pub is_even : ℤ → Bool
is_even n = unsigned_abs n % 2 == 0

abbrev pub whole_routing : Option (List ℕ × Bool) → List ℕ → Option Bool → Option ℤ → Option What → Result (Unit {0}) LefError
whole_routing top name horizontal width (Some what) = Err (LayerWithout name what)
whole_routing top name horizontal width None = if is_even (unwrap_or width (pos 0)) then crosses top name (unwrap_or horizontal false) else Err (OddWidth name)

-- the tests at the end of a layer
abbrev pub whole_layer : Option (List ℕ × Bool) → LayerLines → Result (Unit {0}) LefError
whole_layer top s = if s.routing then whole_routing top s.name s.horizontal s.width (lack_of s.horizontal s.width s.spacing) else Ok tt

unfoldable pub end_of_layer : Option (List ℕ × Bool) → LayerLines → Form LefError (Turn LayerLines)
end_of_layer top s = do
  _ ← check (whole_layer top s)
  _ ← the_word s.name
  done (Done s)

abbrev pub other_line : Place → LayerLines → Form LefError (Turn LayerLines)
other_line w s = choose (is_name_word w.word) (counted_line s) (check (Err (Unknown w.line)))

abbrev pub line_by : ℕ → Option (List ℕ × Bool) → LayerLines → Place → LayerLine → Form LefError (Turn LayerLines)
line_by units top s w lines.Direction = direction_line s
line_by units top s w lines.Unused = do
  _ ← rest
  done (More s)
line_by units top s w lines.Width = width_line units s
line_by units top s w lines.Spacing = spacing_line units s
line_by units top s w lines.SpacingTable = table_line units s
line_by units top s w lines.CurrentDensity = density_line s
line_by units top s w lines.End = end_of_layer top s
line_by units top s w lines.Other = other_line w s

unfoldable pub layer_line : ℕ → Option (List ℕ × Bool) → LayerLines → Form LefError (Turn LayerLines)
layer_line units top s = do
  w ← next
  line_by units top s w (layer_line_of w.word)

abbrev pub no_table : SpacingTable
no_table = record { lengths = []; rows = [] }

abbrev pub no_lines : List ℕ → Bool → LayerLines
no_lines name routing = record { name = name; routing = routing; horizontal = None; width = None; spacing = None; table = no_table; skipped = 0 }

-- ---- lines of other layers

unfoldable pub dropped_line : List ℕ → Unit {0} → Form LefError (Turn (Unit {0}))
dropped_line name s = do
  w ← next
  choose (bytes_eq w.word (codes "END")) (do
    _ ← the_word name
    done (Done tt)) (
      choose (is_name_word w.word) (do
        _ ← rest
        done (More tt))
      (check (Err (Unknown w.line))))

-- ---- the statement

abbrev pub layer_at_end : LayerLines → Layer
layer_at_end s = record { name = s.name; routing = s.routing; horizontal = unwrap_or s.horizontal false; width = unwrap_or s.width (pos 0); spacing = int_max (pos 0) (unwrap_or s.spacing (pos 0)); table = s.table }

abbrev pub top_at_end : Option (List ℕ × Bool) → LayerLines → Option (List ℕ × Bool)
top_at_end top s = if s.routing then Some (s.name, unwrap_or s.horizontal false) else top

-- with a routing or cut layer on top
abbrev pub with_layer : Library → LayerLines → Library
with_layer lib s = record lib {
  layers = lib.layers ++ layer_at_end s ∷ [];
  skipped = lib.skipped ++ (s.name, s.skipped) ∷ [];
  top = top_at_end lib.top s;
  numbers = lib.numbers ++ Some (record { 0 = length lib.layers }) ∷ [];
}

-- with a layer of another type
abbrev pub with_dropped : Library → List ℕ → Library
with_dropped lib name = record lib {
  dropped = lib.dropped ++ name ∷ [];
  skipped = lib.skipped ++ (name, 0) ∷ [];
  numbers = lib.numbers ++ None ∷ [];
}

unfoldable pub used_layer : ℕ → Library → List ℕ → Bool → Form LefError (Turn Library)
used_layer units lib name routing = do
  s ← loop (layer_line units lib.top) (no_lines name routing)
  done (More (with_layer lib s))

unfoldable pub dropped_layer : Library → List ℕ → Form LefError (Turn Library)
dropped_layer lib name = do
  _ ← loop (dropped_line name) tt
  done (More (with_dropped lib name))

abbrev pub layer_by : ℕ → Library → List ℕ → LayerType → Form LefError (Turn Library)
layer_by units lib name types.Routing = used_layer units lib name true
layer_by units lib name types.Cut = used_layer units lib name false
layer_by units lib name types.Other = dropped_layer lib name

abbrev pub with_layer_name : Library → List ℕ → Library
with_layer_name lib name = record lib { layer_names = lib.layer_names ++ name ∷ [] }

-- behind the word LAYER
unfoldable pub layer_statement : ℕ → Library → Form LefError (Turn Library)
layer_statement units lib = do
  name ← one (new_name lib.layer_names)
  type ← layer_type
  layer_by units (with_layer_name lib name.word) name.word type

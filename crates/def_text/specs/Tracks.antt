-- DIEAREA and TRACKS (DEF 5.8, Die Area, Tracks).
use Rattle.std.specs.Prelude.{ℕ, ◌^◌, pos, List, [], ◌∷◌, ◌++◌, Bool, true, false, Result, Ok, Err, Option, Some, None, bytes_eq, codes, if◌then◌else◌}
use Rattle.rt_base.specs.Sides.{Sides}
use Rattle.rt_base.specs.Geometry.{hull_of}
use Rattle.rt_forms.specs.Lexeme.{Place}
use Rattle.rt_forms.specs.Form.{Form, next, one, admit, check, done, ◌>>=◌, choose, loop, Turn, More, Done}
use Rattle.rt_forms.specs.Reading.{the_word, is_name_word}
use Rattle.def_text.specs.declared.error.DefError.{DefError}
use Rattle.def_text.specs.declared.error.DefError.TheVariants.{Expected, Refused, DiePolygon}
use Rattle.def_text.specs.declared.def.TrackRow.{TrackRow}
use Rattle.def_text.specs.Parts.{a_number, a_count, point}

-- behind the second point
abbrev pub die_end : Place → Result (Unit {0}) DefError
die_end w =
    if bytes_eq w.word (codes ";") then Ok tt
    else if bytes_eq w.word (codes "(") then Err (DiePolygon w.line)
    else Err (Expected w.line)

-- `( x y ) ( x y ) ;`, corners in any order
unfoldable pub die : Form DefError Sides
die = do
  p ← point
  q ← point
  _ ← one die_end
  done (hull_of p q)

-- X or Y
abbrev pub axis : Place → Option Bool
axis w =
    if bytes_eq w.word (codes "X") then Some true
    else if bytes_eq w.word (codes "Y") then Some false
    else None

-- behind the step: `;`, or LAYER
abbrev pub tracks_end : Place → Result Bool DefError
tracks_end w =
    if bytes_eq w.word (codes ";") then Ok false
    else if bytes_eq w.word (codes "LAYER") then Ok true
    else if bytes_eq w.word (codes "MASK") then Err (Refused w.line w.word)
    else Err (Expected w.line)

-- a layer's name
abbrev pub track_layer : Place → Result (List ℕ) DefError
track_layer w =
    if bytes_eq w.word (codes "MASK") then Err (Refused w.line w.word)
    else if is_name_word w.word then Ok w.word
    else Err (Expected w.line)

-- one more layer, or `;`
unfoldable pub more_layers : List (List ℕ) → Form DefError (Turn (List (List ℕ)))
more_layers layers = do
  w ← next
  choose (bytes_eq w.word (codes ";")) (done (Done layers)) (do
    layer ← check (track_layer w)
    done (More (layers ++ layer ∷ [])))

-- one or more layers, and `;`
unfoldable pub track_layers : Form DefError (List (List ℕ))
track_layers = do
  layer ← one track_layer
  loop more_layers (layer ∷ [])

-- layers and `;`, or `;` alone
unfoldable pub track_tail : Form DefError (Option (List (List ℕ)))
track_tail = do
  named ← one tracks_end
  choose named (do
    layers ← track_layers
    done (Some layers)) (done None)

-- `X|Y a DO n STEP s [LAYER l ..] ;`
unfoldable pub track_row : Form DefError TrackRow
track_row = do
  x ← admit axis
  first ← a_number
  _ ← the_word (codes "DO")
  count ← a_count 1 (2 ^ 30)
  _ ← the_word (codes "STEP")
  step ← a_count 1 (2 ^ 30)
  layers ← track_tail
  done (record { x = x; first = first; count = count; step = pos step; layers = layers })

-- Polygons of vias, ports and obstructions (LEF/DEF 5.8 Language Reference, LEF VIA, MACRO PIN: PORT, LEF MACRO: OBS; POLYGON).
use Rattle.std.specs.Prelude.{ℕ, List, [], ◌∷◌, ◌++◌, length, Result, Ok, Err, nat_le, ◌&&◌, bytes_eq, codes, if◌then◌else◌, Bool}
use Rattle.rt_base.specs.Sides.{Sides}
use Rattle.rt_base.specs.declared.geometry.Point.{Point}
use Rattle.rt_shapes.specs.Polygons.{is_rectilinear_of, slabs_of}
use Rattle.rt_words.specs.Reading.{decimal_of}
use Rattle.rt_forms.specs.Lexeme.{Place}
use Rattle.rt_forms.specs.Form.{Form, next, one, check, done, ◌>>=◌, choose, loop, Turn, More, Done}
use Rattle.rt_forms.specs.Reading.{at_line}
use Rattle.lef_text.specs.declared.error.LefError.{LefError}
use Rattle.lef_text.specs.declared.error.LefError.TheVariants.{Number, Refused}
use Rattle.lef_text.specs.Numbers.{number, first_number, corner}

-- a further point, or the `;` behind at least four
unfoldable pub point_turn : ℕ → List Point → Form LefError (Turn (List Point))
point_turn units points = do
  w ← next
  choose (bytes_eq w.word (codes ";") && nat_le 4 (length points)) (done (Done points)) (do
    x ← check (at_line Number w.line (decimal_of w.word units))
    y ← number units
    done (More (points ++ corner x y ∷ [])))

-- `x y x y x y x y .. ;`
unfoldable pub polygon_points : Bool → ℕ → Form LefError (List Point)
polygon_points in_macro units = do
  x ← one (first_number in_macro units)
  y ← number units
  loop (point_turn units) (corner x y ∷ [])

-- the rectangles of a polygon behind the word w
abbrev pub cut_up : Place → List Point → Result (List Sides) LefError
cut_up w points = if is_rectilinear_of points then Ok (slabs_of points) else Err (Refused w.line w.word)

-- behind the word w
unfoldable pub polygon : Bool → ℕ → Place → Form LefError (List Sides)
polygon in_macro units w = do
  points ← polygon_points in_macro units
  check (cut_up w points)

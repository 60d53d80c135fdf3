-- Polygons of BLOCKAGES (DEF 5.8, Blockages: POLYGON).
use Rattle.std.specs.Prelude.{◌≡◌, List, [], ◌∷◌, ◌++◌, Result, Ok, Err, false, if◌then◌else◌}
use Rattle.rt_base.specs.declared.geometry.Point.{Point}
use Rattle.rt_forms.specs.Lexeme.{Lexeme, At, End, Place, is_end}
use Rattle.rt_forms.specs.Form.{Faults, Form, Read, RefusesOne, check, done, ◌>>=◌, loop, unless, Turn, More}
use Rattle.def_text.specs.declared.error.DefError.{DefError}
use Rattle.def_text.specs.declared.error.DefError.TheVariants.{Refused}
use Rattle.def_text.specs.Parts.{no_bracket, point}
use Rattle.rt_shapes.specs.Polygons.{is_rectilinear_of}

-- one more point
unfoldable pub more_points : List Point → Form DefError (Turn (List Point))
more_points points = do
  p ← point
  done (More (points ++ p ∷ []))

unfoldable pub four_points : Form DefError (List Point)
four_points = do
  a ← point
  b ← point
  c ← point
  d ← point
  done (a ∷ b ∷ c ∷ d ∷ [])

-- four points or more
unfoldable pub polygon_points : Form DefError (List Point)
polygon_points = do
  points ← four_points
  loop (unless no_bracket more_points) points

abbrev pub some_left : {E : Type 0} → Faults E → List Lexeme → Read E (Unit {0})
some_left f [] = Err (f.ended 1)
some_left f (End line ∷ ws) = Err (f.ended line)
some_left f (At line first word ∷ ws) = Ok (tt, At line first word ∷ ws)

-- no word, where one is left
abbrev pub a_word_is_left : {E : Type 0} → Form E (Unit {0})
a_word_is_left = record {
  takes = λ front rest a. (front ≡ []) × (is_end rest ≡ false);
  refuses = λ f ws e. RefusesOne f (λ p d. ⊥) ws e;
  read = λ f ws. some_left f ws;
}

-- the points go round a rectilinear polygon, else its word is refused
abbrev pub rectilinear : Place → List Point → Result (Unit {0}) DefError
rectilinear w points = if is_rectilinear_of points then Ok tt else Err (Refused w.line w.word)

-- points behind this word, and what ends them is there
unfoldable pub polygon : Place → Form DefError (List Point)
polygon w = do
  points ← polygon_points
  _ ← a_word_is_left
  _ ← check (rectilinear w points)
  done points

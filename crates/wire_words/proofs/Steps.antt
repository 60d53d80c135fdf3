-- The words of a stroke are taken by the forms of a path.
use Rattle.std.proofs.Common.{◌≡◌, ℕ, ◌^◌, false, List, [], ◌∷◌, Ok, Some, None, bytes_eq, refl, sym, subst, ◌⊎◌}
use Rattle.std.specs.Prelude.{codes}
use Rattle.std.specs.Fmt.{signed_decimal}
use Rattle.rt_base.specs.Ranges.{IsPointWithin}
use Rattle.rt_base.specs.declared.geometry.Point.{Point}
use Rattle.rt_base.specs.declared.orient.Orient.TheVariants.{N}
use Rattle.rt_base.specs.declared.tech.LayerNo.{LayerNo}
use Rattle.rt_base.specs.declared.tech.Tech.{Tech}
use Rattle.rt_forms.specs.Lexeme.{Lexeme, Place, put, first_of}
use Rattle.rt_forms.specs.Form.{More}
use Rattle.def_wires.specs.declared.points.Corner.{Corner}
use Rattle.def_wires.specs.declared.steps.OpenPath.{OpenPath}
use Rattle.def_wires.specs.declared.words.StepWord.{StepWord}
use Rattle.def_wires.specs.declared.words.StepWord.TheVariants.{Opening, ViaName}
use Rattle.def_wires.specs.Words.{routing_layer, any_via, layer_beyond, orient_next, step_word}
use Rattle.def_wires.specs.Paths.{extension, first_corner, next_corner, orient, optional_array, via_step, with_via, go_step, with_go, step_by, more_steps, optional_word, regular_start, begun}
use Rattle.wire_words.proofs.Meanings.{first_coordinate_is, coordinate_is, last_coordinate_is, opens}

-- the words of a point
pub record ArePoint (a : Point) (o x y c : Place) : Type 0 where
  pub start : o.word ≡ codes "("
  pub first : x.word ≡ signed_decimal a.x
  pub second : y.word ≡ signed_decimal a.y
  pub finish : c.word ≡ codes ")"

-- a point without an extension
abbrev pub plain : Point → Corner
plain a = record { point = a; ext = None }

-- a path that begins at a point
abbrev pub from_point : LayerNo → Point → OpenPath
from_point layer a = begun None layer (plain a)

extension_takes : (c : Place) (rest : List Lexeme) → c.word ≡ codes ")" → extension.takes (c ∷ []) rest None
unfolding extension
extension_takes c rest e = (c, c ∷ [], [], refl, refl, rw e (refl, refl))

first_corner_takes : (a : Point) (o x y c : Place) (rest : List Lexeme) → ArePoint a o x y c → IsPointWithin (2 ^ 30) a → first_corner.takes (x ∷ y ∷ c ∷ []) rest (plain a)
unfolding first_corner
first_corner_takes a o x y c rest w near = (
  a.x,
  x ∷ [],
  y ∷ c ∷ [],
  refl,
  (x, refl, first_coordinate_is x a.x w.first near.0),
  (
    a.y,
    y ∷ [],
    c ∷ [],
    refl,
    (y, refl, first_coordinate_is y a.y w.second near.1),
    (None, c ∷ [], [], refl, extension_takes c rest w.finish, (refl, refl)),
  ),
)

next_corner_takes : (from b : Point) (o x y c : Place) (rest : List Lexeme) → ArePoint b o x y c → IsPointWithin (2 ^ 30) b → (from.x ≡ b.x) ⊎ (from.y ≡ b.y) → (next_corner from).takes (x ∷ y ∷ c ∷ []) rest (plain b)
unfolding next_corner
next_corner_takes from b o x y c rest w near straight = (
  b.x,
  x ∷ [],
  y ∷ c ∷ [],
  refl,
  (x, refl, coordinate_is from.x x b.x w.first near.0),
  (
    b,
    y ∷ [],
    c ∷ [],
    refl,
    (y, refl, last_coordinate_is from b y w.second near.1 straight),
    (None, c ∷ [], [], refl, extension_takes c rest w.finish, (refl, refl)),
  ),
)

optional_word_takes : (word : List ℕ) (p : Place) (ps : List Place) (rest : List Lexeme) → bytes_eq p.word word ≡ false → (optional_word word).takes [] (put (p ∷ ps) rest) tt
unfolding optional_word
optional_word_takes word p ps rest e = (Some p, [], [], refl, (refl, refl), rw e (refl, refl))

pub start_takes : (reader : Tech) (layer : LayerNo) (a : Point) (l o x y c : Place) (rest : List Lexeme) → routing_layer reader l ≡ Ok layer → ArePoint a o x y c → IsPointWithin (2 ^ 30) a → (regular_start reader).takes (l ∷ o ∷ x ∷ y ∷ c ∷ []) rest (from_point layer a)
unfolding regular_start
start_takes reader layer a l o x y c rest e w near =
    let taper : bytes_eq o.word (codes "TAPER") ≡ false = rw w.start refl in (
      layer,
      l ∷ [],
      o ∷ x ∷ y ∷ c ∷ [],
      refl,
      (l, refl, e),
      (
        tt,
        [],
        o ∷ x ∷ y ∷ c ∷ [],
        refl,
        optional_word_takes (codes "TAPER") o (x ∷ y ∷ c ∷ []) rest taper,
        (
          tt,
          o ∷ [],
          x ∷ y ∷ c ∷ [],
          refl,
          (o, refl, opens o w.start),
          (plain a, x ∷ y ∷ c ∷ [], [], refl, first_corner_takes a o x y c rest w near, (refl, refl)),
        ),
      ),
    )

-- ---- steps

by_kind : (reader : Tech) (kind : StepWord) (w : Place) (path path' : OpenPath) (words : List Place) (rest : List Lexeme) → step_word w.word ≡ kind → (step_by reader false kind w path).takes words rest path' → (step_by reader false (step_word w.word) w path).takes words rest path'
by_kind reader kind w path path' words rest e h = subst (λ (k : StepWord). (step_by reader false k w path).takes words rest path') (sym e) h

go_takes : (layer : LayerNo) (a b : Point) (o x y c : Place) (rest : List Lexeme) → ArePoint b o x y c → IsPointWithin (2 ^ 30) b → (a.x ≡ b.x) ⊎ (a.y ≡ b.y) → (go_step o (from_point layer a)).takes (x ∷ y ∷ c ∷ []) rest (with_go (from_point layer a) (plain b))
unfolding go_step
go_takes layer a b o x y c rest w near straight = (
  tt,
  [],
  x ∷ y ∷ c ∷ [],
  refl,
  (refl, refl),
  (plain b, x ∷ y ∷ c ∷ [], [], refl, next_corner_takes a b o x y c rest w near straight, (refl, refl)),
)

pub more_go : (reader : Tech) (layer : LayerNo) (a b : Point) (o x y c : Place) (rest : List Lexeme) → ArePoint b o x y c → IsPointWithin (2 ^ 30) b → (a.x ≡ b.x) ⊎ (a.y ≡ b.y) → (more_steps reader false (from_point layer a)).takes (o ∷ x ∷ y ∷ c ∷ []) rest (More (with_go (from_point layer a) (plain b)))
unfolding more_steps
more_go reader layer a b o x y c rest w near straight =
    let kind : step_word o.word ≡ Opening = rw w.start refl in
    let path = from_point layer a in
    let path' = with_go path (plain b) in (
      o,
      o ∷ [],
      x ∷ y ∷ c ∷ [],
      refl,
      refl,
      (path', x ∷ y ∷ c ∷ [], [], refl, by_kind reader Opening o path path' (x ∷ y ∷ c ∷ []) rest kind (go_takes layer a b o x y c rest w near straight), (refl, refl)),
    )

orient_takes : (rest : List Lexeme) → orient_next (first_of rest) ≡ None → orient.takes [] rest N
unfolding orient
orient_takes rest e = (first_of rest, [], [], refl, (refl, refl), rw e (refl, refl))

optional_array_takes : (rest : List Lexeme) → (optional_array false).takes [] rest None
unfolding optional_array
optional_array_takes rest = (first_of rest, [], [], refl, (refl, refl), (refl, refl))

via_takes : (reader : Tech) (w : Place) (path : OpenPath) (k : ℕ) (other : LayerNo) (rest : List Lexeme) → any_via reader w ≡ Ok k → layer_beyond reader path.spot.layer w.line k ≡ Ok other → orient_next (first_of rest) ≡ None → (via_step reader false w path).takes [] rest (with_via path k N other None)
unfolding via_step
via_takes reader w path k other rest via beyond turn = (
  k,
  [],
  [],
  refl,
  (refl, via),
  (
    other,
    [],
    [],
    refl,
    (refl, beyond),
    (
      N,
      [],
      [],
      refl,
      orient_takes rest turn,
      (None, [], [], refl, optional_array_takes rest, (refl, refl)),
    ),
  ),
)

pub more_via : (reader : Tech) (w : Place) (path : OpenPath) (k : ℕ) (other : LayerNo) (rest : List Lexeme) → step_word w.word ≡ ViaName → any_via reader w ≡ Ok k → layer_beyond reader path.spot.layer w.line k ≡ Ok other → orient_next (first_of rest) ≡ None → (more_steps reader false path).takes (w ∷ []) rest (More (with_via path k N other None))
unfolding more_steps
more_via reader w path k other rest kind via beyond turn =
    let path' = with_via path k N other None in
    (w, w ∷ [], [], refl, refl, (path', [], [], refl, by_kind reader ViaName w path path' [] rest kind (via_takes reader w path k other rest via beyond turn), (refl, refl)))

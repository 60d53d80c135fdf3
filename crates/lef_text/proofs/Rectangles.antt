-- What holds of numbers and rectangles.
use Rattle.std.proofs.Common.{◌≡◌, ℕ, ◌^◌, Bool, ◌&&◌, nat_le, List, [], ◌∷◌, length, bytes_eq, codes, Ok, Option, Some, None, ℤ, sym, ◌∙◌, subst, arith, slice_get, slice_index_or, inl, inr}
use Rattle.std.specs.Prelude.{All}
use Rattle.std.specs.Int.{int_max, int_min}
use Rattle.std.proofs.lemmas.Int.{ints, int_max_is, int_min_is}
use Rattle.std.proofs.lemmas.Option.{slice_get_cases}
use Rattle.std.proofs.lemmas.List.Elements.{All-get_or, All-push, All-cons, All-nil, All-head, All-tail}
use Rattle.rt_base.specs.declared.tech.LayerNo.{LayerNo}
use Rattle.rt_base.specs.Geometry.{hull_of}
use Rattle.rt_base.specs.Ranges.{IsWithin, IsPointWithin, AreSidesWithin}
use Rattle.rt_forms.specs.Lexeme.{Place}
use Rattle.rt_forms.specs.Form.{next, one, check, Done}
use Rattle.rt_forms.specs.Reading.{at_line, semicolon}
use Rattle.lef_text.specs.declared.error.LefError.TheVariants.{Number}
use Rattle.lef_text.specs.Numbers.{number, first_number, is_refused_shape, corner, rectangle}
use Rattle.lef_text.specs.OnLayers.{with_shape, with_shapes}
use Rattle.lef_text.specs.Polygons as polygons
use Rattle.rt_words.specs.Reading.{decimal_of}
use Rattle.rt_shapes.specs.Polygons.{is_rectilinear_of, slabs_of}
use Rattle.rt_shapes.proofs.SlabLemmas.{slabs_within}
use Rattle.rt_base.specs.declared.geometry.Point.{Point}
use Rattle.rt_base.specs.Sides.{Sides}
use Rattle.lef_text.specs.declared.error.LefError.{LefError}
use Rattle.lef_text.proofs.Yields.{Yields, yields_bind, yields_then, yields_check, yields_choose, yields_done, yields_one, OfTurn, yields_loop}
use Rattle.lef_text.proofs.Small.{decimal_small, passed, passed_so, ok_is, on_line}

-- ---- rectangles

pub yields_number : (units : ℕ) → Yields (number units) (IsWithin (2 ^ 30))
yields_number units = yields_one _ _ (λ p n h. decimal_small p.word units n (on_line Number p.line _ n h))

first_small : (in_macro : Bool) (units : ℕ) (p : Place) (n : ℤ) → first_number in_macro units p ≡ Ok n → IsWithin (2 ^ 30) n
first_small in_macro units p n h =
    let a = passed (is_refused_shape in_macro p.word) _ _ n h in
    decimal_small p.word units n (on_line Number p.line _ n a.1)

min_small : (m n : ℤ) → IsWithin (2 ^ 30) m → IsWithin (2 ^ 30) n → IsWithin (2 ^ 30) (int_min m n)
min_small m n h g = omega (arith, ints, int_min_is m n)

max_small : (m n : ℤ) → IsWithin (2 ^ 30) m → IsWithin (2 ^ 30) n → IsWithin (2 ^ 30) (int_max m n)
max_small m n h g = omega (arith, ints, int_max_is m n)

hull_small : (x y x' y' : ℤ) → IsWithin (2 ^ 30) x → IsWithin (2 ^ 30) y → IsWithin (2 ^ 30) x' → IsWithin (2 ^ 30) y' → AreSidesWithin (2 ^ 30) (hull_of (corner x y) (corner x' y'))
hull_small x y x' y' a b c d = (min_small x x' a c, min_small y y' b d, max_small x x' a c, max_small y y' b d)

pub yields_rectangle : (in_macro : Bool) (units : ℕ) → Yields (rectangle in_macro units) (AreSidesWithin (2 ^ 30))
unfolding rectangle
yields_rectangle in_macro units =
    let S = IsWithin (2 ^ 30) in
    let P = AreSidesWithin (2 ^ 30) in
    yields_bind (one (first_number in_macro units)) _ S P (yields_one _ _ (λ p n h. first_small in_macro units p n h)) (λ x a.
    yields_bind (number units) _ S P (yields_number units) (λ y b.
    yields_bind (number units) _ S P (yields_number units) (λ x' c.
    yields_bind (number units) _ S P (yields_number units) (λ y' d.
    yields_then semicolon _ P (λ u. yields_done _ P (hull_small x y x' y' a b c d))))))

-- ---- layers by name

pub slice_get_all : {X : Type 0} (P : X → Type 0) (xs : List X) (k : ℕ) (x : X) → All P xs → slice_get xs k ≡ Some x → P x
slice_get_all {X} P xs k x all h =
    elim ((slice_get_cases xs k).1) [
      | inl c ↦
          let same : c.0 ≡ x = some_is c.0 x (sym c.2 ∙ h) in
          let at : P (slice_index_or xs k c.0) = All-get_or P xs k c.0 c.1 all in
          subst P (c.3 ∙ same) at
      | inr c ↦ absurd (none_is x (sym c.1 ∙ h))
    ]
  where
    some_is : (x y : X) → Some x ≡ Some y → x ≡ y
    some_is x y h = cc

    none_is : (x : X) → None ≡ Some x → ⊥
    none_is x h = cc

-- ---- polygons

abbrev IsSmall : Point → Type 0
IsSmall p = IsPointWithin (2 ^ 30) p

yields_turn : (units : ℕ) (points : List Point) → All IsSmall points → Yields (polygons.point_turn units points) (OfTurn (All IsSmall) (All IsSmall))
unfolding polygons.point_turn
yields_turn units points all =
    let S = IsWithin (2 ^ 30) in
    let P = OfTurn (All IsSmall) (All IsSmall) in
    yields_then next _ P (λ w. yields_choose (bytes_eq w.word (codes ";") && nat_le 4 (length points)) _ _ P
    (yields_done (Done points) P all)
    (yields_bind (check (at_line Number w.line (decimal_of w.word units))) _ S P (yields_check _ S (λ x h. decimal_small w.word units x (on_line Number w.line _ x h))) (λ x a.
    yields_bind (number units) _ S P (yields_number units) (λ y b.
    yields_done _ P (All-push IsSmall points (corner x y) all (a, b))))))

yields_points : (in_macro : Bool) (units : ℕ) → Yields (polygons.polygon_points in_macro units) (All IsSmall)
unfolding polygons.polygon_points
yields_points in_macro units =
    let S = IsWithin (2 ^ 30) in
    let P = All IsSmall in
    yields_bind (one (first_number in_macro units)) _ S P (yields_one _ _ (λ p n h. first_small in_macro units p n h)) (λ x a.
    yields_bind (number units) _ S P (yields_number units) (λ y b.
    yields_loop (polygons.point_turn units) (corner x y ∷ []) P P (λ points all. yields_turn units points all) (All-cons IsSmall (corner x y) [] (a, b) (All-nil IsSmall))))

cut_small : (w : Place) (points : List Point) (rects : List Sides) → All IsSmall points → polygons.cut_up w points ≡ Ok rects → All (AreSidesWithin (2 ^ 30)) rects
cut_small w points rects all h =
    let a = passed_so (is_rectilinear_of points) _ (Ok (slabs_of points)) rects h in
    subst (All (AreSidesWithin (2 ^ 30))) (ok_is {N = LefError} (slabs_of points) rects a.1) (slabs_within (2 ^ 30) points all)

pub yields_polygon : (in_macro : Bool) (units : ℕ) (w : Place) → Yields (polygons.polygon in_macro units w) (All (AreSidesWithin (2 ^ 30)))
unfolding polygons.polygon
yields_polygon in_macro units w =
    let P = All (AreSidesWithin (2 ^ 30)) in
    yields_bind (polygons.polygon_points in_macro units) _ (All IsSmall) P (yields_points in_macro units) (λ points all. yields_check _ P (λ rects h. cut_small w points rects all h))

-- shapes that are added one by one
pub shapes_all : (P : LayerNo × Sides → Type 0) (shapes : List (LayerNo × Sides)) (layer : Option LayerNo) (added : List Sides) → All P shapes → All (λ s. (known : List (LayerNo × Sides)) → All P known → All P (with_shape known layer s)) added → All P (with_shapes shapes layer added)
shapes_all P shapes layer [] all each = all
shapes_all P shapes layer (s ∷ added) all each =
    let Q : Sides → Type 0 = λ s. (known : List (LayerNo × Sides)) → All P known → All P (with_shape known layer s) in
    shapes_all P (with_shape shapes layer s) layer added (All-head Q s added each shapes all) (All-tail Q s added each)

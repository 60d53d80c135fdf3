-- What holds of macros.
use Rattle.std.proofs.Common.{◌≡◌, ◌≢◌, ℕ, ◌^◌, ◌||◌, true, List, [], ◌∷◌, ◌++◌, length, Ok, Option, Some, None, refl, sym, ◌∙◌, ap, subst, arith, bytes_eq, codes, slice_get}
use Rattle.std.specs.Prelude.{All, IfSome}
use Rattle.std.proofs.lemmas.Int.{ints}
use Rattle.std.proofs.lemmas.List.{map-append}
use Rattle.std.proofs.lemmas.List.Elements.{All-push, All-nil, All-map, All-weaker}
use Rattle.rt_base.specs.declared.tech.LayerNo.{LayerNo}
use Rattle.rt_base.specs.declared.geometry.Point.{Point}
use Rattle.rt_base.specs.Sides.{Sides}
use Rattle.rt_base.specs.Geometry.{moved}
use Rattle.rt_base.specs.Ranges.{IsWithin, IsPointWithin, AreSidesWithin}
use Rattle.rt_forms.specs.Lexeme.{Place}
use Rattle.rt_forms.specs.Form.{next, one, loop, Turn, More, Done}
use Rattle.rt_forms.specs.Reading.{is_name_word, semicolon, rest, the_word, up_to_word, up_to_pair}
use Rattle.lef_text.specs.declared.error.LefError.{LefError}
use Rattle.lef_text.specs.declared.lef.Macro.{Macro}
use Rattle.lef_text.specs.declared.library.Library.{Library}
use Rattle.lef_text.specs.declared.shape_words.ShapeLine.{ShapeLine}
use Rattle.lef_text.specs.declared.shape_words.ShapeLine.TheVariants as shape_lines
use Rattle.lef_text.specs.declared.macro_words.MacroLine.{MacroLine}
use Rattle.lef_text.specs.declared.macro_words.MacroLine.TheVariants as macro_lines
use Rattle.lef_text.specs.IsLef.{IsPin, IsOn}
use Rattle.lef_text.specs.Words.{shape_line_of, macro_line_of}
use Rattle.lef_text.specs.Numbers.{number, rectangle}
use Rattle.lef_text.specs.Polygons.{polygon}
use Rattle.lef_text.specs.Layers.{new_name}
use Rattle.lef_text.specs.Vias as vias
use Rattle.lef_text.specs.OnLayers.{with_shape}
use Rattle.lef_text.specs.Shapes as shapes
use Rattle.lef_text.specs.Shapes.{Shapes, shapes_of, Drawn, drawn}
use Rattle.lef_text.specs.Macros as macros
use Rattle.lef_text.specs.Macros.{Cell, cell_of, IsNearShape, AreNear}
use Rattle.lef_text.proofs.Yields.{Yields, yields_bind, yields_then, yields_done, yields_refused, yields_one, yields_choose, OfTurn, yields_loop}
use Rattle.lef_text.proofs.Small.{passed_so, ok_is}
use Rattle.lef_text.proofs.Sound.{IsSound, IsMacroRead, IsNumber, SoundTurn, new_name_is, distinct_push}
use Rattle.lef_text.proofs.Rectangles.{yields_number, yields_rectangle, yields_polygon, shapes_all, slice_get_all}

-- the text before, but for its counts
abbrev pub Same : Library → Library → Type 0
Same lib0 lib = lib ≡ record lib0 { skipped = lib.skipped }

abbrev layers_of : Library → ℕ
layers_of lib = length lib.layers

-- it holds of each layer that is named, and of each rectangle that is added
pub record Adds (lib : Library) (N : Option LayerNo → Type 0) (R : LayerNo × Sides → Type 0) : Type 0 where
  pub numbers : All N lib.numbers
  pub added : (rects : List (LayerNo × Sides)) (l : Option LayerNo) (r : Sides) → All R rects → N l → AreSidesWithin (2 ^ 30) r → All R (with_shape rects l r)

-- ---- shapes

record AreShapes (lib0 : Library) (N : Option LayerNo → Type 0) (R : LayerNo × Sides → Type 0) (s : Shapes) : Type 0 where
  same : Same lib0 s.lib
  layer : IfSome s.layer N
  shapes : All R s.shapes

abbrev ShapesTurn : Library → (Option LayerNo → Type 0) → (LayerNo × Sides → Type 0) → Turn Shapes → Type 0
ShapesTurn lib0 N R t = OfTurn (AreShapes lib0 N R) (AreShapes lib0 N R) t

at_place_is : (N : Option LayerNo → Type 0) (p : Place) (k : ℕ) (o : Option (Option LayerNo)) (r : ℕ × Option LayerNo) → IfSome o N → shapes.at_place p k o ≡ Ok r → N r.1
at_place_is N p k None r h e = absurd cc
at_place_is N p k (Some n) r h e = subst (λ (x : ℕ × Option LayerNo). N x.1) (ok_is {N = LefError} (k, n) r e) h

found_is : (N : Option LayerNo → Type 0) (lib : Library) (p : Place) (o : Option ℕ) (r : ℕ × Option LayerNo) → All N lib.numbers → shapes.found_place lib p o ≡ Ok r → N r.1
found_is N lib p None r all e = absurd cc
found_is N lib p (Some k) r all e = at_place_is N p k (slice_get lib.numbers k) r (some_all (slice_get lib.numbers k) refl) e
  where
    some_all : (o : Option (Option LayerNo)) → slice_get lib.numbers k ≡ o → IfSome o N
    some_all None q = tt
    some_all (Some n) q = slice_get_all N lib.numbers k n all q

place_is : (N : Option LayerNo → Type 0) (lib : Library) (p : Place) (r : ℕ × Option LayerNo) → All N lib.numbers → shapes.layer_place lib p ≡ Ok r → N r.1
place_is N lib p r all e = found_is N lib p _ r all (passed_so (is_name_word p.word) _ _ r e).1

counted_same : (lib0 lib : Library) (k : ℕ) → Same lib0 lib → Same lib0 (shapes.with_count lib k)
counted_same lib0 lib k e = ap (λ (l : Library). record l { skipped = shapes.counted_at k lib.skipped }) e

yields_rest : (units : ℕ) (lib0 lib : Library) (k : ℕ) → Same lib0 lib → Yields (shapes.layer_rest units lib k) (Same lib0)
unfolding shapes.layer_rest
yields_rest units lib0 lib k e =
    let P = Same lib0 in
    yields_then next _ P (λ w. yields_choose (bytes_eq w.word (codes "SPACING") || bytes_eq w.word (codes "DESIGNRULEWIDTH")) _ _ P
    (yields_then (number units) _ P (λ n. yields_then semicolon _ P (λ u. yields_done (shapes.with_count lib k) P (counted_same lib0 lib k e))))
    (yields_choose (bytes_eq w.word (codes ";")) _ _ P (yields_done lib P e) (yields_refused _ P)))

same_numbers : (N : Option LayerNo → Type 0) (lib0 lib : Library) → Same lib0 lib → All N lib0.numbers → All N lib.numbers
same_numbers N lib0 lib e all = subst (λ (l : Library). All N l.numbers) (sym e) all

yields_rect : (units : ℕ) (lib0 : Library) (N : Option LayerNo → Type 0) (R : LayerNo × Sides → Type 0) (s : Shapes) (w : Place) (l : Option (Option LayerNo)) → Adds lib0 N R → AreShapes lib0 N R s → IfSome l N → Yields (shapes.rect_line units s w l) (ShapesTurn lib0 N R)
yields_rect units lib0 N R s w None a h n = yields_refused _ (ShapesTurn lib0 N R)
yields_rect units lib0 N R s w (Some l) a h n =
    yields_bind (rectangle true units) _ (AreSidesWithin (2 ^ 30)) (ShapesTurn lib0 N R) (yields_rectangle true units)
    (λ r small. yields_done _ (ShapesTurn lib0 N R) (record { same = h.same; layer = h.layer; shapes = a.added s.shapes l r h.shapes n small }))

yields_polygon_line : (units : ℕ) (lib0 : Library) (N : Option LayerNo → Type 0) (R : LayerNo × Sides → Type 0) (s : Shapes) (w : Place) (l : Option (Option LayerNo)) → Adds lib0 N R → AreShapes lib0 N R s → IfSome l N → Yields (shapes.polygon_line units s w l) (ShapesTurn lib0 N R)
yields_polygon_line units lib0 N R s w None a h n = yields_refused _ (ShapesTurn lib0 N R)
yields_polygon_line units lib0 N R s w (Some l) a h n =
    yields_bind (polygon true units w) _ (All (AreSidesWithin (2 ^ 30))) (ShapesTurn lib0 N R) (yields_polygon true units w)
    (λ rects small. yields_done _ (ShapesTurn lib0 N R) (record { same = h.same; layer = h.layer; shapes = shapes_all R s.shapes l rects h.shapes (λ k d e known q. a.added known l _ q n (small k d e)) }))

yields_words : (N : Option LayerNo → Type 0) (lib : Library) → All N lib.numbers → Yields (shapes.layer_words lib) (λ (r : ℕ × Option LayerNo). N r.1)
unfolding shapes.layer_words
yields_words N lib all =
    let P : ℕ × Option LayerNo → Type 0 = λ r. N r.1 in
    yields_bind (one (shapes.layer_place lib)) _ P P (yields_one _ _ (λ p r e. place_is N lib p r all e)) (λ r n. yields_then (vias.optional (codes "EXCEPTPGNET")) _ P (λ u. yields_done r P n))

yields_shape_by : (units : ℕ) (lib0 : Library) (N : Option LayerNo → Type 0) (R : LayerNo × Sides → Type 0) (s : Shapes) (w : Place) (k : ShapeLine) → Adds lib0 N R → AreShapes lib0 N R s → Yields (shapes.line_by units s w k) (ShapesTurn lib0 N R)
yields_shape_by units lib0 N R s w shape_lines.Unused a h = yields_then rest _ (ShapesTurn lib0 N R) (λ u. yields_done (More s) (ShapesTurn lib0 N R) h)
yields_shape_by units lib0 N R s w shape_lines.Layer a h =
    let P = ShapesTurn lib0 N R in
    yields_bind (shapes.layer_words s.lib) _ (λ (r : ℕ × Option LayerNo). N r.1) P (yields_words N s.lib (same_numbers N lib0 s.lib h.same a.numbers))
    (λ r n. yields_bind (shapes.layer_rest units s.lib r.0) _ (Same lib0) P (yields_rest units lib0 s.lib r.0 h.same)
    (λ lib e. yields_done _ P (record { same = e; layer = n; shapes = h.shapes })))
yields_shape_by units lib0 N R s w shape_lines.Width a h = yields_then (number units) _ (ShapesTurn lib0 N R) (λ n. yields_then semicolon _ (ShapesTurn lib0 N R) (λ u. yields_done (More s) (ShapesTurn lib0 N R) h))
yields_shape_by units lib0 N R s w shape_lines.Rect a h = yields_rect units lib0 N R s w s.layer a h h.layer
yields_shape_by units lib0 N R s w shape_lines.Polygon a h = yields_polygon_line units lib0 N R s w s.layer a h h.layer
yields_shape_by units lib0 N R s w shape_lines.Refused a h = yields_refused _ (ShapesTurn lib0 N R)
yields_shape_by units lib0 N R s w shape_lines.End a h = yields_done (Done s) (ShapesTurn lib0 N R) h
yields_shape_by units lib0 N R s w shape_lines.Unknown a h = yields_refused _ (ShapesTurn lib0 N R)

record IsDrawn (lib0 : Library) (R : LayerNo × Sides → Type 0) (s : Drawn) : Type 0 where
  same : Same lib0 s.lib
  shapes : All R s.shapes

yields_more : (units : ℕ) (lib0 : Library) (N : Option LayerNo → Type 0) (R : LayerNo × Sides → Type 0) (lib : Library) (rects : List (LayerNo × Sides)) → Adds lib0 N R → Same lib0 lib → All R rects → Yields (shapes.more_shapes units lib rects) (IsDrawn lib0 R)
unfolding shapes.more_shapes shapes.shape_line
yields_more units lib0 N R lib rects a e h =
    yields_bind (loop (shapes.shape_line units) (shapes_of lib None rects)) _ (AreShapes lib0 N R) (IsDrawn lib0 R)
    (yields_loop (shapes.shape_line units) (shapes_of lib None rects) (AreShapes lib0 N R) (AreShapes lib0 N R)
    (λ s q. yields_then next _ (ShapesTurn lib0 N R) (λ w. yields_shape_by units lib0 N R s w (shape_line_of w.word) a q))
    (record { same = e; layer = tt; shapes = h }))
    (λ t q. yields_done (drawn t.lib t.shapes) (IsDrawn lib0 R) (record { same = q.same; shapes = q.shapes }))

-- ---- pins

abbrev DrawnTurn : Library → (LayerNo × Sides → Type 0) → Turn Drawn → Type 0
DrawnTurn lib0 R t = OfTurn (IsDrawn lib0 R) (IsDrawn lib0 R) t

yields_pin_line : (units : ℕ) (name : List ℕ) (lib0 : Library) (N : Option LayerNo → Type 0) (R : LayerNo × Sides → Type 0) (s : Drawn) → Adds lib0 N R → IsDrawn lib0 R s → Yields (macros.pin_line units name s) (DrawnTurn lib0 R)
unfolding macros.pin_line
yields_pin_line units name lib0 N R s a h =
    let P = DrawnTurn lib0 R in
    yields_then next _ P (λ w. yields_choose (bytes_eq w.word (codes "PORT")) _ _ P
    (yields_bind (shapes.more_shapes units s.lib s.shapes) _ (IsDrawn lib0 R) P (yields_more units lib0 N R s.lib s.shapes a h.same h.shapes) (λ t q. yields_done _ P (record { same = q.same; shapes = q.shapes })))
    (yields_choose (bytes_eq w.word (codes "END")) _ _ P
    (yields_then (the_word name) _ P (λ u. yields_done (Done s) P h))
    (yields_choose (is_name_word w.word) _ _ P
    (yields_then rest _ P (λ u. yields_done (More s) P h))
    (yields_refused _ P))))

-- a pin before the macro is moved
abbrev pub IsPinRead : (LayerNo × Sides → Type 0) → List ℕ × List (LayerNo × Sides) → Type 0
IsPinRead R p = (is_name_word p.0 ≡ true) × All R p.1

pub record IsCell (lib0 : Library) (R : LayerNo × Sides → Type 0) (s : Cell) : Type 0 where
  pub same : Same lib0 s.lib
  pub size : IsPointWithin (2 ^ 30) s.lines.size
  pub origin : IsPointWithin (2 ^ 30) s.lines.origin
  pub pins : All (IsPinRead R) s.lines.pins
  pub obs : All R s.lines.obs

abbrev CellTurn : Library → (LayerNo × Sides → Type 0) → Turn Cell → Type 0
CellTurn lib0 R t = OfTurn (IsCell lib0 R) (IsCell lib0 R) t

yields_pin : (units : ℕ) (lib0 : Library) (N : Option LayerNo → Type 0) (R : LayerNo × Sides → Type 0) (s : Cell) → Adds lib0 N R → IsCell lib0 R s → Yields (macros.pin units s) (CellTurn lib0 R)
unfolding macros.pin
yields_pin units lib0 N R s a h =
    let P = CellTurn lib0 R in
    yields_bind (one (new_name s.lines.pin_names)) _ (λ (p : Place). (is_name_word p.word ≡ true) × All (λ n. n ≢ p.word) s.lines.pin_names) P
    (yields_one _ _ (λ p q e. new_name_is s.lines.pin_names p q e))
    (λ p q. yields_bind (loop (macros.pin_line units p.word) (drawn s.lib [])) _ (IsDrawn lib0 R) P
    (yields_loop (macros.pin_line units p.word) (drawn s.lib []) (IsDrawn lib0 R) (IsDrawn lib0 R) (λ t d. yields_pin_line units p.word lib0 N R t a d) (record { same = h.same; shapes = All-nil _ }))
    (λ t d. yields_done _ P (record { same = d.same; size = h.size; origin = h.origin; pins = All-push (IsPinRead R) s.lines.pins (p.word, t.shapes) h.pins (q.0, d.shapes); obs = h.obs })))

-- ---- lines of a macro

yields_size : (units : ℕ) → Yields (macros.size units) (IsPointWithin (2 ^ 30))
unfolding macros.size
yields_size units =
    let S = IsWithin (2 ^ 30) in
    let P = IsPointWithin (2 ^ 30) in
    yields_bind (number units) _ S P (yields_number units) (λ w a. yields_then (the_word (codes "BY")) _ P (λ u. yields_bind (number units) _ S P (yields_number units) (λ h b. yields_then semicolon _ P (λ v. yields_done (record { x = w; y = h }) P (a, b)))))

yields_origin : (units : ℕ) → Yields (macros.origin units) (IsPointWithin (2 ^ 30))
unfolding macros.origin
yields_origin units =
    let S = IsWithin (2 ^ 30) in
    let P = IsPointWithin (2 ^ 30) in
    yields_bind (number units) _ S P (yields_number units) (λ w a. yields_bind (number units) _ S P (yields_number units) (λ h b. yields_then semicolon _ P (λ v. yields_done (record { x = w; y = h }) P (a, b))))

yields_macro_by : (units : ℕ) (name : List ℕ) (lib0 : Library) (N : Option LayerNo → Type 0) (R : LayerNo × Sides → Type 0) (s : Cell) (w : Place) (k : MacroLine) → Adds lib0 N R → IsCell lib0 R s → Yields (macros.line_by units name s w k) (CellTurn lib0 R)
yields_macro_by units name lib0 N R s w macro_lines.Size a h = yields_bind (macros.size units) _ (IsPointWithin (2 ^ 30)) (CellTurn lib0 R) (yields_size units) (λ z q. yields_done _ (CellTurn lib0 R) (record { same = h.same; size = q; origin = h.origin; pins = h.pins; obs = h.obs }))
yields_macro_by units name lib0 N R s w macro_lines.Origin a h = yields_bind (macros.origin units) _ (IsPointWithin (2 ^ 30)) (CellTurn lib0 R) (yields_origin units) (λ z q. yields_done _ (CellTurn lib0 R) (record { same = h.same; size = h.size; origin = q; pins = h.pins; obs = h.obs }))
yields_macro_by units name lib0 N R s w macro_lines.Pin a h = yields_pin units lib0 N R s a h
yields_macro_by units name lib0 N R s w macro_lines.Obs a h = yields_bind (shapes.more_shapes units s.lib s.lines.obs) _ (IsDrawn lib0 R) (CellTurn lib0 R) (yields_more units lib0 N R s.lib s.lines.obs a h.same h.obs) (λ t q. yields_done _ (CellTurn lib0 R) (record { same = q.same; size = h.size; origin = h.origin; pins = h.pins; obs = q.shapes }))
yields_macro_by units name lib0 N R s w macro_lines.Density a h = yields_then (up_to_word (codes "END")) _ (CellTurn lib0 R) (λ u. yields_done (More s) (CellTurn lib0 R) h)
yields_macro_by units name lib0 N R s w macro_lines.Timing a h = yields_then (up_to_pair (codes "END") (codes "TIMING")) _ (CellTurn lib0 R) (λ u. yields_done (More s) (CellTurn lib0 R) h)
yields_macro_by units name lib0 N R s w macro_lines.Unused a h = yields_then rest _ (CellTurn lib0 R) (λ u. yields_done (More s) (CellTurn lib0 R) h)
yields_macro_by units name lib0 N R s w macro_lines.End a h = yields_then (the_word name) _ (CellTurn lib0 R) (λ u. yields_done (Done s) (CellTurn lib0 R) h)
yields_macro_by units name lib0 N R s w macro_lines.Unknown a h = yields_refused _ (CellTurn lib0 R)

pub yields_macro_lines : (units : ℕ) (name : List ℕ) (lib0 : Library) (N : Option LayerNo → Type 0) (R : LayerNo × Sides → Type 0) → Adds lib0 N R → Yields (loop (macros.macro_line units name) (cell_of lib0 macros.no_macro_lines)) (IsCell lib0 R)
unfolding macros.macro_line
yields_macro_lines units name lib0 N R a =
    yields_loop (macros.macro_line units name) (cell_of lib0 macros.no_macro_lines) (IsCell lib0 R) (IsCell lib0 R)
    (λ s q. yields_then next _ (CellTurn lib0 R) (λ w. yields_macro_by units name lib0 N R s w (macro_line_of w.word) a q))
    (record { same = refl; size = (omega arith, omega arith); origin = (omega arith, omega arith); pins = All-nil _; obs = All-nil _ })

-- nothing is asked of layers
abbrev pub AnyLayer : Option LayerNo → Type 0
AnyLayer l = Unit {0}

adds_near : (lib : Library) → Adds lib AnyLayer IsNearShape
adds_near lib = record {
  numbers = λ k d lt. tt;
  added = λ rects l r all n small. more rects l r all small;
}
  where
    more : (rects : List (LayerNo × Sides)) (l : Option LayerNo) (r : Sides) → All IsNearShape rects → AreSidesWithin (2 ^ 30) r → All IsNearShape (with_shape rects l r)
    more rects None r all small = all
    more rects (Some k) r all small = All-push IsNearShape rects (k, r) all small

-- the lines of a macro, whatever was read before
pub near_lines : (units : ℕ) (name : List ℕ) (lib0 : Library) → Yields (loop (macros.macro_line units name) (cell_of lib0 macros.no_macro_lines)) (IsCell lib0 IsNearShape)
near_lines units name lib0 = yields_macro_lines units name lib0 AnyLayer IsNearShape (adds_near lib0)

-- what is read of a macro can be moved
pub cell_near : (lib0 : Library) (s : Cell) → IsCell lib0 IsNearShape s → AreNear s.lines
cell_near lib0 s h = record {
  origin = h.origin;
  pins = All-weaker (IsPinRead IsNearShape) (λ (p : List ℕ × List (LayerNo × Sides)). All IsNearShape p.1) (λ p q. q.1) s.lines.pins h.pins;
  obs = h.obs;
}

-- ---- the statement

moved_on : (layers : ℕ) (by : Point) (s : LayerNo × Sides) → IsPointWithin (2 ^ 30) by → IsOn layers (2 ^ 30) s → IsOn layers (2 ^ 31) (s.0, moved by s.1)
moved_on layers by s p h = (h.0, (omega (arith, ints, p.0, h.1.0), omega (arith, ints, p.1, h.1.1), omega (arith, ints, p.0, h.1.2), omega (arith, ints, p.1, h.1.3)))

moved_shapes_on : (layers : ℕ) (by : Point) (shapes : List (LayerNo × Sides)) → IsPointWithin (2 ^ 30) by → All (IsOn layers (2 ^ 30)) shapes → All (IsOn layers (2 ^ 31)) (macros.moved_shapes by shapes)
moved_shapes_on layers by shapes p h = All-map (IsOn layers (2 ^ 31)) (macros.moved_shape by) shapes (All-weaker (IsOn layers (2 ^ 30)) (λ (s : LayerNo × Sides). IsOn layers (2 ^ 31) (s.0, moved by s.1)) (λ s q. moved_on layers by s p q) shapes h)

moved_pins_on : (layers : ℕ) (by : Point) (pins : List (List ℕ × List (LayerNo × Sides))) → IsPointWithin (2 ^ 30) by → All (IsPinRead (IsOn layers (2 ^ 30))) pins → All (IsPin layers) (macros.moved_pins by pins)
moved_pins_on layers by pins p h = All-map (IsPin layers) (macros.moved_pin by) pins (All-weaker (IsPinRead (IsOn layers (2 ^ 30))) (λ (q : List ℕ × List (LayerNo × Sides)). IsPin layers (q.0, macros.moved_shapes by q.1)) (λ q d. (d.0, moved_shapes_on layers by q.1 p d.1)) pins h)

abbrev name_of : Macro → List ℕ
name_of m = m.name

macro_sound : (lib : Library) (name : List ℕ) (skipped : List (List ℕ × ℕ)) (m : Macro) → IsSound lib → All (λ n. n ≢ name) lib.macro_names → m.name ≡ name → IsMacroRead (layers_of lib) m → IsSound (macros.with_macro (record (macros.with_macro_name lib name) { skipped = skipped }) m)
macro_sound lib name skipped m h new e q = record {
  layers = h.layers;
  alternate = h.alternate;
  top = h.top;
  numbers = h.numbers;
  vias = h.vias;
  macros = All-push (IsMacroRead (layers_of lib)) lib.macros m h.macros q;
  layer_names = h.layer_names;
  among = h.among;
  layers_apart = h.layers_apart;
  via_names = h.via_names;
  vias_named = h.vias_named;
  macro_names = distinct_push lib.macro_names name h.macro_names new;
  macros_named = map-append name_of lib.macros (m ∷ []) ∙ ap (λ (ns : List (List ℕ)). ns ++ m.name ∷ []) h.macros_named ∙ ap (λ (n : List ℕ). lib.macro_names ++ n ∷ []) e;
}

adds_numbered : (lib : Library) → All (IsNumber (layers_of lib)) lib.numbers → Adds lib (IsNumber (layers_of lib)) (IsOn (layers_of lib) (2 ^ 30))
adds_numbered lib all = record { numbers = all; added = λ rects l r known n small. more rects l r known n small }
  where
    more : (rects : List (LayerNo × Sides)) (l : Option LayerNo) (r : Sides) → All (IsOn (layers_of lib) (2 ^ 30)) rects → IsNumber (layers_of lib) l → AreSidesWithin (2 ^ 30) r → All (IsOn (layers_of lib) (2 ^ 30)) (with_shape rects l r)
    more rects None r known n small = known
    more rects (Some k) r known n small = All-push (IsOn (layers_of lib) (2 ^ 30)) rects (k, r) known (n, small)

yields_body : (units : ℕ) (lib : Library) (name : List ℕ) → IsSound lib → is_name_word name ≡ true → All (λ n. n ≢ name) lib.macro_names → Yields (macros.macro_body units (macros.with_macro_name lib name) name) SoundTurn
unfolding macros.macro_body
yields_body units lib name h word new =
    let lib0 = macros.with_macro_name lib name in
    let R = IsOn (layers_of lib) (2 ^ 30) in
    yields_bind (loop (macros.macro_line units name) (cell_of lib0 macros.no_macro_lines)) _ (IsCell lib0 R) SoundTurn
    (yields_macro_lines units name lib0 (IsNumber (layers_of lib)) R (adds_numbered lib0 h.numbers))
    (λ s q.
    let m : Macro = macros.macro_of name s.lines in
    let r : IsMacroRead (layers_of lib) m = record { name = word; w = q.size.0; h = q.size.1; pins = moved_pins_on (layers_of lib) s.lines.origin s.lines.pins q.origin q.pins; obs = moved_shapes_on (layers_of lib) s.lines.origin s.lines.obs q.origin q.obs } in
    yields_done _ SoundTurn (subst (λ (l : Library). IsSound (macros.with_macro l m)) (sym q.same) (macro_sound lib name s.lib.skipped m h new refl r)))

pub yields_macro : (units : ℕ) (lib : Library) → IsSound lib → Yields (macros.macro_statement units lib) SoundTurn
unfolding macros.macro_statement
yields_macro units lib h =
    yields_bind (one (new_name lib.macro_names)) _ (λ (p : Place). (is_name_word p.word ≡ true) × All (λ n. n ≢ p.word) lib.macro_names) SoundTurn
    (yields_one _ _ (λ p q e. new_name_is lib.macro_names p q e))
    (λ p q. yields_body units lib p.word h q.0 q.1)

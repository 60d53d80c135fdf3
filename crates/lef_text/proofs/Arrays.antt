-- What holds of generated vias.
use Rattle.std.proofs.Common.{ℕ, zero, suc, ◌+◌, ◌-◌, ◌*◌, ◌^◌, ◌<◌, ◌≤◌, ◌==◌, Bool, true, false, if◌then◌else◌, List, [], ◌∷◌, fold, Option, Some, None, ℤ, pos, unsigned_abs, refl, arith}
use Rattle.std.specs.Prelude.{All, IfSome, unwrap_or}
use Rattle.std.specs.List.{range_with_len, flat_map}
use Rattle.std.proofs.lemmas.Int.{ints}
use Rattle.std.proofs.lemmas.Nat.{mul-le}
use Rattle.std.proofs.lemmas.List.Elements.{All-nil, All-cons, All-head, All-tail, All-append, All-map, All-weaker, All-push}
use Rattle.rt_base.specs.declared.tech.LayerNo.{LayerNo}
use Rattle.rt_base.specs.Sides.{Sides}
use Rattle.rt_base.specs.Ranges.{IsWithin, AreSidesWithin}
use Rattle.rt_base.proofs.Ranges.{within_from_sides}
use Rattle.rt_shapes.specs.declared.cut_array.Generated.{Generated}
use Rattle.rt_shapes.specs.GeneratedVias.{IsFrom, IsForm, extent, low_end, high_end, range_of, enclosing, place_of, cut_range_of, cut_of, row_of, cuts_of, generated_of, width_of, height_of}
use Rattle.rt_shapes.proofs.CutLemmas.{low_end_sides, high_end_sides, cut_ends, grown_within, shrunk_within, place_within}
use Rattle.lef_text.specs.declared.library.FormLines.{FormLines}
use Rattle.lef_text.specs.IsLef.{IsOn}
use Rattle.lef_text.specs.OnLayers.{with_shape}
use Rattle.lef_text.specs.GeneratedVias.{Layers, form_by, form_of, layer_of_part, rects_by, rects_at_end}

abbrev pub most : ℕ
most = 2 ^ 60 + 2 ^ 30

-- ---- ranges

extent_most : (count size gap : ℤ) → IsFrom (pos 1) count → IsFrom (pos 1) size → IsFrom (pos 0) gap → extent count size gap ≤ 2 ^ 61
extent_most count size gap c s g =
    let cuts : unsigned_abs count * unsigned_abs size ≤ 2 ^ 30 * 2 ^ 30 = mul-le (unsigned_abs count) (unsigned_abs size) (2 ^ 30) (2 ^ 30) (omega (arith, ints)) (omega (arith, ints)) in
    let gaps : (unsigned_abs count - 1) * unsigned_abs gap ≤ 2 ^ 30 * 2 ^ 30 = mul-le (unsigned_abs count - 1) (unsigned_abs gap) (2 ^ 30) (2 ^ 30) (omega (arith, ints)) (omega (arith, ints)) in
    omega arith

round_within : (w : ℕ) (by : ℤ) → w ≤ 2 ^ 61 → IsFrom (pos 0) by → IsWithin most (range_of w by).lo × IsWithin most (range_of w by).hi
round_within w by h b =
    let low = low_end_sides w h in
    let high = high_end_sides w h in
    let l : IsWithin (2 ^ 60) (low_end w) = within_from_sides (2 ^ 60) (low_end w) (omega (arith, ints)) low.1 in
    let u : IsWithin (2 ^ 60) (high_end w) = within_from_sides (2 ^ 60) (high_end w) high.0 (omega (arith, ints)) in
    (shrunk_within (low_end w) by l b.0 b.1, grown_within (high_end w) by u b.0 b.1)

enclosing_within : (form : Generated) (dx dy : ℤ) → IsForm form → IsFrom (pos 0) dx → IsFrom (pos 0) dy → AreSidesWithin most (enclosing form dx dy)
enclosing_within form dx dy f x y =
    let h = round_within (width_of form) dx (extent_most form.columns form.cut.0 form.spacing.0 f.columns f.cut_x f.spacing_x) x in
    let v = round_within (height_of form) dy (extent_most form.rows form.cut.1 form.spacing.1 f.rows f.cut_y f.spacing_y) y in
    (h.0, v.0, h.1, v.1)

cut_range_within : (count size gap : ℤ) (k : ℕ) → IsFrom (pos 1) count → IsFrom (pos 1) size → IsFrom (pos 0) gap → k < unsigned_abs count → IsWithin most (cut_range_of (extent count size gap) k size gap).lo × IsWithin most (cut_range_of (extent count size gap) k size gap).hi
cut_range_within count size gap k c s g lt =
    let w = extent count size gap in
    let far = k * (unsigned_abs size + unsigned_abs gap) in
    let ends : far + unsigned_abs size ≤ w = cut_ends (unsigned_abs count) k (unsigned_abs size) (unsigned_abs gap) lt in
    let lo : IsWithin (2 ^ 60) (place_of w k size gap) = place_within w far (unsigned_abs size) (low_end w) (extent_most count size gap c s g) refl ends in
    (omega (arith, lo), grown_within (place_of w k size gap) size lo (omega (arith, ints, s.0)) s.1)

cut_within : (form : Generated) (row column : ℕ) → IsForm form → row < unsigned_abs form.rows → column < unsigned_abs form.columns → AreSidesWithin most (cut_of form row column)
cut_within form row column f r c =
    let h = cut_range_within form.columns form.cut.0 form.spacing.0 column f.columns f.cut_x f.spacing_x c in
    let v = cut_range_within form.rows form.cut.1 form.spacing.1 row f.rows f.cut_y f.spacing_y r in
    (h.0, v.0, h.1, v.1)

-- ---- all rectangles of a form

abbrev IsNear : LayerNo × Sides → Type 0
IsNear r = AreSidesWithin most r.1

below_len : (a n m : ℕ) → a + n ≤ m → All (λ (k : ℕ). k < m) (range_with_len a n)
below_len a zero m h = All-nil _
below_len a (suc n) m h = All-cons (λ (k : ℕ). k < m) a (range_with_len (a + 1) n) (omega arith) (below_len (a + 1) n m (omega arith))

flat_map_all : {X Y : Type 0} (P : Y → Type 0) (f : X → List Y) (xs : List X) → All (λ x. All P (f x)) xs → All P (flat_map f xs)
flat_map_all P f [] h = All-nil P
flat_map_all {X} P f (x ∷ xs) h =
    let Q : X → Type 0 = λ x. All P (f x) in
    All-append P (f x) (flat_map f xs) (All-head Q x xs h) (flat_map_all P f xs (All-tail Q x xs h))

row_within : (form : Generated) (row : ℕ) → IsForm form → row < unsigned_abs form.rows → All IsNear (row_of form row)
row_within form row f r =
    All-map IsNear (λ (column : ℕ). (form.layers.1, cut_of form row column)) (range_with_len 0 (unsigned_abs form.columns))
    (All-weaker (λ (k : ℕ). k < unsigned_abs form.columns) (λ (k : ℕ). AreSidesWithin most (cut_of form row k)) (λ k c. cut_within form row k f r c) (range_with_len 0 (unsigned_abs form.columns)) (below_len 0 (unsigned_abs form.columns) (unsigned_abs form.columns) (omega arith)))

cuts_within : (form : Generated) → IsForm form → All IsNear (cuts_of form)
cuts_within form f =
    flat_map_all IsNear (row_of form) (range_with_len 0 (unsigned_abs form.rows))
    (All-weaker (λ (k : ℕ). k < unsigned_abs form.rows) (λ (k : ℕ). All IsNear (row_of form k)) (λ k r. row_within form k f r) (range_with_len 0 (unsigned_abs form.rows)) (below_len 0 (unsigned_abs form.rows) (unsigned_abs form.rows) (omega arith)))

generated_within : (form : Generated) → IsForm form → All IsNear (generated_of form)
generated_within form f =
    let bottom : LayerNo × Sides = (form.layers.0, enclosing form form.enclosure.0 form.enclosure.1) in
    let top : LayerNo × Sides = (form.layers.2, enclosing form form.enclosure.2 form.enclosure.3) in
    All-cons IsNear bottom (top ∷ cuts_of form) (enclosing_within form form.enclosure.0 form.enclosure.1 f f.bottom_x f.bottom_y)
    (All-cons IsNear top (cuts_of form) (enclosing_within form form.enclosure.2 form.enclosure.3 f f.top_x f.top_y) (cuts_within form f))

-- ---- the lines of a form

abbrev pub IsPair : ℤ → ℤ × ℤ → Type 0
IsPair least p = IsFrom least p.0 × IsFrom least p.1

abbrev pub IsEnclosure : ℤ × ℤ × ℤ × ℤ → Type 0
IsEnclosure e = IsFrom (pos 0) e.0 × IsFrom (pos 0) e.1 × IsFrom (pos 0) e.2 × IsFrom (pos 0) e.3

abbrev pub IsArray : ℕ × ℕ → Type 0
IsArray a = IsFrom (pos 1) (pos a.0) × IsFrom (pos 1) (pos a.1)

abbrev pub AreThree : (Option LayerNo → Type 0) → Layers → Type 0
AreThree N l = N l.0 × N l.1 × N l.2

-- numbers in their ranges, and of the layers this
pub record AreFormLines (N : Option LayerNo → Type 0) (f : FormLines) : Type 0 where
  pub cut : IfSome f.cut (IsPair (pos 1))
  pub layers : IfSome f.layers (AreThree N)
  pub spacing : IfSome f.spacing (IsPair (pos 0))
  pub enclosure : IfSome f.enclosure IsEnclosure
  pub array : IfSome f.array IsArray

abbrev pub IsWholeForm : (Option LayerNo → Type 0) → Generated × Layers → Type 0
IsWholeForm N g = IsForm g.0 × AreThree N g.1

form_by_is : (N : Option LayerNo → Type 0) (rule : Bool) (cut : Option (ℤ × ℤ)) (layers : Option Layers) (spacing : Option (ℤ × ℤ)) (enclosure : Option (ℤ × ℤ × ℤ × ℤ)) (array : ℕ × ℕ) → IfSome cut (IsPair (pos 1)) → IfSome layers (AreThree N) → IfSome spacing (IsPair (pos 0)) → IfSome enclosure IsEnclosure → IsArray array → IfSome (form_by rule cut layers spacing enclosure array) (IsWholeForm N)
form_by_is N false cut layers spacing enclosure array c l s e a = tt
form_by_is N true None layers spacing enclosure array c l s e a = tt
form_by_is N true (Some x) None spacing enclosure array c l s e a = tt
form_by_is N true (Some x) (Some y) None enclosure array c l s e a = tt
form_by_is N true (Some x) (Some y) (Some z) None array c l s e a = tt
form_by_is N true (Some x) (Some y) (Some z) (Some u) array c l s e a =
    (record { cut_x = c.0; cut_y = c.1; spacing_x = s.0; spacing_y = s.1; bottom_x = e.0; bottom_y = e.1; top_x = e.2; top_y = e.3; rows = a.0; columns = a.1 }, l)

array_is : (o : Option (ℕ × ℕ)) → IfSome o IsArray → IsArray (unwrap_or o (1, 1))
array_is None h = ((omega (arith, ints), omega (arith, ints)), (omega (arith, ints), omega (arith, ints)))
array_is (Some a) h = h

pub form_is : (N : Option LayerNo → Type 0) (f : FormLines) → AreFormLines N f → IfSome (form_of f) (IsWholeForm N)
form_is N f h = form_by_is N f.rule f.cut f.layers f.spacing f.enclosure (unwrap_or f.array (1, 1)) h.cut h.layers h.spacing h.enclosure (array_is f.array h.array)

pub is_form : (N : Option LayerNo → Type 0) (o : Option (Generated × Layers)) → IfSome o (IsWholeForm N) → IfSome o (λ g. IsForm g.0)
is_form N None h = tt
is_form N (Some g) h = h.0

-- ---- on their layers

part_is : (N : Option LayerNo → Type 0) (layers : Layers) (part : LayerNo) → AreThree N layers → N (layer_of_part layers part)
part_is N layers part h = by (part.0 == 0) (part.0 == 1)
  where
    by : (a b : Bool) → N (if a then layers.0 else if b then layers.1 else layers.2)
    by true b = h.0
    by false true = h.1
    by false false = h.2

abbrev pub IsKnown : ℕ → Option LayerNo → Type 0
IsKnown layers o = IfSome o (λ n. n.0 < layers)

pub placed : (layers : ℕ) (rects : List (LayerNo × Sides)) (l : Option LayerNo) (r : Sides) → All (IsOn layers most) rects → IsKnown layers l → AreSidesWithin most r → All (IsOn layers most) (with_shape rects l r)
placed layers rects None r all n near = all
placed layers rects (Some k) r all n near = All-push (IsOn layers most) rects (k, r) all (n, near)

all_placed : (n : ℕ) (layers : Layers) (known rects : List (LayerNo × Sides)) → AreThree (IsKnown n) layers → All (IsOn n most) known → All IsNear rects → All (IsOn n most) (fold (λ all (r : LayerNo × Sides). with_shape all (layer_of_part layers r.0) r.1) known rects)
all_placed n layers known [] t all near = all
all_placed n layers known (r ∷ rs) t all near =
    all_placed n layers (with_shape known (layer_of_part layers r.0) r.1) rs t
    (placed n known (layer_of_part layers r.0) r.1 all (part_is (IsKnown n) layers r.0 t) (All-head IsNear r rs near))
    (All-tail IsNear r rs near)

rects_by_is : (n : ℕ) (o : Option (Generated × Layers)) (rects : List (LayerNo × Sides)) → IfSome o (IsWholeForm (IsKnown n)) → All (IsOn n most) rects → All (IsOn n most) (rects_by o rects)
rects_by_is n None rects h all = all
rects_by_is n (Some g) rects h all = all_placed n g.1 [] (generated_of g.0) h.1 (All-nil _) (generated_within g.0 h.0)

pub rects_at_end_is : (n : ℕ) (f : FormLines) (rects : List (LayerNo × Sides)) → AreFormLines (IsKnown n) f → All (IsOn n most) rects → All (IsOn n most) (rects_at_end f rects)
rects_at_end_is n f rects h all = rects_by_is n (form_of f) rects (form_is (IsKnown n) f h) all

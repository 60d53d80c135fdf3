-- What holds of vias, and of the whole text.
use Rattle.std.proofs.Common.{◌≡◌, ◌≢◌, ℕ, ◌+◌, ◌<◌, ◌^◌, ◌&&◌, ◌≤◌, Bool, true, false, not, List, [], ◌∷◌, ◌++◌, length, Result, Ok, Err, Option, Some, None, ℤ, pos, negsuc, ◌≤ℤ◌, nat_le, refl, sym, ◌∙◌, ap, subst, arith, bytes_eq, codes, position}
use Rattle.std.specs.Prelude.{All, IfSome, IfOk}
use Rattle.std.specs.List.{list_any}
use Rattle.std.proofs.lemmas.Bool.Decides.{nat_tests}
use Rattle.std.proofs.lemmas.Int.{ints}
use Rattle.std.proofs.lemmas.List.{map-append}
use Rattle.std.proofs.lemmas.List.Elements.{All-push, All-nil}
use Rattle.rt_base.specs.declared.tech.Via.{Via}
use Rattle.rt_base.specs.declared.tech.LayerNo.{LayerNo}
use Rattle.rt_base.specs.Names.{IsName}
use Rattle.rt_base.specs.Sides.{Sides}
use Rattle.rt_base.specs.Ranges.{IsWithin, AreSidesWithin}
use Rattle.rt_base.proofs.Ranges.{sides_from_within}
use Rattle.rt_base.specs.declared.token.Token.{Token}
use Rattle.rt_base.specs.Scan.{IsCutInto}
use Rattle.rt_forms.specs.Clauses.{IsText}
use Rattle.rt_forms.specs.Lexeme.{Place, Lexeme, End, places, last_line}
use Rattle.rt_forms.specs.Form.{next, one, loop, text, Turn, More, Done}
use Rattle.rt_forms.specs.Reading.{is_name_word, semicolon, rest, the_word, up_to_word, up_to_pair}
use Rattle.lef_text.specs.declared.error.LefError.{LefError}
use Rattle.lef_text.specs.declared.lef.Lef.{Lef}
use Rattle.lef_text.specs.declared.lef.Macro.{Macro}
use Rattle.lef_text.specs.declared.library.Library.{Library}
use Rattle.lef_text.specs.declared.library.ViaLines.{ViaLines}
use Rattle.lef_text.specs.declared.via_words.ViaLine.{ViaLine}
use Rattle.lef_text.specs.declared.via_words.ViaLine.TheVariants as lines
use Rattle.lef_text.specs.declared.statement_words.Statement.{Statement}
use Rattle.lef_text.specs.declared.statement_words.Statement.TheVariants as statements
use Rattle.std.proofs.lemmas.List.Elements.{All-head, All-tail, All-cons}
use Rattle.lef_text.specs.IsLef.{IsLef, IsMacro, IsVia, IsOn, AreDistinct, is_path_word}
use Rattle.lef_text.specs.Words.{via_line_of, statement_of}
use Rattle.lef_text.specs.Numbers.{rectangle, length_at_least, within, count}
use Rattle.lef_text.specs.Polygons.{polygon}
use Rattle.lef_text.specs.Vias as vias
use Rattle.lef_text.specs.GeneratedVias as generated
use Rattle.lef_text.specs.OnLayers.{number_at, known, layer_word, with_shape}
use Rattle.rt_shapes.specs.GeneratedVias.{IsFrom, IsForm}
use Rattle.rt_words.specs.Reading.{integer_of}
use Rattle.rt_words.specs.declared.number.NumberFault.{NumberFault}
use Rattle.lef_text.specs.declared.error.LefError.TheVariants.{Number}
use Rattle.lef_text.specs.declared.library.FormLines.{FormLines}
use Rattle.lef_text.specs.declared.via_words.FormLine.{FormLine}
use Rattle.lef_text.specs.declared.via_words.FormLine.TheVariants as forms
use Rattle.lef_text.proofs.Arrays.{most, IsPair, IsEnclosure, IsArray, AreThree, AreFormLines, form_is, is_form, placed, rects_at_end_is}
use Rattle.lef_text.specs.Lef as lefs
use Rattle.lef_text.proofs.Yields.{Yields, yields_bind, yields_then, yields_done, yields_refused, yields_one, yields_choose, OfTurn, yields_loop}
use Rattle.lef_text.proofs.Small.{passed, passed_so, ok_is, on_line}
use Rattle.lef_text.proofs.Named.{IsNamed, words_named}
use Rattle.lef_text.proofs.SoundCounts.{HasFewOf, few_of}
use Rattle.lef_text.proofs.Gives.{Gives, gives_always, gives_bind, gives_then, gives_one, gives_text}
use Rattle.lef_text.proofs.Rectangles.{yields_rectangle, yields_polygon, shapes_all, slice_get_all}
use Rattle.lef_text.proofs.SoundMacros.{yields_macro}
use Rattle.lef_text.proofs.Sound.{IsMacroRead, IsSound, IsNumber, SoundTurn, gives_layer, distinct_push, none_equal, not_false, last_of, length_is}

-- ---- layers by name

abbrev IfKnown : ℕ → Option LayerNo → Type 0
IfKnown layers o = IsNumber layers o

known_is : (p : Place) (o : Option (Option LayerNo)) (l : Option LayerNo) → known p o ≡ Ok l → o ≡ Some l
known_is p None l h = absurd cc
known_is p (Some n) l h = ap (λ (m : Option LayerNo). Some m) (ok_is {N = LefError} n l h)

number_at_is : (layers : ℕ) (numbers : List (Option LayerNo)) (k : Option ℕ) (l : Option LayerNo) → All (IsNumber layers) numbers → number_at numbers k ≡ Some l → IsNumber layers l
number_at_is layers numbers None l all h = absurd cc
number_at_is layers numbers (Some k) l all h = slice_get_all (IsNumber layers) numbers k l all h

layer_word_is : (lib : Library) (p : Place) (l : Option LayerNo) → All (IsNumber (length lib.layers)) lib.numbers → layer_word lib p ≡ Ok l → IsNumber (length lib.layers) l
layer_word_is lib p l all h =
    let a = passed_so (is_name_word p.word) _ _ l h in
    number_at_is (length lib.layers) lib.numbers (position (λ n. bytes_eq p.word n) lib.layer_names) l all (known_is p _ l a.1)

-- ---- lines of a via

-- what holds of what is read so far: this of the layers, and that of the rectangles
record AreLines (N : Option LayerNo → Type 0) (R : LayerNo × Sides → Type 0) (s : ViaLines) : Type 0 where
  layer : IfSome s.layer N
  rects : All R s.rects
  form : AreFormLines N s.form

-- it holds of each layer that is named, and of each rectangle that is added
record Holds (lib : Library) (N : Option LayerNo → Type 0) (R : LayerNo × Sides → Type 0) : Type 0 where
  named : (p : Place) (l : Option LayerNo) → layer_word lib p ≡ Ok l → N l
  added : (rects : List (LayerNo × Sides)) (l : Option LayerNo) (r : Sides) → All R rects → N l → AreSidesWithin (2 ^ 30) r → All R (with_shape rects l r)

abbrev LinesTurn : (Option LayerNo → Type 0) → (LayerNo × Sides → Type 0) → Turn ViaLines → Type 0
LinesTurn N R t = OfTurn (AreLines N R) (AreLines N R) t

yields_rect : (units : ℕ) (lib : Library) (s : ViaLines) (w : Place) (l : Option (Option LayerNo)) (N : Option LayerNo → Type 0) (R : LayerNo × Sides → Type 0) → Holds lib N R → AreLines N R s → IfSome l N → Yields (vias.rect_line units s w l) (LinesTurn N R)
yields_rect units lib s w None N R a h n = yields_refused _ (LinesTurn N R)
yields_rect units lib s w (Some l) N R a h n =
    yields_bind (rectangle false units) _ (AreSidesWithin (2 ^ 30)) (LinesTurn N R) (yields_rectangle false units)
    (λ r small. yields_done _ (LinesTurn N R) (record { layer = h.layer; rects = a.added s.rects l r h.rects n small; form = h.form }))

yields_polygon_line : (units : ℕ) (lib : Library) (s : ViaLines) (w : Place) (l : Option (Option LayerNo)) (N : Option LayerNo → Type 0) (R : LayerNo × Sides → Type 0) → Holds lib N R → AreLines N R s → IfSome l N → Yields (vias.polygon_line units s w l) (LinesTurn N R)
yields_polygon_line units lib s w None N R a h n = yields_refused _ (LinesTurn N R)
yields_polygon_line units lib s w (Some l) N R a h n =
    yields_bind (polygon false units w) _ (All (AreSidesWithin (2 ^ 30))) (LinesTurn N R) (yields_polygon false units w)
    (λ rects small. yields_done _ (LinesTurn N R) (record { layer = h.layer; rects = shapes_all R s.rects l rects h.rects (λ k d e known q. a.added known l _ q n (small k d e)); form = h.form }))

-- ---- lines of the generated form

length_from : (units : ℕ) (least : ℤ) → Yields (one (length_at_least units least)) (IsFrom least)
length_from units least = yields_one _ _ (λ p z e. let l = length_is units least p z e in (l.0, at_most z l.1))
  where
    at_most : (z : ℤ) → IsWithin (2 ^ 30) z → z ≤ℤ pos (2 ^ 30)
    at_most z h = (sides_from_within (2 ^ 30) z h).0

yields_pair : (units : ℕ) (least : ℤ) → Yields (generated.pair units least) (IsPair least)
unfolding generated.pair
yields_pair units least =
    let P = IsPair least in
    yields_bind (one (length_at_least units least)) _ (IsFrom least) P (length_from units least) (λ x a.
    yields_bind (one (length_at_least units least)) _ (IsFrom least) P (length_from units least) (λ y b.
    yields_then semicolon _ P (λ u. yields_done (x, y) P (a, b))))

yields_enclosure : (units : ℕ) → Yields (generated.enclosure units) IsEnclosure
unfolding generated.enclosure
yields_enclosure units =
    let S = IsFrom (pos 0) in
    let F = one (length_at_least units (pos 0)) in
    let f = length_from units (pos 0) in
    yields_bind F _ S IsEnclosure f (λ x a. yields_bind F _ S IsEnclosure f (λ y b. yields_bind F _ S IsEnclosure f (λ z c. yields_bind F _ S IsEnclosure f (λ t d.
    yields_then semicolon _ IsEnclosure (λ u. yields_done (x, y, z, t) IsEnclosure (a, b, c, d))))))

yields_three : (lib : Library) (N : Option LayerNo → Type 0) → ((p : Place) (l : Option LayerNo) → layer_word lib p ≡ Ok l → N l) → Yields (generated.three_layers lib) (AreThree N)
unfolding generated.three_layers
yields_three lib N named =
    let P = AreThree N in
    let F = one (layer_word lib) in
    let f = yields_one (layer_word lib) N named in
    yields_bind F _ N P f (λ x a. yields_bind F _ N P f (λ y b. yields_bind F _ N P f (λ z c.
    yields_then semicolon _ P (λ u. yields_done (x, y, z) P (a, b, c)))))

within_is : (r : Result ℤ NumberFault) (n : ℕ) → within 1 (2 ^ 30) r ≡ Ok n → IsFrom (pos 1) (pos n)
within_is (Ok (pos m)) n h =
    let a = passed_so (nat_le 1 m && nat_le m (2 ^ 30)) _ _ n h in
    subst (λ (k : ℕ). IsFrom (pos 1) (pos k)) (ok_is {N = NumberFault} m n a.1) (both m a.0)
  where
    both : (m : ℕ) → (nat_le 1 m && nat_le m (2 ^ 30)) ≡ true → IsFrom (pos 1) (pos m)
    both m h = grind (arith, ints, nat_tests)
within_is (Ok (negsuc m)) n h = absurd cc
within_is (Err e) n h = absurd cc

yields_count : Yields (count 1 (2 ^ 30)) (λ n. IsFrom (pos 1) (pos n))
yields_count = yields_one _ _ (λ p n h. within_is (integer_of p.word) n (on_line Number p.line _ n h))

yields_array : Yields generated.rows_and_columns IsArray
unfolding generated.rows_and_columns
yields_array =
    let S : ℕ → Type 0 = λ n. IsFrom (pos 1) (pos n) in
    yields_bind (count 1 (2 ^ 30)) _ S IsArray yields_count (λ r a. yields_bind (count 1 (2 ^ 30)) _ S IsArray yields_count (λ c b.
    yields_then semicolon _ IsArray (λ u. yields_done (r, c) IsArray (a, b))))

yields_new : (units : ℕ) (lib : Library) (f : FormLines) (k : FormLine) (N : Option LayerNo → Type 0) → ((p : Place) (l : Option LayerNo) → layer_word lib p ≡ Ok l → N l) → AreFormLines N f → Yields (generated.new_line units lib f k) (AreFormLines N)
yields_new units lib f forms.Rule N named h = yields_then generated.rule_name _ (AreFormLines N) (λ u. yields_done _ (AreFormLines N) (record { cut = h.cut; layers = h.layers; spacing = h.spacing; enclosure = h.enclosure; array = h.array }))
yields_new units lib f forms.CutSize N named h = yields_bind (generated.pair units (pos 1)) _ (IsPair (pos 1)) (AreFormLines N) (yields_pair units (pos 1)) (λ c q. yields_done _ (AreFormLines N) (record { cut = q; layers = h.layers; spacing = h.spacing; enclosure = h.enclosure; array = h.array }))
yields_new units lib f forms.Layers N named h = yields_bind (generated.three_layers lib) _ (AreThree N) (AreFormLines N) (yields_three lib N named) (λ l q. yields_done _ (AreFormLines N) (record { cut = h.cut; layers = q; spacing = h.spacing; enclosure = h.enclosure; array = h.array }))
yields_new units lib f forms.CutSpacing N named h = yields_bind (generated.pair units (pos 0)) _ (IsPair (pos 0)) (AreFormLines N) (yields_pair units (pos 0)) (λ s q. yields_done _ (AreFormLines N) (record { cut = h.cut; layers = h.layers; spacing = q; enclosure = h.enclosure; array = h.array }))
yields_new units lib f forms.Enclosure N named h = yields_bind (generated.enclosure units) _ IsEnclosure (AreFormLines N) (yields_enclosure units) (λ e q. yields_done _ (AreFormLines N) (record { cut = h.cut; layers = h.layers; spacing = h.spacing; enclosure = q; array = h.array }))
yields_new units lib f forms.RowCol N named h = yields_bind generated.rows_and_columns _ IsArray (AreFormLines N) yields_array (λ a q. yields_done _ (AreFormLines N) (record { cut = h.cut; layers = h.layers; spacing = h.spacing; enclosure = h.enclosure; array = q }))

yields_form : (units : ℕ) (lib : Library) (f : FormLines) (w : Place) (k : FormLine) (N : Option LayerNo → Type 0) → ((p : Place) (l : Option LayerNo) → layer_word lib p ≡ Ok l → N l) → AreFormLines N f → Yields (generated.form_line units lib f w k) (AreFormLines N)
unfolding generated.form_line
yields_form units lib f w k N named h = yields_choose (generated.stands f k) _ _ (AreFormLines N) (yields_refused _ (AreFormLines N)) (yields_new units lib f k N named h)

yields_generated : (units : ℕ) (lib : Library) (s : ViaLines) (w : Place) (k : FormLine) (l : Option (Option LayerNo)) (N : Option LayerNo → Type 0) (R : LayerNo × Sides → Type 0) → Holds lib N R → AreLines N R s → Yields (vias.generated_line units lib s w k l) (LinesTurn N R)
yields_generated units lib s w k None N R a h =
    yields_bind (generated.form_line units lib s.form w k) _ (AreFormLines N) (LinesTurn N R) (yields_form units lib s.form w k N a.named h.form)
    (λ f q. yields_done _ (LinesTurn N R) (record { layer = h.layer; rects = h.rects; form = q }))
yields_generated units lib s w k (Some l) N R a h = yields_refused _ (LinesTurn N R)

-- ---- all lines of a via

yields_layer_line : (lib : Library) (s : ViaLines) (N : Option LayerNo → Type 0) (R : LayerNo × Sides → Type 0) → Holds lib N R → AreLines N R s → Yields (vias.layer_line lib s) (LinesTurn N R)
yields_layer_line lib s N R a h =
    yields_bind (one (layer_word lib)) _ N (LinesTurn N R) (yields_one _ _ a.named)
    (λ l n. yields_then semicolon _ (LinesTurn N R) (λ u. yields_done _ (LinesTurn N R) (record { layer = n; rects = h.rects; form = h.form })))

yields_via_line : (units : ℕ) (lib : Library) (name : List ℕ) (s : ViaLines) (w : Place) (k : ViaLine) (N : Option LayerNo → Type 0) (R : LayerNo × Sides → Type 0) → Holds lib N R → AreLines N R s → Yields (vias.line_by units lib name s w k) (LinesTurn N R)
yields_via_line units lib name s w lines.Layer N R a h = yields_choose (generated.is_begun s.form) _ _ (LinesTurn N R) (yields_refused _ (LinesTurn N R)) (yields_layer_line lib s N R a h)
yields_via_line units lib name s w lines.Rect N R a h = yields_rect units lib s w s.layer N R a h h.layer
yields_via_line units lib name s w lines.Polygon N R a h = yields_polygon_line units lib s w s.layer N R a h h.layer
yields_via_line units lib name s w lines.Unused N R a h = yields_then rest _ (LinesTurn N R) (λ u. yields_done (More s) (LinesTurn N R) h)
yields_via_line units lib name s w (lines.Form k) N R a h = yields_generated units lib s w k s.layer N R a h
yields_via_line units lib name s w lines.Refused N R a h = yields_refused _ (LinesTurn N R)
yields_via_line units lib name s w lines.End N R a h = yields_choose (generated.lacks_a_line s.form) _ _ (LinesTurn N R) (yields_refused _ (LinesTurn N R)) (yields_then (the_word name) _ (LinesTurn N R) (λ u. yields_done (Done s) (LinesTurn N R) h))
yields_via_line units lib name s w lines.Unknown N R a h = yields_refused _ (LinesTurn N R)

yields_via_lines : (units : ℕ) (lib : Library) (name : List ℕ) (N : Option LayerNo → Type 0) (R : LayerNo × Sides → Type 0) → Holds lib N R → Yields (loop (vias.via_line units lib name) vias.no_via_lines) (AreLines N R)
unfolding vias.via_line
yields_via_lines units lib name N R a =
    yields_loop (vias.via_line units lib name) vias.no_via_lines (AreLines N R) (AreLines N R)
    (λ s h. yields_then next _ (LinesTurn N R) (λ w. yields_via_line units lib name s w (via_line_of w.word) N R a h))
    (record { layer = tt; rects = All-nil R; form = record { cut = tt; layers = tt; spacing = tt; enclosure = tt; array = tt } })

-- ---- the rectangles of a via

-- the generated form that lines make is one
pub form_of_lines : (units : ℕ) (lib : Library) (name : List ℕ) (words : List Place) (rest : List Lexeme) (s : ViaLines) → (loop (vias.via_line units lib name) vias.no_via_lines).takes words rest s → IfSome (generated.form_of s.form) (λ g. IsForm g.0)
form_of_lines units lib name words rest s h =
    let N : Option LayerNo → Type 0 = λ l. Unit {0} in
    let R : LayerNo × Sides → Type 0 = λ r. Unit {0} in
    let all = (yields_via_lines units lib name N R (record { named = λ p l e. tt; added = λ rects l r a n q k d e. tt })).all words rest s h in
    is_form N (generated.form_of s.form) (form_is N s.form all.form)

numbered : (lib : Library) → All (IsNumber (length lib.layers)) lib.numbers → Holds lib (IsNumber (length lib.layers)) (IsOn (length lib.layers) most)
numbered lib all = record {
  named = λ p l e. layer_word_is lib p l all e;
  added = λ rects l r known n small. placed (length lib.layers) rects l r known n (omega (arith, small.0), omega (arith, small.1), omega (arith, small.2), omega (arith, small.3));
}

yields_via_rects : (units : ℕ) (lib : Library) (name : List ℕ) → All (IsNumber (length lib.layers)) lib.numbers → Yields (vias.via_rects units lib name) (All (IsOn (length lib.layers) most))
unfolding vias.via_rects
yields_via_rects units lib name all =
    let n = length lib.layers in
    let N : Option LayerNo → Type 0 = IsNumber n in
    let R : LayerNo × Sides → Type 0 = IsOn n most in
    yields_bind (loop (vias.via_line units lib name) vias.no_via_lines) _ (AreLines N R) (All R) (yields_via_lines units lib name N R (numbered lib all))
    (λ s h. yields_done _ (All R) (rects_at_end_is n s.form s.rects h.form h.rects))

-- ---- the statement

via_name_is : (names : List (List ℕ)) (p q : Place) → IsNamed p → vias.via_name names p ≡ Ok q → IsName q.word × (is_path_word q.word ≡ false) × All (λ n. n ≢ q.word) names
via_name_is names p q named h =
    let a = passed (not (is_name_word p.word)) _ _ q h in
    let b = passed (is_path_word p.word) _ _ q a.1 in
    let c = passed (list_any (bytes_eq p.word) names) _ _ q b.1 in
    let e : p ≡ q = ok_is {N = LefError} p q c.1 in
    let all : IsName p.word × (is_path_word p.word ≡ false) × All (λ n. n ≢ p.word) names = (named (not_false (is_name_word p.word) a.0), b.0, none_equal p.word names c.0) in
    subst (λ (r : Place). IsName r.word × (is_path_word r.word ≡ false) × All (λ n. n ≢ r.word) names) e all

abbrev name_of : Via → List ℕ
name_of v = v.name

via_sound : (lib : Library) (name : List ℕ) (usable : Bool) (rects : List (LayerNo × Sides)) → IsSound lib → IsName name → is_path_word name ≡ false → All (λ n. n ≢ name) lib.via_names → All (IsOn (length lib.layers) most) rects → IsSound (vias.with_via (vias.with_via_name lib name) name usable rects)
via_sound lib name usable rects h word path new l =
    let v : Via = record { name = name; usable = usable; rects = rects } in
    record {
      layers = h.layers;
      alternate = h.alternate;
      top = h.top;
      numbers = h.numbers;
      vias = All-push (IsVia (length lib.layers)) lib.vias v h.vias (record { name = word; no_path_word = path; rects = l });
      macros = h.macros;
      layer_names = h.layer_names;
      among = h.among;
      layers_apart = h.layers_apart;
      via_names = distinct_push lib.via_names name h.via_names new;
      vias_named = map-append name_of lib.vias (v ∷ []) ∙ ap (λ (ns : List (List ℕ)). ns ++ name ∷ []) h.vias_named;
      macro_names = h.macro_names;
      macros_named = h.macros_named;
    }

gives_via : (units : ℕ) (lib : Library) → IsSound lib → Gives (vias.via_statement units lib) SoundTurn
unfolding vias.via_statement
gives_via units lib h =
    gives_bind (one (vias.via_name lib.via_names)) _ (λ (p : Place). IsName p.word × (is_path_word p.word ≡ false) × All (λ n. n ≢ p.word) lib.via_names) SoundTurn
    (gives_one _ _ (λ p q named e. via_name_is lib.via_names p q named e))
    (λ p q. gives_always _ SoundTurn (yields_then (vias.optional (codes "DEFAULT")) _ SoundTurn (λ usable. yields_then (vias.optional (codes "TOPOFSTACKONLY")) _ SoundTurn (λ u.
    yields_bind (vias.via_rects units (vias.with_via_name lib p.word) p.word) _ (All (IsOn (length lib.layers) most)) SoundTurn
    (yields_via_rects units (vias.with_via_name lib p.word) p.word h.numbers)
    (λ rects l. yields_done _ SoundTurn (via_sound lib p.word usable rects h q.0 q.1 q.2 l))))))

-- ---- the text

-- a change of nothing that is spoken of
units_sound : (lib : Library) (n : ℕ) → IsSound lib → IsSound (record lib { units = n })
units_sound lib n h = record { layers = h.layers; alternate = h.alternate; top = h.top; numbers = h.numbers; vias = h.vias; macros = h.macros; layer_names = h.layer_names; among = h.among; layers_apart = h.layers_apart; via_names = h.via_names; vias_named = h.vias_named; macro_names = h.macro_names; macros_named = h.macros_named }

sections_sound : (lib : Library) (n : ℕ) → IsSound lib → IsSound (record lib { sections = n })
sections_sound lib n h = record { layers = h.layers; alternate = h.alternate; top = h.top; numbers = h.numbers; vias = h.vias; macros = h.macros; layer_names = h.layer_names; among = h.among; layers_apart = h.layers_apart; via_names = h.via_names; vias_named = h.vias_named; macro_names = h.macro_names; macros_named = h.macros_named }

gives_statement : (units : ℕ) (lib : Library) (w : Place) (k : Statement) → IsSound lib → Gives (lefs.statement_by units lib w k) SoundTurn
gives_statement units lib w statements.Units h = gives_always _ SoundTurn (yields_then (loop lefs.units_line lib.units) _ SoundTurn (λ n. yields_done _ SoundTurn (units_sound lib n h)))
gives_statement units lib w statements.Unused h = gives_always _ SoundTurn (yields_then rest _ SoundTurn (λ u. yields_done (More lib) SoundTurn h))
gives_statement units lib w statements.Properties h = gives_always _ SoundTurn (yields_then (up_to_pair (codes "END") (codes "PROPERTYDEFINITIONS")) _ SoundTurn (λ u. yields_done (More lib) SoundTurn h))
gives_statement units lib w statements.Spacings h = gives_always _ SoundTurn (yields_then (up_to_pair (codes "END") (codes "SPACING")) _ SoundTurn (λ u. yields_done (More lib) SoundTurn h))
gives_statement units lib w statements.Extension h = gives_always _ SoundTurn (yields_then (up_to_word (codes "ENDEXT")) _ SoundTurn (λ u. yields_done (More lib) SoundTurn h))
gives_statement units lib w statements.Site h = gives_always _ SoundTurn (yields_then lefs.named_section _ SoundTurn (λ u. yields_done (More lib) SoundTurn h))
gives_statement units lib w statements.Rule h = gives_always _ SoundTurn (yields_then lefs.named_section _ SoundTurn (λ u. yields_done _ SoundTurn (sections_sound lib (lib.sections + 1) h)))
gives_statement units lib w statements.Layer h = gives_layer units lib h
gives_statement units lib w statements.Via h = gives_via units lib h
gives_statement units lib w statements.Macro h = gives_always _ SoundTurn (yields_macro units lib h)
gives_statement units lib w statements.End h = gives_always _ SoundTurn (yields_then (the_word (codes "LIBRARY")) _ SoundTurn (λ u. yields_done (Done lib) SoundTurn h))
gives_statement units lib w statements.Unknown h = gives_always _ SoundTurn (yields_refused _ SoundTurn)

empty_sound : IsSound lefs.empty
unfolding last_of
empty_sound = record {
  layers = All-nil _;
  alternate = tt;
  top = refl;
  numbers = All-nil _;
  vias = All-nil _;
  macros = All-nil _;
  layer_names = none_apart;
  among = All-nil _;
  layers_apart = none_apart;
  via_names = none_apart;
  vias_named = refl;
  macro_names = none_apart;
  macros_named = refl;
}
  where
    none_apart : AreDistinct []
    none_apart = λ i j d lt le. absurd (omega arith)

-- what holds of a LEF but for how many things it has
pub record IsLefSound (l : Lef) : Type 0 where
  pub is_sound : (lib : Library) × IsSound lib × (l ≡ lefs.lef_of lib)

pub gives_lef : (units : ℕ) → Gives (lefs.lef units) IsLefSound
unfolding lefs.lef lefs.statement
gives_lef units =
    gives_bind (text (lefs.statement units) lefs.empty) _ IsSound IsLefSound
    (gives_text (lefs.statement units) lefs.empty IsSound (λ lib h. gives_then next _ SoundTurn (λ w. gives_statement units lib w (statement_of w.word) h)) empty_sound)
    (λ lib h. gives_always _ IsLefSound (yields_done (lefs.lef_of lib) IsLefSound (record { is_sound = (lib, h, refl) })))

macro_is : (layers n : ℕ) (ms : List Macro) → n < 2 ^ 32 → All (IsMacroRead layers) ms → All (λ (m : Macro). length m.pins ≤ n) ms → All (IsMacro layers) ms
macro_is layers n [] lt h f = All-nil (IsMacro layers)
macro_is layers n (m ∷ ms) lt h f =
    let q = All-head (IsMacroRead layers) m ms h in
    let few = All-head (λ (k : Macro). length k.pins ≤ n) m ms f in
    All-cons (IsMacro layers) m ms (record { name = q.name; w = q.w; h = q.h; pins = q.pins; few_pins = omega (arith, few, lt); obs = q.obs }) (macro_is layers n ms lt (All-tail (IsMacroRead layers) m ms h) (All-tail (λ (k : Macro). length k.pins ≤ n) m ms f))

is_lef : (n : ℕ) (l : Lef) → n < 2 ^ 32 → IsLefSound l → HasFewOf n l → IsLef l
is_lef n l lt s few =
    let lib = s.is_sound.0 in
    let h = s.is_sound.1 in
    let e = s.is_sound.2 in
    let f : HasFewOf n (lefs.lef_of lib) = subst (HasFewOf n) e few in
    subst IsLef (sym e) (record {
      layers = h.layers;
      directions = h.alternate;
      vias = h.vias;
      macros = macro_is (length lib.layers) n lib.macros lt h.macros f.pins;
      layer_names = h.layers_apart;
      via_names = rw h.vias_named h.via_names;
      macro_names = rw h.macros_named h.macro_names;
      few_layers = omega (arith, f.layers, lt);
      few_vias = omega (arith, f.vias, lt);
      few_macros = omega (arith, f.macros, lt);
    })

-- what is read of a text below 2 ^ 32 bytes
pub result_is_lef : (units : ℕ) (bytes : List ℕ) (tokens : List Token) (r : Result Lef LefError) → length bytes < 2 ^ 32 → IsCutInto bytes tokens → IfOk r (λ l. IsText (lefs.lef units) bytes tokens l) → IfOk r (λ l. IsLef l)
result_is_lef units bytes tokens (Ok l) size cut is =
    is_lef (length bytes) l size ((gives_lef units).all (places bytes tokens) (End (last_line tokens) ∷ []) l (words_named bytes tokens cut) is) (few_of units bytes tokens l cut is)
result_is_lef units bytes tokens (Err e) size cut is = tt

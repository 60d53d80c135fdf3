-- What holds of what is read so far.
use Rattle.std.proofs.Common.{eqb-true, ◌≡◌, ◌≢◌, ◌||◌, zero, suc, ℕ, ◌+◌, ◌≤◌, ◌<◌, ◌^◌, Bool, true, false, not, List, [], ◌∷◌, ◌++◌, length, map, Result, Ok, Err, Option, Some, None, ℤ, pos, negsuc, ◌≤ℤ◌, int_lt, refl, sym, ◌∙◌, ap, subst, arith, bytes_eq, codes}
use Rattle.std.specs.Prelude.{All, Contains, IfSome, unwrap_or}
use Rattle.std.specs.Int.{int_max}
use Rattle.std.specs.List.{list_any}
use Rattle.std.proofs.lemmas.Int.{ints, int_max_is}
use Rattle.std.proofs.lemmas.List.{length_push, map-append, append-nil}
use Rattle.std.proofs.lemmas.List.Elements.{All-push, All-weaker, All-nil, All-cons, All-get_or, All-contains, All-map, Contains-append_left, Contains-push}
use Rattle.std.proofs.lemmas.List.Quantifiers.{all_pairs_push}
use Rattle.std.proofs.lemmas.Bool.Decides.{not_from_Decides}
use Rattle.std.proofs.lemmas.Slice.Eq.{bytes_eq-Decides}
use Rattle.rt_base.specs.declared.tech.Layer.{Layer}
use Rattle.rt_base.specs.declared.tech.Via.{Via}
use Rattle.rt_base.specs.declared.tech.LayerNo.{LayerNo}
use Rattle.rt_base.specs.Sides.{Sides}
use Rattle.rt_base.specs.Ranges.{IsWithin, IsWidth}
use Rattle.rt_base.specs.Names.{IsName}
use Rattle.rt_base.specs.Tables.{IsTable}
use Rattle.rt_forms.specs.Lexeme.{Place}
use Rattle.rt_forms.specs.Form.{next, one, check, done, loop, Turn, More, Done}
use Rattle.rt_forms.specs.Reading.{is_name_word, semicolon, rest, the_word}
use Rattle.rt_words.specs.Reading.{decimal_of}
use Rattle.rt_words.specs.declared.number.NumberFault.{NumberFault}
use Rattle.lef_text.specs.declared.error.LefError.{LefError}
use Rattle.lef_text.specs.declared.error.LefError.TheVariants.{Number}
use Rattle.lef_text.specs.declared.library.Library.{Library}
use Rattle.lef_text.specs.declared.library.LayerLines.{LayerLines}
use Rattle.lef_text.specs.IsLef.{IsLayer, IsVia, IsOn, IsSpacing, IsPin, IfRouting, Alternate, directions, AreDistinct}
use Rattle.lef_text.specs.Layers as layers
use Rattle.lef_text.specs.Tables as tables
use Rattle.lef_text.specs.Numbers.{number}
use Rattle.rt_forms.specs.Reading.{a_name, up_to_word}
use Rattle.lef_text.specs.declared.lef.Macro.{Macro}
use Rattle.lef_text.specs.declared.library.LayerType.{LayerType}
use Rattle.lef_text.specs.declared.library.LayerType.TheVariants as types
use Rattle.lef_text.specs.declared.layer_words.LayerLine.{LayerLine}
use Rattle.lef_text.specs.declared.layer_words.LayerLine.TheVariants as lines
use Rattle.lef_text.specs.Words.{layer_line_of}
use Rattle.lef_text.specs.Numbers.{length_at_least, from_least, length_line}
use Rattle.lef_text.proofs.Yields.{Yields, yields_bind, yields_then, yields_check, yields_done, yields_refused, yields_one, yields_choose, OfTurn, yields_loop}
use Rattle.lef_text.proofs.Small.{decimal_small, passed, passed_so, ok_is, on_line}
use Rattle.lef_text.proofs.Named.{IsNamed}
use Rattle.lef_text.proofs.Gives.{Gives, gives_always, gives_bind, gives_then, gives_one}
use Rattle.lef_text.proofs.SoundTables.{AreLengths, AreRows, yields_lengths, yields_rows, table_is, no_table_is, entry_small}

-- ---- names

pub distinct_push : (names : List (List ℕ)) (name : List ℕ) → AreDistinct names → All (λ n. n ≢ name) names → AreDistinct (names ++ name ∷ [])
distinct_push names name d a = all_pairs_push (λ m n. m ≢ n) names name d (λ k e lt. All-get_or (λ n. n ≢ name) names k e lt a)

no_other : (b c : Bool) → (b || c) ≡ false → (b ≡ false) × (c ≡ false)
no_other true c h = absurd cc
no_other false c h = (refl, h)

pub none_equal : (name : List ℕ) (names : List (List ℕ)) → list_any (bytes_eq name) names ≡ false → All (λ n. n ≢ name) names
none_equal name [] h = All-nil (λ n. n ≢ name)
none_equal name (n ∷ names) h =
    let both = no_other (bytes_eq name n) (list_any (bytes_eq name) names) h in
    let apart : n ≢ name = λ e. not_from_Decides (bytes_eq name n) (bytes_eq-Decides name n) both.0 (sym e) in
    All-cons (λ n. n ≢ name) n names apart (none_equal name names both.1)

pub not_false : (b : Bool) → not b ≡ false → b ≡ true
not_false true h = refl
not_false false h = absurd cc

-- a word that looks like a name and was new
pub new_name_is : (names : List (List ℕ)) (p q : Place) → layers.new_name names p ≡ Ok q → (is_name_word q.word ≡ true) × All (λ n. n ≢ q.word) names
new_name_is names p q h =
    let a = passed (not (is_name_word p.word)) _ _ q h in
    let b = passed (list_any (bytes_eq p.word) names) _ _ q a.1 in
    let e : p ≡ q = ok_is {N = LefError} p q b.1 in
    let both : (is_name_word p.word ≡ true) × All (λ n. n ≢ p.word) names = (not_false (is_name_word p.word) a.0, none_equal p.word names b.0) in
    subst (λ (r : Place). (is_name_word r.word ≡ true) × All (λ n. n ≢ r.word) names) e both

-- ---- directions

unfoldable pub last_of : List Bool → Option Bool
last_of [] = None
last_of (a ∷ []) = Some a
last_of (a ∷ b ∷ bs) = last_of (b ∷ bs)

abbrev Crossed : Option Bool → Bool → Type 0
Crossed None b = Unit {0}
Crossed (Some a) b = b ≡ not a

alternate_push : (ds : List Bool) (b : Bool) → Alternate ds → Crossed (last_of ds) b → Alternate (ds ++ b ∷ [])
unfolding last_of
alternate_push [] b h c = tt
alternate_push (a ∷ []) b h c = (c, tt)
alternate_push (a ∷ d ∷ ds) b h c = (h.0, alternate_push (d ∷ ds) b h.1 c)

last_push : (ds : List Bool) (b : Bool) → last_of (ds ++ b ∷ []) ≡ Some b
unfolding last_of
last_push [] b = refl
last_push (a ∷ []) b = refl
last_push (a ∷ d ∷ ds) b = last_push (d ∷ ds) b

abbrev with_direction : Bool → Bool → List Bool → List Bool
with_direction true d ds = d ∷ ds
with_direction false d ds = ds

directions_head : (l : Layer) (ls : List Layer) → directions (l ∷ ls) ≡ with_direction l.routing l.horizontal (directions ls)
directions_head l ls = by l.routing refl
  where
    by : (b : Bool) → l.routing ≡ b → directions (l ∷ ls) ≡ with_direction b l.horizontal (directions ls)
    by true e = rw e refl
    by false e = rw e refl

directions_push : (ls : List Layer) (l : Layer) → directions (ls ++ l ∷ []) ≡ directions ls ++ with_direction l.routing l.horizontal []
directions_push [] l = directions_head l []
directions_push (k ∷ ls) l = directions_head k (ls ++ l ∷ []) ∙ ap (with_direction k.routing k.horizontal) (directions_push ls l) ∙ by k.routing ∙ ap (λ ds. ds ++ with_direction l.routing l.horizontal []) (sym (directions_head k ls))
  where
    by : (b : Bool) → with_direction b k.horizontal (directions ls ++ with_direction l.routing l.horizontal []) ≡ with_direction b k.horizontal (directions ls) ++ with_direction l.routing l.horizontal []
    by true = refl
    by false = refl

-- ---- lengths

abbrev pub IsLength : ℤ → ℤ → Type 0
IsLength least z = (least ≤ℤ z) × IsWithin (2 ^ 30) z

not_less : (n least : ℤ) → int_lt n least ≡ false → least ≤ℤ n
not_less n least h = grind (arith, ints)

least_is : (least : ℤ) (r : Result ℤ NumberFault) (z : ℤ) → ((n : ℤ) → r ≡ Ok n → IsWithin (2 ^ 30) n) → from_least least r ≡ Ok z → IsLength least z
least_is least (Ok n) z small h =
    let a = passed (int_lt n least) _ (Ok n) z h in
    subst (IsLength least) (ok_is {N = NumberFault} n z a.1) (not_less n least a.0, small n refl)
least_is least (Err e) z small h = absurd cc

pub length_is : (units : ℕ) (least : ℤ) (p : Place) (z : ℤ) → length_at_least units least p ≡ Ok z → IsLength least z
length_is units least p z h = least_is least (decimal_of p.word units) z (decimal_small p.word units) (on_line Number p.line _ z h)

-- ---- the lines of a layer

record IsLines (called : List ℕ) (is_routing : Bool) (s : LayerLines) : Type 0 where
  name : s.name ≡ called
  routing : s.routing ≡ is_routing
  width : IfSome s.width (IsLength (pos 1))
  spacing : IfSome s.spacing (IsWithin (2 ^ 30))
  table : IsTable s.table

record IsWhole (called : List ℕ) (is_routing : Bool) (top : Option (List ℕ × Bool)) (s : LayerLines) : Type 0 where
  lines : IsLines called is_routing s
  passed : layers.whole_layer top s ≡ Ok tt

yields_length : (units : ℕ) (least : ℤ) → Yields (length_line units least) (IsLength least)
unfolding length_line
yields_length units least = yields_bind (one (length_at_least units least)) _ (IsLength least) (IsLength least) (yields_one _ _ (λ p a h. length_is units least p a h)) (λ n h. yields_then semicolon _ (IsLength least) (λ u. yields_done n (IsLength least) h))

greatest_small : (o : Option ℤ) (n : ℤ) → IfSome o (IsWithin (2 ^ 30)) → IsWithin (2 ^ 30) n → IsWithin (2 ^ 30) (tables.greatest o n)
greatest_small None n h g = g
greatest_small (Some m) n h g = max_small m n h g
  where
    max_small : (m n : ℤ) → IsWithin (2 ^ 30) m → IsWithin (2 ^ 30) n → IsWithin (2 ^ 30) (int_max m n)
    max_small m n h g = omega (arith, ints, int_max_is m n)

abbrev TurnOk : List ℕ → Bool → Option (List ℕ × Bool) → Turn LayerLines → Type 0
TurnOk name routing top t = OfTurn (IsLines name routing) (IsWhole name routing top) t

yields_counted : (name : List ℕ) (routing : Bool) (top : Option (List ℕ × Bool)) (s : LayerLines) → IsLines name routing s → Yields (done {E = LefError} (tables.counted s)) (TurnOk name routing top)
yields_counted name routing top s h = yields_done (tables.counted s) (TurnOk name routing top) (record { name = h.name; routing = h.routing; width = h.width; spacing = h.spacing; table = h.table })

yields_skipped : (name : List ℕ) (routing : Bool) (top : Option (List ℕ × Bool)) (s : LayerLines) → IsLines name routing s → Yields (tables.counted_line s) (TurnOk name routing top)
yields_skipped name routing top s h = yields_then rest _ (TurnOk name routing top) (λ u. yields_counted name routing top s h)

with_spacing_ok : (name : List ℕ) (routing : Bool) (top : Option (List ℕ × Bool)) (s : LayerLines) (r : Result ℤ LefError) → IsLines name routing s → ((n : ℤ) → r ≡ Ok n → IsWithin (2 ^ 30) n) → (t : Turn LayerLines) → layers.with_spacing s r ≡ Ok t → TurnOk name routing top t
with_spacing_ok name routing top s (Ok n) h small t e =
    subst (TurnOk name routing top) (ok_is {N = LefError} (More (record s { spacing = Some (tables.greatest s.spacing n) })) t e) (record { name = h.name; routing = h.routing; width = h.width; spacing = greatest_small s.spacing n h.spacing (small n refl); table = h.table })
with_spacing_ok name routing top s (Err f) h small t e = absurd cc

yields_spacing : (units : ℕ) (name : List ℕ) (routing : Bool) (top : Option (List ℕ × Bool)) (s : LayerLines) → IsLines name routing s → Yields (layers.spacing_line units s) (TurnOk name routing top)
unfolding layers.spacing_line
yields_spacing units name routing top s h =
    let P = TurnOk name routing top in
    yields_then next _ P (λ v. yields_choose (bytes_eq v.word (codes ";")) _ _ P (yields_counted name routing top s h)
    (yields_then next _ P (λ e. yields_choose (bytes_eq e.word (codes ";")) _ _ P
    (yields_check _ P (λ t q. with_spacing_ok name routing top s (length_at_least units (pos 0) v) h (λ n r. (length_is units (pos 0) v n r).1) t q))
    (yields_skipped name routing top s h))))

-- ---- tables

yields_run : (units : ℕ) (name : List ℕ) (routing : Bool) (top : Option (List ℕ × Bool)) (s : LayerLines) (w : Place) → IsLines name routing s → Yields (tables.run_table units s w) (TurnOk name routing top)
unfolding tables.run_table
yields_run units name routing top s w h =
    let P = TurnOk name routing top in
    yields_then (check (tables.only_table w s s.table.lengths)) _ P (λ u.
    yields_then (number units) _ P (λ first.
    yields_bind (loop (tables.length_turn units) (tables.one_length first)) _ AreLengths P (yields_lengths units first) (λ lengths l.
    yields_bind (loop (tables.row_turn units (length lengths.numbers)) tables.no_rows) _ (AreRows (length lengths.numbers)) P (yields_rows units (length lengths.numbers) l.some) (λ rows q.
    yields_done _ P (record { name = h.name; routing = h.routing; width = h.width; spacing = greatest_small s.spacing (tables.first_entry rows.rows) h.spacing (entry_small rows.rows q.small); table = table_is lengths rows l q })))))

yields_table : (units : ℕ) (name : List ℕ) (routing : Bool) (top : Option (List ℕ × Bool)) (s : LayerLines) → IsLines name routing s → Yields (tables.table_line units s) (TurnOk name routing top)
unfolding tables.table_line
yields_table units name routing top s h =
    let P = TurnOk name routing top in
    yields_then next _ P (λ w. yields_choose (bytes_eq w.word (codes "PARALLELRUNLENGTH")) _ _ P (yields_run units name routing top s w h)
    (yields_choose (bytes_eq w.word (codes ";")) _ _ P (yields_counted name routing top s h) (yields_skipped name routing top s h)))

yields_density : (name : List ℕ) (routing : Bool) (top : Option (List ℕ × Bool)) (s : LayerLines) → IsLines name routing s → Yields (tables.density_line s) (TurnOk name routing top)
unfolding tables.density_line
yields_density name routing top s h =
    let P = TurnOk name routing top in
    yields_then a_name _ P (λ n. yields_then next _ P (λ w. yields_choose (tables.is_numeral w.word) _ _ P
    (yields_then semicolon _ P (λ u. yields_counted name routing top s h))
    (yields_choose (bytes_eq w.word (codes "TABLEENTRIES")) _ _ P (yields_skipped name routing top s h)
    (yields_then (up_to_word (codes "TABLEENTRIES")) _ P (λ u. yields_skipped name routing top s h)))))

yields_line : (units : ℕ) (top : Option (List ℕ × Bool)) (name : List ℕ) (routing : Bool) (s : LayerLines) (w : Place) (k : LayerLine) → IsLines name routing s → Yields (layers.line_by units top s w k) (TurnOk name routing top)
unfolding layers.end_of_layer
yields_line units top name routing s w lines.Direction h =
    let P = TurnOk name routing top in
    yields_then (one layers.direction_word) _ P (λ d. yields_then semicolon _ P (λ u. yields_done _ P (record { name = h.name; routing = h.routing; width = h.width; spacing = h.spacing; table = h.table })))
yields_line units top name routing s w lines.Unused h =
    let P = TurnOk name routing top in
    yields_then rest _ P (λ u. yields_done (More s) P h)
yields_line units top name routing s w lines.Width h =
    let P = TurnOk name routing top in
    yields_bind (length_line units (pos 1)) _ (IsLength (pos 1)) P (yields_length units (pos 1)) (λ n q. yields_done _ P (record { name = h.name; routing = h.routing; width = q; spacing = h.spacing; table = h.table }))
yields_line units top name routing s w lines.Spacing h = yields_spacing units name routing top s h
yields_line units top name routing s w lines.SpacingTable h = yields_table units name routing top s h
yields_line units top name routing s w lines.CurrentDensity h = yields_density name routing top s h
yields_line units top name routing s w lines.End h =
    let P = TurnOk name routing top in
    yields_bind (check (layers.whole_layer top s)) _ (λ u. layers.whole_layer top s ≡ Ok tt) P (yields_check _ _ (λ u q. q)) (λ u q. yields_then (the_word s.name) _ P (λ v. yields_done (Done s) P (record { lines = h; passed = q })))
yields_line units top name routing s w lines.Other h =
    let P = TurnOk name routing top in
    yields_choose (is_name_word w.word) _ _ P (yields_skipped name routing top s h) (yields_refused _ P)

yields_lines : (units : ℕ) (top : Option (List ℕ × Bool)) (name : List ℕ) (routing : Bool) → Yields (loop (layers.layer_line units top) (layers.no_lines name routing)) (IsWhole name routing top)
unfolding layers.layer_line
yields_lines units top name routing =
    yields_loop (layers.layer_line units top) (layers.no_lines name routing) (IsLines name routing) (IsWhole name routing top)
    (λ u h. yields_then next _ (TurnOk name routing top) (λ w. yields_line units top name routing u w (layer_line_of w.word) h))
    (record { name = refl; routing = refl; width = tt; spacing = tt; table = no_table_is })

-- ---- a layer at its end

-- the direction of a routing layer
abbrev pub direction_of : Option (List ℕ × Bool) → Option Bool
direction_of None = None
direction_of (Some below) = Some below.1

crossed_is : (top : Option (List ℕ × Bool)) (name : List ℕ) (b : Bool) → layers.crosses top name b ≡ Ok tt → Crossed (direction_of top) b
crossed_is None name b h = tt
crossed_is (Some below) name b h = other below.1 b (passed (layers.are_same below.1 b) _ (Ok tt) tt h).0
  where
    other : (a b : Bool) → layers.are_same a b ≡ false → b ≡ not a
    other true b h = h
    other false true h = refl
    other false false h = absurd cc

width_is : (w : ℤ) → IsLength (pos 1) w → layers.is_even w ≡ true → IsWidth w
width_is (pos zero) l e = absurd (omega (arith, ints, l.0))
width_is (pos (suc zero)) l e = absurd cc
width_is (pos (suc (suc n))) l e = (omega (arith, ints), omega (arith, ints, l.1), eqb-true _ _ e)
width_is (negsuc n) l e = absurd (omega (arith, ints, l.0))

whole_is : (top : Option (List ℕ × Bool)) (name : List ℕ) (h : Option Bool) (w p : Option ℤ) → IfSome w (IsLength (pos 1)) → layers.whole_routing top name h w (layers.lack_of h w p) ≡ Ok tt → IsWidth (unwrap_or w (pos 0)) × Crossed (direction_of top) (unwrap_or h false)
whole_is top name None w p l e = absurd cc
whole_is top name (Some d) None p l e = absurd cc
whole_is top name (Some d) (Some w) None l e = absurd cc
whole_is top name (Some d) (Some w) (Some s) l e =
    let a = passed_so (layers.is_even w) _ (layers.crosses top name d) tt e in
    (width_is w l a.0, crossed_is top name d a.1)

-- what holds of a routing or cut layer at its end
record IsEnd (top : Option (List ℕ × Bool)) (s : LayerLines) : Type 0 where
  width : IfRouting s.routing (IsWidth (unwrap_or s.width (pos 0)))
  crossed : IfRouting s.routing (Crossed (direction_of top) (unwrap_or s.horizontal false))
  spacing : IsSpacing (int_max (pos 0) (unwrap_or s.spacing (pos 0)))

spacing_is : (o : Option ℤ) → IfSome o (IsWithin (2 ^ 30)) → IsSpacing (int_max (pos 0) (unwrap_or o (pos 0)))
spacing_is None h = (omega (arith, ints, int_max_is (pos 0) (pos 0)), omega (arith, ints, int_max_is (pos 0) (pos 0)))
spacing_is (Some n) h = (omega (arith, ints, int_max_is (pos 0) n), omega (arith, ints, int_max_is (pos 0) n, h))

end_is : (name : List ℕ) (top : Option (List ℕ × Bool)) (routing : Bool) (s : LayerLines) → IsWhole name routing top s → IsEnd top s
end_is name top true s h =
    let a : layers.whole_routing top s.name s.horizontal s.width (layers.lack_of s.horizontal s.width s.spacing) ≡ Ok tt = rw h.lines.routing at h.passed in
    let b = whole_is top s.name s.horizontal s.width s.spacing h.lines.width a in
    record { width = rw h.lines.routing b.0; crossed = rw h.lines.routing b.1; spacing = spacing_is s.spacing h.lines.spacing }
end_is name top false s h = record { width = rw h.lines.routing tt; crossed = rw h.lines.routing tt; spacing = spacing_is s.spacing h.lines.spacing }

-- ---- what is read so far

abbrev pub IsNumber : ℕ → Option LayerNo → Type 0
IsNumber layers o = IfSome o (λ n. n.0 < layers)

-- a macro, but for how many pins it has
pub record IsMacroRead (layers : ℕ) (m : Macro) : Type 0 where
  pub name : is_name_word m.name ≡ true
  pub w : IsWithin (2 ^ 30) m.w
  pub h : IsWithin (2 ^ 30) m.h
  pub pins : All (IsPin layers) m.pins
  pub obs : All (IsOn layers (2 ^ 31)) m.obs

pub record IsSound (lib : Library) : Type 0 where
  pub layers : All IsLayer lib.layers
  pub alternate : Alternate (directions lib.layers)
  pub top : last_of (directions lib.layers) ≡ direction_of lib.top
  pub numbers : All (IsNumber (length lib.layers)) lib.numbers
  pub vias : All (IsVia (length lib.layers)) lib.vias
  pub macros : All (IsMacroRead (length lib.layers)) lib.macros
  pub layer_names : AreDistinct lib.layer_names
  pub among : All (λ (l : Layer). Contains lib.layer_names l.name) lib.layers
  pub layers_apart : AreDistinct (map (λ (l : Layer). l.name) lib.layers)
  pub via_names : AreDistinct lib.via_names
  pub vias_named : map (λ (v : Via). v.name) lib.vias ≡ lib.via_names
  pub macro_names : AreDistinct lib.macro_names
  pub macros_named : map (λ (m : Macro). m.name) lib.macros ≡ lib.macro_names

-- more layers are as good
on_more : (n m most : ℕ) (r : LayerNo × Sides) → n ≤ m → IsOn n most r → IsOn m most r
on_more n m most r le h = (omega (arith, h.0), h.1)

all_on_more : (n m most : ℕ) (rs : List (LayerNo × Sides)) → n ≤ m → All (IsOn n most) rs → All (IsOn m most) rs
all_on_more n m most rs le h = All-weaker (IsOn n most) (IsOn m most) (λ r q. on_more n m most r le q) rs h

via_more : (n m : ℕ) (v : Via) → n ≤ m → IsVia n v → IsVia m v
via_more n m v le h = record { name = h.name; no_path_word = h.no_path_word; rects = all_on_more n m (2 ^ 60 + 2 ^ 30) v.rects le h.rects }

pin_more : (n m : ℕ) (p : List ℕ × List (LayerNo × Sides)) → n ≤ m → IsPin n p → IsPin m p
pin_more n m p le h = (h.0, all_on_more n m (2 ^ 31) p.1 le h.1)

macro_more : (n m : ℕ) (c : Macro) → n ≤ m → IsMacroRead n c → IsMacroRead m c
macro_more n m c le h = record {
  name = h.name;
  w = h.w;
  h = h.h;
  pins = All-weaker (IsPin n) (IsPin m) (λ p q. pin_more n m p le q) c.pins h.pins;
  obs = all_on_more n m (2 ^ 31) c.obs le h.obs;
}

number_more : (n m : ℕ) (o : Option LayerNo) → n ≤ m → IsNumber n o → IsNumber m o
number_more n m None le h = tt
number_more n m (Some k) le h = omega (arith, h)

-- ---- a new layer

record IsOpen (lib : Library) (name : List ℕ) : Type 0 where
  sound : IsSound lib
  word : IsName name
  apart : All (λ (l : Layer). l.name ≢ name) lib.layers
  named : Contains lib.layer_names name

open_is : (lib : Library) (name : List ℕ) → IsSound lib → IsName name → All (λ n. n ≢ name) lib.layer_names → IsOpen (layers.with_layer_name lib name) name
open_is lib name h word new = record {
  sound = record {
    layers = h.layers;
    alternate = h.alternate;
    top = h.top;
    numbers = h.numbers;
    vias = h.vias;
    macros = h.macros;
    layer_names = distinct_push lib.layer_names name h.layer_names new;
    among = All-weaker (λ (l : Layer). Contains lib.layer_names l.name) (λ (l : Layer). Contains (lib.layer_names ++ name ∷ []) l.name) (λ l c. Contains-append_left lib.layer_names (name ∷ []) l.name c) lib.layers h.among;
    layers_apart = h.layers_apart;
    via_names = h.via_names;
    vias_named = h.vias_named;
    macro_names = h.macro_names;
    macros_named = h.macros_named;
  };
  word = word;
  apart = All-weaker (λ (l : Layer). Contains lib.layer_names l.name) (λ (l : Layer). l.name ≢ name) (λ l c. All-contains (λ n. n ≢ name) lib.layer_names l.name new c) lib.layers h.among;
  named = Contains-push lib.layer_names name;
}

alternate_more : (ds : List Bool) (top : Option Bool) (routing b : Bool) → Alternate ds → last_of ds ≡ top → IfRouting routing (Crossed top b) → Alternate (ds ++ with_direction routing b [])
alternate_more ds top true b h e c = alternate_push ds b h (subst (λ (o : Option Bool). Crossed o b) (sym e) c)
alternate_more ds top false b h e c = subst Alternate (sym (append-nil ds)) h

top_more : (ds : List Bool) (top : Option (List ℕ × Bool)) (s : LayerLines) (routing : Bool) → s.routing ≡ routing → last_of ds ≡ direction_of top → last_of (ds ++ with_direction routing (unwrap_or s.horizontal false) []) ≡ direction_of (layers.top_at_end top s)
top_more ds top s true r e = last_push ds (unwrap_or s.horizontal false) ∙ rw r refl
top_more ds top s false r e = ap last_of (append-nil ds) ∙ e ∙ rw r refl

abbrev name_of : Layer → List ℕ
name_of l = l.name

with_layer_sound : (lib : Library) (name : List ℕ) (routing : Bool) (s : LayerLines) → IsOpen lib name → IsWhole name routing lib.top s → IsSound (layers.with_layer lib s)
with_layer_sound lib name routing s o w =
    let h = o.sound in
    let e = end_is name lib.top routing s w in
    let l : Layer = layers.layer_at_end s in
    let n = length lib.layers in
    let m = length (lib.layers ++ l ∷ []) in
    let longer : m ≡ n + 1 = length_push lib.layers l in
    let le : n ≤ m = omega arith in
    let dirs : directions (lib.layers ++ l ∷ []) ≡ directions lib.layers ++ with_direction s.routing (unwrap_or s.horizontal false) [] = directions_push lib.layers l in
    let here : s.name ≡ name = w.lines.name in
    record {
      layers = All-push IsLayer lib.layers l h.layers (record { name = rw here o.word; width = e.width; spacing = e.spacing; table = w.lines.table });
      alternate = subst Alternate (sym dirs) (alternate_more (directions lib.layers) (direction_of lib.top) s.routing (unwrap_or s.horizontal false) h.alternate h.top e.crossed);
      top = ap last_of dirs ∙ top_more (directions lib.layers) lib.top s s.routing refl h.top;
      numbers = All-push (IsNumber m) lib.numbers (Some (record { 0 = n })) (All-weaker (IsNumber n) (IsNumber m) (λ k q. number_more n m k le q) lib.numbers h.numbers) (omega arith);
      vias = All-weaker (IsVia n) (IsVia m) (λ v q. via_more n m v le q) lib.vias h.vias;
      macros = All-weaker (IsMacroRead n) (IsMacroRead m) (λ c q. macro_more n m c le q) lib.macros h.macros;
      layer_names = h.layer_names;
      among = All-push (λ (k : Layer). Contains lib.layer_names k.name) lib.layers l h.among (rw here o.named);
      layers_apart = subst AreDistinct (sym (map-append name_of lib.layers (l ∷ []))) (distinct_push (map name_of lib.layers) s.name h.layers_apart (All-map (λ (k : List ℕ). k ≢ s.name) name_of lib.layers (rw here o.apart)));
      via_names = h.via_names;
      vias_named = h.vias_named;
      macro_names = h.macro_names;
      macros_named = h.macros_named;
    }

with_dropped_sound : (lib : Library) (name : List ℕ) → IsOpen lib name → IsSound (layers.with_dropped lib name)
with_dropped_sound lib name o =
    let h = o.sound in
    record {
      layers = h.layers;
      alternate = h.alternate;
      top = h.top;
      numbers = All-push (IsNumber (length lib.layers)) lib.numbers None h.numbers tt;
      vias = h.vias;
      macros = h.macros;
      layer_names = h.layer_names;
      among = h.among;
      layers_apart = h.layers_apart;
      via_names = h.via_names;
      vias_named = h.vias_named;
      macro_names = h.macro_names;
      macros_named = h.macros_named;
    }

abbrev pub SoundTurn : Turn Library → Type 0
SoundTurn t = OfTurn IsSound IsSound t

yields_layer_by : (units : ℕ) (lib : Library) (name : List ℕ) (type : LayerType) → IsOpen lib name → Yields (layers.layer_by units lib name type) SoundTurn
unfolding layers.used_layer layers.dropped_layer
yields_layer_by units lib name types.Routing o = yields_bind (loop (layers.layer_line units lib.top) (layers.no_lines name true)) _ (IsWhole name true lib.top) SoundTurn (yields_lines units lib.top name true) (λ s w. yields_done _ SoundTurn (with_layer_sound lib name true s o w))
yields_layer_by units lib name types.Cut o = yields_bind (loop (layers.layer_line units lib.top) (layers.no_lines name false)) _ (IsWhole name false lib.top) SoundTurn (yields_lines units lib.top name false) (λ s w. yields_done _ SoundTurn (with_layer_sound lib name false s o w))
yields_layer_by units lib name types.Other o = yields_then (loop (layers.dropped_line name) tt) _ SoundTurn (λ u. yields_done _ SoundTurn (with_dropped_sound lib name o))

-- a name that was new
pub new_name_named : (names : List (List ℕ)) (p q : Place) → IsNamed p → layers.new_name names p ≡ Ok q → IsName q.word × All (λ n. n ≢ q.word) names
new_name_named names p q named h =
    let a = passed (not (is_name_word p.word)) _ _ q h in
    let b = passed (list_any (bytes_eq p.word) names) _ _ q a.1 in
    let both : IsName p.word × All (λ n. n ≢ p.word) names = (named (not_false (is_name_word p.word) a.0), none_equal p.word names b.0) in
    subst (λ (r : Place). IsName r.word × All (λ n. n ≢ r.word) names) (ok_is {N = LefError} p q b.1) both

pub gives_layer : (units : ℕ) (lib : Library) → IsSound lib → Gives (layers.layer_statement units lib) SoundTurn
unfolding layers.layer_statement
gives_layer units lib h =
    gives_bind (one (layers.new_name lib.layer_names)) _ (λ (p : Place). IsName p.word × All (λ n. n ≢ p.word) lib.layer_names) SoundTurn
    (gives_one _ _ (λ p q named e. new_name_named lib.layer_names p q named e))
    (λ p q. gives_then layers.layer_type _ SoundTurn (λ t. gives_always _ SoundTurn (yields_layer_by units (layers.with_layer_name lib p.word) p.word t (open_is lib p.word h q.0 q.1))))

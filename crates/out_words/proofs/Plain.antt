-- Words of strokes that stand as one token each.
use Rattle.std.proofs.Common.{◌≡◌, ℕ, suc, ◌+◌, ◌^◌, ◌<◌, ◌==◌, ◌||◌, Bool, true, false, if◌then◌else◌, ℤ, pos, negsuc, unsigned_abs, List, [], ◌∷◌, ◌++◌, length, All, refl, arith}
use Rattle.std.specs.Prelude.{flat_map, slice_get, option_map, unwrap_or}
use Rattle.std.specs.List.{AllByRecursion, list_any}
use Rattle.std.specs.Int.{IsInRange}
use Rattle.std.specs.Fmt.{decimal, signed_decimal}
use Rattle.std.proofs.lemmas.Bool.Decides.{nat_tests}
use Rattle.std.proofs.lemmas.List.Elements.{All-from_recursion, recursion_from_All, All-get_or}
use Rattle.std.proofs.lemmas.Option.{slice_get-get_or}
use Rattle.rt_base.specs.Parts.{is_blank, is_bad}
use Rattle.rt_base.specs.Ranges.{IsPointWithin}
use Rattle.rt_base.specs.declared.geometry.Point.{Point}
use Rattle.rt_base.specs.declared.tech.Layer.{Layer}
use Rattle.rt_base.specs.declared.tech.Tech.{Tech}
use Rattle.rt_base.specs.declared.tech.Via.{Via}
use Rattle.rt_text.proofs.Decimals.{decimal_is_plain, All-decimal}
use Rattle.track_graph.specs.declared.history.Stroke.{Stroke}
use Rattle.track_graph.specs.declared.history.Stroke.TheVariants.{Run, Via as ViaAt}
use Rattle.track_graph.specs.Levels.{levels, routing_from, layer_name_of}
use Rattle.track_graph.specs.Metal.{Metal, first_level_name, via_level_name, via_name_of, via_rects}
use Rattle.rt_base.specs.Names.{IsPlainWord}
use Rattle.written.specs.Words.{point_words, stroke_words}
use Rattle.out_words.specs.Strokes.{HasPlainNames, IsStrokeWithin}

-- ---- numbers

not_blank : (b : ℕ) → 44 < b → b < 58 → is_blank b ≡ false
not_blank b low high = grind (arith, nat_tests)

not_bad : (b : ℕ) → 44 < b → b < 58 → is_bad b ≡ false
not_bad b low high = grind (arith, nat_tests)

not_comment : (b : ℕ) → 44 < b → (b == 35) ≡ false
not_comment b low = grind (arith, nat_tests)

not_quote : (b : ℕ) → 44 < b → (b == 34) ≡ false
not_quote b low = grind (arith, nat_tests)

no_blanks : (bs : List ℕ) → AllByRecursion (IsInRange 48 57) bs → list_any is_blank bs ≡ false
no_blanks [] h = refl
no_blanks (b ∷ bs) h =
    let here : is_blank b ≡ false = not_blank b (omega (arith, h.0)) (omega (arith, h.0)) in
    rw (here, no_blanks bs h.1) refl

none_bad : (bs : List ℕ) → AllByRecursion (IsInRange 48 57) bs → list_any is_bad bs ≡ false
none_bad [] h = refl
none_bad (b ∷ bs) h =
    let here : is_bad b ≡ false = not_bad b (omega (arith, h.0)) (omega (arith, h.0)) in
    rw (here, none_bad bs h.1) refl

digits_are_plain : (bs : List ℕ) → 0 < length bs → AllByRecursion (IsInRange 48 57) bs → IsPlainWord bs
digits_are_plain [] some h = absurd (omega arith)
digits_are_plain (b ∷ bs) some h = (not_comment b (omega (arith, h.0)), not_quote b (omega (arith, h.0)), no_blanks (b ∷ bs) h, none_bad (b ∷ bs) h)

pub plain_number : (z : ℤ) → unsigned_abs z < 2 ^ 63 → IsPlainWord (signed_decimal z)
plain_number (pos n) small =
    let fits : n < 2 ^ 64 = omega (arith, small) in
    digits_are_plain (decimal n) (decimal_is_plain n fits).some (recursion_from_All (IsInRange 48 57) (decimal n) (All-decimal n fits))
plain_number (negsuc n) small =
    let fits : suc n < 2 ^ 64 = omega (arith, small) in
    let digits = recursion_from_All (IsInRange 48 57) (decimal (suc n)) (All-decimal (suc n) fits) in
    (refl, refl, no_blanks (decimal (suc n)) digits, none_bad (decimal (suc n)) digits)

plain_point : (p : Point) → unsigned_abs p.x < 2 ^ 63 → unsigned_abs p.y < 2 ^ 63 → AllByRecursion IsPlainWord (point_words p)
plain_point p x y = ((refl, refl, refl, refl), (plain_number p.x x, (plain_number p.y y, ((refl, refl, refl, refl), tt))))

pub plain_numbers : (p : Point) → unsigned_abs p.x < 2 ^ 63 → unsigned_abs p.y < 2 ^ 63 → All IsPlainWord (point_words p)
plain_numbers p x y = All-from_recursion IsPlainWord (point_words p) (plain_point p x y)

-- ---- strokes

both : (xs ys : List (List ℕ)) → AllByRecursion IsPlainWord xs → AllByRecursion IsPlainWord ys → AllByRecursion IsPlainWord (xs ++ ys)
both [] ys f g = g
both (x ∷ xs) ys f g = (f.0, both xs ys f.1 g)

point_within : (most : ℕ) (p : Point) → most < 2 ^ 63 → IsPointWithin most p → AllByRecursion IsPlainWord (point_words p)
point_within most p small h = plain_point p (omega (arith, h.0)) (omega (arith, h.1))

stroke_within : (most : ℕ) (tech : Tech) (s : Stroke) → most < 2 ^ 63 → HasPlainNames tech s → IsStrokeWithin most s → AllByRecursion IsPlainWord (stroke_words tech s)
stroke_within most tech (Run level a b) small names h = (names, both (point_words a) (point_words b) (point_within most a small h.0) (point_within most b small h.1))
stroke_within most tech (ViaAt k p) small names h = (names.0, both (point_words p) (via_name_of tech k ∷ []) (point_within most p small h) (names.1, tt))

pub plain_strokes : (most : ℕ) (tech : Tech) (s : Stroke) → most < 2 ^ 63 → HasPlainNames tech s → IsStrokeWithin most s → All IsPlainWord (stroke_words tech s)
plain_strokes most tech s small names h = All-from_recursion IsPlainWord (stroke_words tech s) (stroke_within most tech s small names h)

all_strokes : (tech : Tech) (ss : List Stroke) → AllByRecursion (λ (s : Stroke). All IsPlainWord (stroke_words tech s)) ss → AllByRecursion IsPlainWord (flat_map (stroke_words tech) ss)
all_strokes tech [] h = tt
all_strokes tech (s ∷ ss) h = both (stroke_words tech s) (flat_map (stroke_words tech) ss) (recursion_from_All IsPlainWord (stroke_words tech s) h.0) (all_strokes tech ss h.1)

-- the words of all of these strokes
pub plain_words : (tech : Tech) (ss : List Stroke) → All (λ (s : Stroke). All IsPlainWord (stroke_words tech s)) ss → All IsPlainWord (flat_map (stroke_words tech) ss)
plain_words tech ss h =
    let P = λ (s : Stroke). All IsPlainWord (stroke_words tech s) in
    All-from_recursion IsPlainWord (flat_map (stroke_words tech) ss) (all_strokes tech ss (recursion_from_All P ss h))

-- ---- names

abbrev named : ℕ × Layer → Type 0
named l = IsPlainWord l.1.name

routing_named : (n : ℕ) (ls : List Layer) → AllByRecursion (λ (l : Layer). IsPlainWord l.name) ls → AllByRecursion named (routing_from n ls)
routing_named n [] h = tt
routing_named n (l ∷ ls) h = at l.routing (routing_named (n + 1) ls h.1)
  where
    at : (b : Bool) → AllByRecursion named (routing_from (n + 1) ls) → AllByRecursion named (if b then (n, l) ∷ routing_from (n + 1) ls else routing_from (n + 1) ls)
    at true more = (h.0, more)
    at false more = more

levels_named : (tech : Tech) → All (λ (l : Layer). IsPlainWord l.name) tech.layers → AllByRecursion named (levels tech)
levels_named tech h = routing_named 0 tech.layers (recursion_from_All (λ (l : Layer). IsPlainWord l.name) tech.layers h)

named_at : (ls : List (ℕ × Layer)) (k : ℕ) → AllByRecursion named ls → k < length ls → IsPlainWord (unwrap_or (option_map (λ (l : ℕ × Layer). l.1.name) (slice_get ls k)) [])
named_at [] k h within = absurd (omega arith)
named_at (l ∷ ls) k h within =
    let d : ℕ × Layer = l in
    let here = All-get_or named (l ∷ ls) k d within (All-from_recursion named (l ∷ ls) h) in
    rw (slice_get-get_or (l ∷ ls) k d within) here

-- the name of a level's layer
pub plain_layer_name : (tech : Tech) (level : ℕ) → All (λ (l : Layer). IsPlainWord l.name) tech.layers → level < length (levels tech) → IsPlainWord (layer_name_of tech level)
plain_layer_name tech level h within = named_at (levels tech) level (levels_named tech h) within

via_at : (vs : List Via) (k : ℕ) → All (λ (v : Via). IsPlainWord v.name) vs → k < length vs → IsPlainWord (unwrap_or (option_map (λ (v : Via). v.name) (slice_get vs k)) [])
via_at [] k h within = absurd (omega arith)
via_at (v ∷ vs) k h within =
    let here = All-get_or (λ (v : Via). IsPlainWord v.name) (v ∷ vs) k v within h in
    rw (slice_get-get_or (v ∷ vs) k v within) here

-- the name of a via
pub plain_via_name : (tech : Tech) (k : ℕ) → All (λ (v : Via). IsPlainWord v.name) tech.vias → k < length tech.vias → IsPlainWord (via_name_of tech k)
plain_via_name tech k h within = via_at tech.vias k h within

first_named : (ls : List (ℕ × Layer)) (rects : List Metal) → AllByRecursion named ls → list_any (λ (l : ℕ × Layer). list_any (λ (r : Metal). r.0.0 == l.0) rects) ls ≡ true → IsPlainWord (first_level_name ls rects)
first_named [] rects h some = absurd cc
first_named (l ∷ ls) rects h some = at (list_any (λ (r : Metal). r.0.0 == l.0) rects) some (first_named ls rects h.1)
  where
    at : (b : Bool) → (b || list_any (λ (l : ℕ × Layer). list_any (λ (r : Metal). r.0.0 == l.0) rects) ls) ≡ true → (list_any (λ (l : ℕ × Layer). list_any (λ (r : Metal). r.0.0 == l.0) rects) ls ≡ true → IsPlainWord (first_level_name ls rects))
        → IsPlainWord (if b then l.1.name else first_level_name ls rects)
    at true e more = h.0
    at false e more = more e

-- the name of the lowest routing layer on which a via has a rectangle
pub plain_level_name : (tech : Tech) (k : ℕ) → All (λ (l : Layer). IsPlainWord l.name) tech.layers → list_any (λ (l : ℕ × Layer). list_any (λ (r : Metal). r.0.0 == l.0) (via_rects tech k)) (levels tech) ≡ true → IsPlainWord (via_level_name tech k)
plain_level_name tech k h some = first_named (levels tech) (via_rects tech k) (levels_named tech h) some

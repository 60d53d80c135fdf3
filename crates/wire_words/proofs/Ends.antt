-- No word of written wiring ends an option.
use Rattle.std.proofs.Common.{◌≡◌, ℕ, ◌^◌, ℤ, true, false, List, [], ◌∷◌, ◌++◌, refl, All}
use Rattle.std.specs.Prelude.{codes, flat_map}
use Rattle.std.specs.Fmt.{signed_decimal}
use Rattle.std.proofs.lemmas.List.Elements.{All-nil, All-cons, All-append, All-head, All-tail}
use Rattle.rt_base.specs.Ranges.{IsWithin, IsPointWithin}
use Rattle.rt_base.specs.declared.geometry.Point.{Point}
use Rattle.rt_base.specs.declared.tech.Tech.{Tech}
use Rattle.rt_forms.specs.Reading.{is_name_word, ends_option}
use Rattle.track_graph.specs.declared.history.Stroke.{Stroke}
use Rattle.track_graph.specs.declared.history.Stroke.TheVariants.{Run, Via as ViaAt}
use Rattle.track_graph.specs.Levels.{layer_name_of}
use Rattle.track_graph.specs.Metal.{via_level_name, via_name_of}
use Rattle.written.specs.Words.{point_words, stroke_words, further_words, wiring_words}
use Rattle.wire_words.specs.Readable.{IsReadable}
use Rattle.wire_words.proofs.Numbers.{not_plus, not_semicolon}
use Rattle.wire_words.proofs.Meanings.{name_no_sign, via_is_name}

-- no `+` and no `;`
abbrev pub GoesOn : List ℕ → Type 0
GoesOn word = ends_option word ≡ false

name_on : (name : List ℕ) → is_name_word name ≡ true → GoesOn name
name_on name h = let e = name_no_sign name h in rw (e.1, e.0) refl

number_on : (z : ℤ) → IsWithin (2 ^ 30) z → GoesOn (signed_decimal z)
number_on z near = rw (not_plus z near, not_semicolon z near) refl

point_on : (a : Point) → IsPointWithin (2 ^ 30) a → All GoesOn (point_words a)
point_on a near =
    All-cons GoesOn (codes "(") (signed_decimal a.x ∷ signed_decimal a.y ∷ codes ")" ∷ []) refl
    (All-cons GoesOn (signed_decimal a.x) (signed_decimal a.y ∷ codes ")" ∷ []) (number_on a.x near.0)
    (All-cons GoesOn (signed_decimal a.y) (codes ")" ∷ []) (number_on a.y near.1)
    (All-cons GoesOn (codes ")") [] refl (All-nil GoesOn))))

stroke_on : (reader tech : Tech) (s : Stroke) → IsReadable reader tech s → All GoesOn (stroke_words tech s)
stroke_on reader tech (Run level a b) h =
    All-cons GoesOn (layer_name_of tech level) (point_words a ++ point_words b) (name_on (layer_name_of tech level) h.name) (All-append GoesOn (point_words a) (point_words b) (point_on a h.start) (point_on b h.finish))
stroke_on reader tech (ViaAt k p) h =
    All-cons GoesOn (via_level_name tech k) (point_words p ++ via_name_of tech k ∷ []) (name_on (via_level_name tech k) h.name)
    (All-append GoesOn (point_words p) (via_name_of tech k ∷ []) (point_on p h.point) (All-cons GoesOn (via_name_of tech k) [] (name_on (via_name_of tech k) (via_is_name (via_name_of tech k) h.step)) (All-nil GoesOn)))

further_on : (reader tech : Tech) (ss : List Stroke) → All (IsReadable reader tech) ss → All GoesOn (flat_map (further_words tech) ss)
further_on reader tech [] all = All-nil GoesOn
further_on reader tech (s ∷ ss) all =
    All-append GoesOn (further_words tech s) (flat_map (further_words tech) ss)
    (All-cons GoesOn (codes "NEW") (stroke_words tech s) refl (stroke_on reader tech s (All-head (IsReadable reader tech) s ss all)))
    (further_on reader tech ss (All-tail (IsReadable reader tech) s ss all))

pub none_ends : (reader tech : Tech) (s : Stroke) (ss : List Stroke) → IsReadable reader tech s → All (IsReadable reader tech) ss → All (λ w. ends_option w ≡ false) (wiring_words tech s ss)
none_ends reader tech s ss h all = All-append GoesOn (stroke_words tech s) (flat_map (further_words tech) ss) (stroke_on reader tech s h) (further_on reader tech ss all)

-- Written wiring, as parts of a text.
use Rattle.std.proofs.Common.{◌≡◌, ℕ, List, [], ◌∷◌, ◌++◌, All, refl, sym, subst, append_assoc}
use Rattle.std.specs.Prelude.{codes, flat_map}
use Rattle.std.specs.List.{AllByRecursion}
use Rattle.std.specs.Fmt.{signed_decimal}
use Rattle.std.proofs.lemmas.List.Elements.{recursion_from_All}
use Rattle.rt_base.specs.Parts.{Part, spelling, AllFit}
use Rattle.rt_base.specs.Scan.{IsText}
use Rattle.rt_base.specs.declared.geometry.Point.{Point}
use Rattle.rt_base.specs.declared.tech.Tech.{Tech}
use Rattle.rt_text.specs.Point.{point_text}
use Rattle.track_graph.specs.declared.history.Stroke.{Stroke}
use Rattle.track_graph.specs.declared.history.Stroke.TheVariants.{Run, Via as ViaAt}
use Rattle.track_graph.specs.Levels.{layer_name_of}
use Rattle.track_graph.specs.Metal.{via_level_name, via_name_of}
use Rattle.def_out.specs.Wiring.{stroke_text, further_text, wiring_text}
use Rattle.rt_base.specs.Names.{IsPlainWord}
use Rattle.written.specs.Words.{point_words, stroke_words, further_words, option_words}
use Rattle.out_words.proofs.Fitting.{part_words, Follows, follows_feed}
use Rattle.out_words.proofs.Pieces.{Pieces, Lines, respelled, one_word, spaced, indented, line_before, last_feed}

point_pieces : (p : Point) → IsPlainWord (signed_decimal p.x) → IsPlainWord (signed_decimal p.y) → Pieces (point_text p.x p.y) (point_words p)
point_pieces p x y =
    let spells : 40 ∷ 32 ∷ (signed_decimal p.x ++ 32 ∷ (signed_decimal p.y ++ 32 ∷ 41 ∷ [])) ≡ point_text p.x p.y = simp append_assoc in
    respelled spells (spaced (one_word (codes "(") (refl, refl, refl, refl))
    (spaced (one_word (signed_decimal p.x) x)
    (spaced (one_word (signed_decimal p.y) y)
    (one_word (codes ")") (refl, refl, refl, refl)))))

-- three texts with spaces between them
joined : (a b c : List ℕ) → a ++ 32 ∷ (b ++ 32 ∷ c) ≡ (((a ++ codes " ") ++ b) ++ codes " ") ++ c
joined a b c = simp append_assoc

stroke_pieces : (tech : Tech) (s : Stroke) → AllByRecursion IsPlainWord (stroke_words tech s) → Pieces (stroke_text tech s) (stroke_words tech s)
stroke_pieces tech (Run level a b) h =
    respelled (joined (layer_name_of tech level) (point_text a.x a.y) (point_text b.x b.y))
    (spaced (one_word (layer_name_of tech level) h.0)
    (spaced (point_pieces a h.1.1.0 h.1.1.1.0) (point_pieces b h.1.1.1.1.1.1.0 h.1.1.1.1.1.1.1.0)))
stroke_pieces tech (ViaAt k p) h =
    respelled (joined (via_level_name tech k) (point_text p.x p.y) (via_name_of tech k))
    (spaced (one_word (via_level_name tech k) h.0)
    (spaced (point_pieces p h.1.1.0 h.1.1.1.0) (one_word (via_name_of tech k) h.1.1.1.1.1.0)))

parts-All : (xs ys : List (List ℕ)) → AllByRecursion IsPlainWord (xs ++ ys) → AllByRecursion IsPlainWord xs × AllByRecursion IsPlainWord ys
parts-All [] ys h = (tt, h)
parts-All (x ∷ xs) ys h = let more = parts-All xs ys h.1 in ((h.0, more.0), more.1)

further_lines : (tech : Tech) (ss : List Stroke) → AllByRecursion IsPlainWord (flat_map (stroke_words tech) ss) → Lines (flat_map (further_text tech) ss ++ codes "\n") (flat_map (further_words tech) ss)
further_lines tech [] h = last_feed
further_lines tech (s ∷ ss) h =
    let both = parts-All (stroke_words tech s) (flat_map (stroke_words tech) ss) h in
    let new = one_word (codes "NEW") (refl, refl, refl, refl) in
    let line = line_before (indented (indented (indented (indented (spaced new (stroke_pieces tech s both.0)))))) (further_lines tech ss both.1) in
    subst (λ (x : List ℕ). Lines x (flat_map (further_words tech) (s ∷ ss))) (simp append_assoc) line

wiring_lines : (tech : Tech) (s : Stroke) (ss : List Stroke) → AllByRecursion IsPlainWord (flat_map (stroke_words tech) (s ∷ ss)) → Lines (wiring_text tech (s ∷ ss)) (option_words tech (s ∷ ss))
wiring_lines tech s ss h =
    let both = parts-All (stroke_words tech s) (flat_map (stroke_words tech) ss) h in
    let plus = one_word (codes "+") (refl, refl, refl, refl) in
    let routed = one_word (codes "ROUTED") (refl, refl, refl, refl) in
    let line = line_before (indented (indented (spaced plus (spaced routed (stroke_pieces tech s both.0))))) (further_lines tech ss both.1) in
    subst (λ (x : List ℕ). Lines x (option_words tech (s ∷ ss))) (simp append_assoc) line

-- parts that may be put in before anything, whatever stands before
pub record Inserted (text : List ℕ) (words : List (List ℕ)) : Type 0 where
  pub parts : List Part
  pub whole : spelling parts ≡ text
  pub fit : (rest : List ℕ) → AllFit parts rest
  pub same : part_words parts ≡ words
  pub text_only : IsText text
  pub follows : (old rest : List ℕ) → Follows old rest → Follows old (text ++ rest)

from_lines : (text : List ℕ) (words : List (List ℕ)) → Lines text words → Inserted text words
from_lines text words l = record {
  parts = l.parts;
  whole = l.whole;
  fit = l.fit;
  same = l.same;
  text_only = l.text_only;
  follows = λ old rest f. subst (λ (x : List ℕ). Follows old (x ++ rest)) (sym l.begins) (follows_feed old (l.behind ++ rest));
}

-- the wiring of a net, where its words are plain
pub wiring_put_in : (tech : Tech) (ss : List Stroke) → All IsPlainWord (flat_map (stroke_words tech) ss) → Inserted (wiring_text tech ss) (option_words tech ss)
wiring_put_in tech [] h = record {
  parts = [];
  whole = refl;
  fit = λ rest. tt;
  same = refl;
  text_only = refl;
  follows = λ old rest f. f;
}
wiring_put_in tech (s ∷ ss) h =
    from_lines (wiring_text tech (s ∷ ss)) (option_words tech (s ∷ ss)) (wiring_lines tech s ss (recursion_from_All IsPlainWord (flat_map (stroke_words tech) (s ∷ ss)) h))

-- Words with white space between them, as parts of a text.
use Rattle.std.proofs.Common.{◌≡◌, ◌∙◌, ℕ, List, [], ◌∷◌, ◌++◌, refl, sym, ap, subst}
use Rattle.std.specs.List.{list_any}
use Rattle.std.proofs.lemmas.List.{append-nil}
use Rattle.std.proofs.lemmas.List.Folds.{list_any-append}
use Rattle.rt_base.specs.Parts.{is_blank, is_bad, Part, Blank, Plain, spelling, Begins, AllFit}
use Rattle.rt_base.specs.Scan.{IsText}
use Rattle.rt_base.proofs.Parting.{or_false}
use Rattle.rt_base.specs.Names.{IsPlainWord}
use Rattle.out_words.proofs.Fitting.{spelling-append, part_words, part_words-append, fit-append}

-- parts that may stand before white space
pub record Pieces (text : List ℕ) (words : List (List ℕ)) : Type 0 where
  pub parts : List Part
  pub whole : spelling parts ≡ text
  pub fit : (rest : List ℕ) → Begins is_blank rest → AllFit parts rest
  pub same : part_words parts ≡ words
  pub text_only : IsText text

-- parts that begin with a line feed, and may stand before anything
pub record Lines (text : List ℕ) (words : List (List ℕ)) : Type 0 where
  pub parts : List Part
  pub whole : spelling parts ≡ text
  pub fit : (rest : List ℕ) → AllFit parts rest
  pub same : part_words parts ≡ words
  pub text_only : IsText text
  pub behind : List ℕ
  pub begins : text ≡ 10 ∷ behind

pub text-append : (a b : List ℕ) → IsText a → IsText b → IsText (a ++ b)
text-append a b x y = rw (list_any-append is_bad a b, x, y) refl

pub text-parts : (a b : List ℕ) → IsText (a ++ b) → IsText a × IsText b
text-parts a b h = or_false (list_any is_bad a) (list_any is_bad b) (sym (list_any-append is_bad a b) ∙ h)

pub respelled : {a b : List ℕ} {ws : List (List ℕ)} → a ≡ b → Pieces a ws → Pieces b ws
respelled {a} {b} {ws} e x = subst (λ (t : List ℕ). Pieces t ws) e x

pub one_word : (w : List ℕ) → IsPlainWord w → Pieces w (w ∷ [])
one_word [] h = absurd h
one_word (b ∷ bs) h =
    let blanks = or_false (is_blank b) (list_any is_blank bs) h.2 in
    record {
      parts = Plain b bs ∷ [];
      whole = append-nil (b ∷ bs);
      fit = λ rest begins. ((blanks.0, h.0, h.1, blanks.1, begins), tt);
      same = refl;
      text_only = h.3;
    }

-- with a space between them
pub spaced : {a b : List ℕ} {vs ws : List (List ℕ)} → Pieces a vs → Pieces b ws → Pieces (a ++ 32 ∷ b) (vs ++ ws)
spaced {a} {b} {vs} {ws} x y = record {
  parts = x.parts ++ Blank 32 ∷ y.parts;
  whole = rw (spelling-append x.parts (Blank 32 ∷ y.parts), x.whole, y.whole) refl;
  fit = λ rest begins. fit-append x.parts (Blank 32 ∷ y.parts) rest (x.fit (32 ∷ (spelling y.parts ++ rest)) refl) (refl, y.fit rest begins);
  same = rw (part_words-append x.parts (Blank 32 ∷ y.parts), x.same, y.same) refl;
  text_only = text-append a (32 ∷ b) x.text_only y.text_only;
}

-- behind a space
pub indented : {b : List ℕ} {ws : List (List ℕ)} → Pieces b ws → Pieces (32 ∷ b) ws
indented y = record {
  parts = Blank 32 ∷ y.parts;
  whole = ap (λ (x : List ℕ). 32 ∷ x) y.whole;
  fit = λ rest begins. (refl, y.fit rest begins);
  same = y.same;
  text_only = y.text_only;
}

-- on a line of their own before others
pub line_before : {a b : List ℕ} {vs ws : List (List ℕ)} → Pieces a vs → Lines b ws → Lines (10 ∷ (a ++ b)) (vs ++ ws)
line_before {a} {b} {vs} {ws} x y = record {
  parts = Blank 10 ∷ (x.parts ++ y.parts);
  whole = rw (spelling-append x.parts y.parts, x.whole, y.whole) refl;
  fit = λ rest. (refl, fit-append x.parts y.parts rest (x.fit (spelling y.parts ++ rest) (rw (y.whole, y.begins) refl)) (y.fit rest));
  same = rw (part_words-append x.parts y.parts, x.same, y.same) refl;
  text_only = text-append a b x.text_only y.text_only;
  behind = a ++ b;
  begins = refl;
}

-- the feed of the last line
pub last_feed : Lines (10 ∷ []) []
last_feed = record {
  parts = Blank 10 ∷ [];
  whole = refl;
  fit = λ rest. (refl, tt);
  same = refl;
  text_only = refl;
  behind = [];
  begins = refl;
}

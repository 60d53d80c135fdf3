-- Cuts of words that stand before or behind others.
use Rattle.std.proofs.Common.{◌≡◌, ℕ, ◌+◌, List, [], ◌∷◌, ◌++◌, length, refl, ap, sym, ◌∙◌, arith, append_assoc, length-append}
use Rattle.std.specs.List.{AllZip}
use Rattle.rt_forms.specs.Lexeme.{Place}
use Rattle.written.specs.Cuts.{Cut, cut_words, bytes_of, with_words}
use Rattle.def_text.specs.declared.def.DefNet.{DefNet}
use Rattle.def_again.specs.Again.{IsClose}
use Rattle.def_again.proofs.Lists.{bytes_append, bytes_length}
use Rattle.def_again.proofs.Frames.{IsFilled}

-- ---- words before

-- the first cut, with words before
abbrev pub cuts_behind : List Place → List Cut → List Cut
cuts_behind front [] = []
cuts_behind front (c ∷ cuts) = record { before = front ++ c.before; mark = c.mark } ∷ cuts

-- the words behind the last cut; where there is none, with words before
abbrev pub last_behind : List Place → List Cut → List Place → List Place
last_behind front [] last = front ++ last
last_behind front (c ∷ cuts) last = last

pub behind_words : (front : List Place) (cuts : List Cut) (last : List Place) → cut_words (cuts_behind front cuts) (last_behind front cuts last) ≡ front ++ cut_words cuts last
behind_words front [] last = refl
behind_words front (c ∷ cuts) last = append_assoc front c.before (c.mark ∷ cut_words cuts last)

pub behind_with : (front : List Place) (cuts : List Cut) (last : List Place) (added : List (List (List ℕ))) → with_words (cuts_behind front cuts) (last_behind front cuts last) added ≡ bytes_of front ++ with_words cuts last added
behind_with front [] last added = bytes_append front last
behind_with front (c ∷ cuts) last [] = ap bytes_of (append_assoc front c.before (c.mark ∷ cut_words cuts last)) ∙ bytes_append front (c.before ++ c.mark ∷ cut_words cuts last)
behind_with front (c ∷ cuts) last (words ∷ added) =
    let w = c.mark.word ∷ with_words cuts last added in
    ap (λ (v : List (List ℕ)). v ++ words ++ w) (bytes_append front c.before) ∙ ap (λ (v : List (List ℕ)). v ++ w) (append_assoc (bytes_of front) (bytes_of c.before) words) ∙ append_assoc (bytes_of front) (bytes_of c.before ++ words) w

pub behind_length : (front : List Place) (cuts : List Cut) → length (cuts_behind front cuts) ≡ length cuts
behind_length front [] = refl
behind_length front (c ∷ cuts) = refl

pub behind_closes : (front : List Place) (nets : List DefNet) (cuts : List Cut) → AllZip IsClose nets cuts → AllZip IsClose nets (cuts_behind front cuts)
behind_closes front [] [] h = tt
behind_closes front [] (c ∷ cuts) h = absurd h
behind_closes front (n ∷ nets) [] h = absurd h
behind_closes front (n ∷ nets) (c ∷ cuts) h = (record { place = h.0.place; semicolon = h.0.semicolon }, h.1)

pub behind_filled : (front : List Place) (cuts : List Cut) → IsFilled cuts → IsFilled (cuts_behind front cuts)
behind_filled front [] h = tt
behind_filled front (c ∷ cuts) h = omega (arith, h, length-append front c.before)

-- ---- words behind

pub before_words : (cuts : List Cut) (last back : List Place) → cut_words cuts (last ++ back) ≡ cut_words cuts last ++ back
before_words [] last back = refl
before_words (c ∷ cuts) last back = ap (λ (v : List Place). c.before ++ c.mark ∷ v) (before_words cuts last back) ∙ sym (append_assoc c.before (c.mark ∷ cut_words cuts last) back)

pub before_with : (cuts : List Cut) (last back : List Place) (added : List (List (List ℕ))) → with_words cuts (last ++ back) added ≡ with_words cuts last added ++ bytes_of back
before_with [] last back added = bytes_append last back
before_with (c ∷ cuts) last back [] = ap bytes_of (before_words (c ∷ cuts) last back) ∙ bytes_append (cut_words (c ∷ cuts) last) back
before_with (c ∷ cuts) last back (words ∷ added) =
    ap (λ (v : List (List ℕ)). bytes_of c.before ++ words ++ c.mark.word ∷ v) (before_with cuts last back added) ∙ sym (append_assoc (bytes_of c.before ++ words) (c.mark.word ∷ with_words cuts last added) (bytes_of back))

-- ---- how many words

-- so many words are put in
pub record IsMore (cuts : List Cut) (last : List Place) (added : List (List (List ℕ))) : Type 0 where
  pub more : ℕ
  pub long : length (with_words cuts last added) ≡ length (cut_words cuts last) + more

pub is_more : (cuts : List Cut) (last : List Place) (added : List (List (List ℕ))) → IsMore cuts last added
is_more [] last added = record { more = 0; long = omega (arith, bytes_length last) }
is_more (c ∷ cuts) last [] = record { more = 0; long = omega (arith, bytes_length (cut_words (c ∷ cuts) last)) }
is_more (c ∷ cuts) last (words ∷ added) =
    let m = is_more cuts last added in
    record {
      more = length words + m.more;
      long = omega (arith, m.long, length-append (bytes_of c.before ++ words) (c.mark.word ∷ with_words cuts last added), length-append (bytes_of c.before) words, bytes_length c.before, length-append c.before (c.mark ∷ cut_words cuts last));
    }

-- The words of a text, cut before some of them, and the words of another text that has further words there.
use Rattle.std.specs.Prelude.{ℕ, List, [], ◌∷◌, ◌++◌, map}
use Rattle.rt_forms.specs.Lexeme.{Place}

-- the words before a mark, and the mark
pub record Cut : Type 0 where
  pub before : List Place
  pub mark : Place

-- the words of all cuts, and those behind the last one
abbrev pub cut_words : List Cut → List Place → List Place
cut_words [] last = last
cut_words (c ∷ cuts) last = c.before ++ c.mark ∷ cut_words cuts last

-- words by their bytes alone
abbrev pub bytes_of : List Place → List (List ℕ)
bytes_of ps = map (λ (p : Place). p.word) ps

-- the bytes of all words, with further ones before the mark of each cut
abbrev pub with_words : List Cut → List Place → List (List (List ℕ)) → List (List ℕ)
with_words [] last added = bytes_of last
with_words (c ∷ cuts) last [] = bytes_of (cut_words (c ∷ cuts) last)
with_words (c ∷ cuts) last (words ∷ added) = bytes_of c.before ++ words ++ c.mark.word ∷ with_words cuts last added

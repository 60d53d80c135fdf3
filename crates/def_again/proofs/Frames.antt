-- Frames of words that lie in two texts.
use Rattle.std.proofs.Common.{◌≡◌, ℕ, ◌+◌, ◌<◌, Bool, false, inl, List, [], ◌∷◌, ◌++◌, length, Some, sym, subst, arith}
use Rattle.rt_forms.specs.Lexeme.{Lexeme, Place, put, first_of}
use Rattle.rt_forms.specs.Form.{Form}
use Rattle.written.specs.Cuts.{Cut, cut_words, bytes_of, with_words}
use Rattle.same_words.specs.Same.{Frame, SameFirst, IsInFrame, Same}
use Rattle.same_words.specs.States.{HoldsMoved}
use Rattle.same_words.proofs.Combining.{left_put}
use Rattle.def_again.proofs.Lists.{same_length, bytes_length, split_one, Lies, lies_left, moved_words}
use Rattle.def_again.proofs.Items.{SameRange}

abbrev pub frame_of : List Place → List Place → List Place → ℕ → ℕ → Bool → Frame
frame_of old gone stretch more before lax = record { total = length old; low = length gone; high = length gone + length stretch; more = more; before = before; lax = lax }

pub holds_moved : (old new gone gone' stretch stretch' : List Place) (rest rest' : List Lexeme) (more before : ℕ) (lax : Bool) → Lies old gone stretch rest → Lies new gone' stretch' rest' → bytes_of stretch' ≡ bytes_of stretch → length gone' ≡ length gone + before
    → HoldsMoved (frame_of old gone stretch more before lax) (SameRange old new)
holds_moved old new gone gone' stretch stretch' rest rest' more before lax h h' same long = record {
  moved = λ r q m. moved_words old new gone gone' stretch stretch' rest rest' before r.0 r.1 q.0 q.1 h h' same long m.0.from_low m.1.to_high m.0.moved m.1.moved;
}

pub in_frame : (old gone stretch : List Place) (rest : List Lexeme) (more before : ℕ) (lax : Bool) → Lies old gone stretch rest → IsInFrame (frame_of old gone stretch more before lax) stretch rest
in_frame old gone stretch rest more before lax h =
    let many = lies_left old gone stretch rest h in
    record { from_low = omega (arith, many, left_put stretch rest); to_high = omega (arith, many) }

-- a second text with more words, of which so many are before
pub record IsLonger (old new gone gone' : List Place) (more before : ℕ) : Type 0 where
  pub long : length new ≡ length old + more
  pub behind : length gone' ≡ length gone + before

-- what is taken of the same words
pub taken_again : {E A B : Type 0} (old new gone gone' front front' : List Place) (rest rest' : List Lexeme) (more before : ℕ) (R : A → B → Type 0) (F : Form E A) (G : Form E B) (a : A)
    → Lies old gone front rest → Lies new gone' front' rest' → bytes_of front' ≡ bytes_of front → IsLonger old new gone gone' more before → SameFirst false (first_of rest) (first_of rest')
    → Same (frame_of old gone front more before false) R F G → F.takes front rest a → (b : B) × R a b × G.takes front' rest' b
taken_again old new gone gone' front front' rest rest' more before R F G a h h' same longer first s t =
    let many = lies_left old gone front rest h in
    let many' = lies_left new gone' front' rest' h' in
    let long = same_length front' (bytes_of front) same in
    let long' = bytes_length front in
    let l = longer.long in
    let b = longer.behind in
    s.again front front' rest rest' a same (in_frame old gone front rest more before false h) (record { first = first; left = omega arith }) t

-- ---- cuts

-- words stand before the first cut
abbrev pub IsFilled : List Cut → Type 0
IsFilled [] = Unit {0}
IsFilled (c ∷ cuts) = 0 < length c.before

-- a text with words put in begins with the same word
pub filled_first : (cuts : List Cut) (last : List Place) (added : List (List (List ℕ))) (words' : List Place) (rest rest' : List Lexeme) → IsFilled cuts → bytes_of words' ≡ with_words cuts last added → SameFirst false (first_of rest) (first_of rest')
    → SameFirst false (first_of (put (cut_words cuts last) rest)) (first_of (put words' rest'))
filled_first [] [] added [] rest rest' filled e first = first
filled_first [] [] added (q ∷ words') rest rest' filled e first = absurd cc
filled_first [] (p ∷ last) added [] rest rest' filled e first = absurd cc
filled_first [] (p ∷ last) added (q ∷ words') rest rest' filled e first = inl cc
filled_first (c ∷ cuts) last added words' rest rest' filled e first = go c.before filled added e
  where
    go : (before : List Place) → 0 < length before → (added : List (List (List ℕ))) → bytes_of words' ≡ with_words (record { before = before; mark = c.mark } ∷ cuts) last added
        → SameFirst false (first_of (put (before ++ c.mark ∷ cut_words cuts last) rest)) (first_of (put words' rest'))
    go [] some added e = absurd (omega arith)
    go (p ∷ before) some [] e =
        let s = split_one words' p.word (bytes_of (before ++ c.mark ∷ cut_words cuts last)) e in
        subst (λ (v : List Place). SameFirst false (Some p) (first_of (put v rest'))) (sym s.whole) (inl s.first)
    go (p ∷ before) some (a ∷ added) e =
        let s = split_one words' p.word (bytes_of before ++ a ++ c.mark.word ∷ with_words cuts last added) e in
        subst (λ (v : List Place). SameFirst false (Some p) (first_of (put v rest'))) (sym s.whole) (inl s.first)

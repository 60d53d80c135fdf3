-- Forms that several grammars share.
use Rattle.std.specs.Prelude.{◌≡◌, ℕ, ◌+◌, List, [], ◌∷◌, Result, Ok, Err, Option, Some, None, bytes_eq, nat_eq, slice_get, codes, not, ◌||◌, ◌&&◌, Bool, true, false, if◌then◌else◌}
use Rattle.std.specs.Option.{option_eq}
use Rattle.rt_base.specs.Names.{is_sign}
use Rattle.rt_forms.specs.Lexeme.{Lexeme, At, End, Place, first_of}
use Rattle.rt_forms.specs.Form.{Faults, Read, Form, one, admit, look, done, ◌>>=◌, Which}

abbrev pub if_so : {A : Type 0} → Bool → A → Option A
if_so true a = Some a
if_so false a = None

-- this very word
abbrev pub the_word : {E : Type 0} → List ℕ → Form E (Unit {0})
the_word word = admit (λ p. if_so (bytes_eq p.word word) tt)

-- not quoted, and none of the signs
abbrev pub is_name_word : List ℕ → Bool
is_name_word word = not (option_eq nat_eq (slice_get word 0) (Some 34) || is_sign word)

-- a name
abbrev pub a_name : {E : Type 0} → Form E Place
a_name = admit (λ p. if_so (is_name_word p.word) p)

abbrev pub semicolon : {E : Type 0} → Form E (Unit {0})
semicolon = the_word (codes ";")

-- ---- the next word, which stays

-- it is this one
abbrev pub is_next : List ℕ → Option Place → Bool
is_next word None = false
is_next word (Some p) = bytes_eq p.word word

-- the test is true of it, or none is left
abbrev pub or_end : (List ℕ → Bool) → Option Place → Bool
or_end test None = true
or_end test (Some p) = test p.word

-- how many words are left
abbrev pub left_of : List Lexeme → ℕ
left_of [] = 0
left_of (End line ∷ ws) = 0
left_of (At line first word ∷ ws) = 1 + left_of ws

-- no word: how many are left
abbrev pub left : {E : Type 0} → Form E ℕ
left = record {
  takes = λ front rest n. (front ≡ []) × (left_of rest ≡ n);
  refuses = λ f ws e. ⊥;
  read = λ f ws. Ok (left_of ws, ws);
}

-- whether the next word is this one
abbrev pub at : {E : Type 0} → List ℕ → Form E Bool
at word = do
  w ← look
  done (is_next word w)

-- ---- words that are skipped

-- a word of which the test is true is the last of these, and no other is
abbrev pub IsUpTo : (List ℕ → Bool) → List Place → Type 0
IsUpTo last [] = ⊥
IsUpTo last (p ∷ ps) = Which (last p.word) (ps ≡ []) (IsUpTo last ps)

-- the test is false of every word up to the end, behind which this fault stands
abbrev pub NoneUpTo : {E : Type 0} → Faults E → (List ℕ → Bool) → List Lexeme → E → Type 0
NoneUpTo f last [] e = e ≡ f.ended 1
NoneUpTo f last (End line ∷ ws) e = e ≡ f.ended line
NoneUpTo f last (At line first word ∷ ws) e = (last word ≡ false) × NoneUpTo f last ws e

abbrev pub after_first : {E : Type 0} → Faults E → (List ℕ → Bool) → List Lexeme → Read E (Unit {0})
after_first f last [] = Err (f.ended 1)
after_first f last (End line ∷ ws) = Err (f.ended line)
after_first f last (At line first word ∷ ws) = if last word then Ok (tt, ws) else after_first f last ws

-- all words up to the first of which the test is true, and it too
abbrev pub up_to : {E : Type 0} → (List ℕ → Bool) → Form E (Unit {0})
up_to last = record {
  takes = λ words rest a. IsUpTo last words;
  refuses = λ f ws e. NoneUpTo f last ws e;
  read = λ f ws. after_first f last ws;
}

-- all words up to the first that is this one, and it too
abbrev pub up_to_word : {E : Type 0} → List ℕ → Form E (Unit {0})
up_to_word word = up_to (λ w. bytes_eq w word)

-- all words up to the next `;`, and it too
abbrev pub rest : {E : Type 0} → Form E (Unit {0})
rest = up_to_word (codes ";")

-- these words end with this pair, and no earlier two are one
abbrev pub IsUpToPair : List ℕ → List ℕ → List Place → Type 0
IsUpToPair a b [] = ⊥
IsUpToPair a b (p ∷ []) = ⊥
IsUpToPair a b (p ∷ q ∷ ps) = Which (bytes_eq p.word a && bytes_eq q.word b) (ps ≡ []) (IsUpToPair a b (q ∷ ps))

-- no two words up to the end are this pair, and behind the end this fault stands
abbrev pub NoPairUpTo : {E : Type 0} → Faults E → List ℕ → List ℕ → List Lexeme → E → Type 0
NoPairUpTo f a b [] e = e ≡ f.ended 1
NoPairUpTo f a b (End line ∷ ws) e = e ≡ f.ended line
NoPairUpTo f a b (At line first word ∷ ws) e = (bytes_eq word a && is_next b (first_of ws) ≡ false) × NoPairUpTo f a b ws e

-- what is behind the next word
abbrev pub after_one : List Lexeme → List Lexeme
after_one [] = []
after_one (End line ∷ ws) = End line ∷ ws
after_one (At line first word ∷ ws) = ws

abbrev pub after_pair : {E : Type 0} → Faults E → List ℕ → List ℕ → List Lexeme → Read E (Unit {0})
after_pair f a b [] = Err (f.ended 1)
after_pair f a b (End line ∷ ws) = Err (f.ended line)
after_pair f a b (At line first word ∷ ws) = if bytes_eq word a && is_next b (first_of ws) then Ok (tt, after_one ws) else after_pair f a b ws

-- all words up to the first two that are these, and they too
abbrev pub up_to_pair : {E : Type 0} → List ℕ → List ℕ → Form E (Unit {0})
up_to_pair a b = record {
  takes = λ words rest x. IsUpToPair a b words;
  refuses = λ f ws e. NoPairUpTo f a b ws e;
  read = λ f ws. after_pair f a b ws;
}

-- the test is false of these words, and true of the next one if one is left
abbrev pub IsBefore : (List ℕ → Bool) → List Place → List Lexeme → Type 0
IsBefore test [] rest = or_end test (first_of rest) ≡ true
IsBefore test (p ∷ ps) rest = (test p.word ≡ false) × IsBefore test ps rest

abbrev pub from_first : (List ℕ → Bool) → List Lexeme → List Lexeme
from_first test [] = []
from_first test (End line ∷ ws) = End line ∷ ws
from_first test (At line first word ∷ ws) = if test word then At line first word ∷ ws else from_first test ws

-- all words up to the first of which the test is true, which stays, or up to the end
abbrev pub before : {E : Type 0} → (List ℕ → Bool) → Form E (Unit {0})
before test = record {
  takes = λ words rest a. IsBefore test words rest;
  refuses = λ f ws e. ⊥;
  read = λ f ws. Ok (tt, from_first test ws);
}

-- `+` or `;`, which end an option
abbrev pub ends_option : List ℕ → Bool
ends_option word = bytes_eq word (codes "+") || bytes_eq word (codes ";")

-- all words up to the next `+` or `;`, which stays
abbrev pub option_rest : {E : Type 0} → Form E (Unit {0})
option_rest = before ends_option

-- ---- numbers

-- the meaning of a word, with its line in the fault
abbrev pub at_line : {E N A : Type 0} → (ℕ → N → E) → ℕ → Result A N → Result A E
at_line fault line (Ok n) = Ok n
at_line fault line (Err e) = Err (fault line e)

-- one word by its meaning, or the fault of its meaning at its line
abbrev pub meant : {E N A : Type 0} → (ℕ → N → E) → (List ℕ → Result A N) → Form E A
meant fault meaning = one (λ p. at_line fault p.line (meaning p.word))

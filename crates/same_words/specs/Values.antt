-- How the values fit that a form has of two texts.
use Rattle.std.specs.Prelude.{◌≡◌, ℕ, ◌+◌, ◌≤◌, List, [], ◌∷◌, false, Result, Ok, Option, Some, None}
use Rattle.rt_forms.specs.Lexeme.{Place}
use Rattle.rt_forms.specs.Form.{Turn, More, Done}
use Rattle.same_words.specs.Same.{Frame}

-- one value of both
abbrev pub Equal : {A : Type 0} → A → A → Type 0
Equal a b = b ≡ a

-- one word by its bytes, wherever it stands
abbrev pub IsSameWord : Place → Place → Type 0
IsSameWord p q = q.word ≡ p.word

-- turns of both go on, or both end
abbrev pub TurnsBy : {S T : Type 0} → (S → T → Type 0) → Turn S → Turn T → Type 0
TurnsBy R (More s) (More t) = R s t
TurnsBy R (More s) (Done t) = ⊥
TurnsBy R (Done s) (More t) = ⊥
TurnsBy R (Done s) (Done t) = R s t

-- item by item
abbrev pub Pairwise : {A B : Type 0} → (A → B → Type 0) → List A → List B → Type 0
Pairwise R [] [] = Unit {0}
Pairwise R [] (b ∷ others) = ⊥
Pairwise R (a ∷ items) [] = ⊥
Pairwise R (a ∷ items) (b ∷ others) = R a b × Pairwise R items others

-- none of both, or one of each
abbrev pub OptionBy : {A B : Type 0} → (A → B → Type 0) → Option A → Option B → Type 0
OptionBy R None None = Unit {0}
OptionBy R None (Some b) = ⊥
OptionBy R (Some a) None = ⊥
OptionBy R (Some a) (Some b) = R a b

-- where the first test passes, the second does with the same value
pub record Fits {A E : Type 0} (r q : Result A E) : Type 0 where
  pub value : (a : A) → r ≡ Ok a → q ≡ Ok a

-- so many words are left of the first and of the second text
pub record IsLeftMoved (f : Frame) (m n : ℕ) : Type 0 where
  pub moved : n + f.before ≡ m + f.more
  pub from_low : f.low + m ≤ f.total
  pub to_high : f.total ≤ f.high + m

-- where at least one word stands before
abbrev pub behind_one : Frame → Frame
behind_one f = record f { low = f.low + 1 }

-- the same where both texts go on with the same word
abbrev pub strict : Frame → Frame
strict f = record f { lax = false }

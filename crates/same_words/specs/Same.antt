-- Forms that take the same words of two texts, the second of which has further words before them and may have some behind.
use Rattle.std.specs.Prelude.{◌≡◌, ◌⊎◌, ℕ, ◌+◌, ◌≤◌, Bool, true, List, Option, Some, None, codes}
use Rattle.rt_forms.specs.Lexeme.{Lexeme, Place, put, first_of}
use Rattle.rt_forms.specs.Form.{Form}
use Rattle.rt_forms.specs.Reading.{left_of}
use Rattle.written.specs.Cuts.{bytes_of}

-- where words stand: those of the first text have so many in all, and what is looked at lies from low to high; the second text has more words, of which some stand before
pub record Frame : Type 0 where
  pub total : ℕ
  pub low : ℕ
  pub high : ℕ
  pub more : ℕ
  pub before : ℕ
  -- where the second text goes on with `+`, the first one may go on with `;`
  pub lax : Bool

abbrev pub SameFirst : Bool → Option Place → Option Place → Type 0
SameFirst lax None None = Unit {0}
SameFirst lax None (Some q) = ⊥
SameFirst lax (Some p) None = ⊥
SameFirst lax (Some p) (Some q) = (q.word ≡ p.word) ⊎ ((lax ≡ true) × (p.word ≡ codes ";") × (q.word ≡ codes "+"))

-- both texts go on with the same word, and with so many words that those before differ as the frame says
pub record SameRest (f : Frame) (rest rest' : List Lexeme) : Type 0 where
  pub first : SameFirst f.lax (first_of rest) (first_of rest')
  pub left : left_of rest' + f.before ≡ left_of rest + f.more

-- the words before the rest lie in the frame
pub record IsInFrame (f : Frame) (front : List Place) (rest : List Lexeme) : Type 0 where
  pub from_low : f.low + left_of (put front rest) ≤ f.total
  pub to_high : f.total ≤ f.high + left_of rest

-- what the first form takes of the first text, the second takes of the second, with a value that fits
pub record Same {E A B : Type 0} (f : Frame) (R : A → B → Type 0) (F : Form E A) (G : Form E B) : Type 0 where
  pub again : (front front' : List Place) (rest rest' : List Lexeme) (a : A) → bytes_of front' ≡ bytes_of front → IsInFrame f front rest → SameRest f rest rest' → F.takes front rest a → (b : B) × R a b × G.takes front' rest' b

-- the number of a word, counted from 0, in the first and in the second text
pub record IsMoved (f : Frame) (a b : ℕ) : Type 0 where
  pub moved : b ≡ a + f.before
  pub from_low : f.low ≤ a
  pub to_high : a ≤ f.high

-- a range of words in both
abbrev pub IsRangeMoved : Frame → ℕ × ℕ → ℕ × ℕ → Type 0
IsRangeMoved f r q = IsMoved f r.0 q.0 × IsMoved f r.1 q.1

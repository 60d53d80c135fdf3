-- A text as a list of words with their lines, and its end.
use Rattle.std.specs.Prelude.{ℕ, Bool, true, false, List, [], ◌∷◌, length, ◌-◌, Option, Some, None, slice_get, slice_range}
use Rattle.std.specs.Option.{option_map_or}
use Rattle.rt_base.specs.declared.token.Token.{Token}

-- a word with its line and the place of its first byte, or the end behind the last line with a word
pub data Lexeme : Type 0 where
  At : (line first : ℕ) (word : List ℕ) → Lexeme
  End : (line : ℕ) → Lexeme

-- a word, its line and the place of its first byte
pub record Place : Type 0 where
  pub line : ℕ
  pub first : ℕ
  pub word : List ℕ

-- these words before the rest
abbrev pub put : List Place → List Lexeme → List Lexeme
put [] rest = rest
put (p ∷ ps) rest = At p.line p.first p.word ∷ put ps rest

-- no word is left
abbrev pub is_end : List Lexeme → Bool
is_end [] = true
is_end (End line ∷ ws) = true
is_end (At line first word ∷ ws) = false

-- the next word, if one is left
abbrev pub first_of : List Lexeme → Option Place
first_of [] = None
first_of (End line ∷ ws) = None
first_of (At line first word ∷ ws) = Some (record { line = line; first = first; word = word })

-- the tokens of a text as words with their lines
abbrev pub places : List ℕ → List Token → List Place
places text [] = []
places text (t ∷ ts) = record { line = t.line; first = t.first; word = slice_range text t.first t.past } ∷ places text ts

-- the line of the last token, or 1 where there is none
abbrev pub last_line : List Token → ℕ
last_line tokens = option_map_or (λ t. t.line) (slice_get tokens (length tokens - 1)) 1

-- words, and the end behind a last line
abbrev pub ended : List Place → ℕ → List Lexeme
ended words last = put words (End last ∷ [])

-- the words of a text with these tokens, and its end
abbrev pub lexemes : List ℕ → List Token → List Lexeme
lexemes text tokens = ended (places text tokens) (last_line tokens)

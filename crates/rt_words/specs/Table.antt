-- The words of a table, whose rows are filled up with spaces to one length.
use Rattle.std.specs.Prelude.{ℕ, ◌+◌, ◌==◌, ◌≡◌, ◌≢◌, Bool, true, false, not, ◌&&◌, List, [], ◌∷◌, map, bytes_eq, AllPairs, Option, Some, None}
use Rattle.std.specs.List.{before_first, list_any}

-- a row means its bytes before its first space, or all of them where it has none
abbrev pub word_of : List ℕ → List ℕ
word_of row = before_first (λ b. b == 32) row

-- the words that the rows mean
abbrev pub words_of : List (List ℕ) → List (List ℕ)
words_of table = map word_of table

-- no two of these words are the same
abbrev pub AreDistinct : List (List ℕ) → Type 0
AreDistinct words = AllPairs (λ v w. v ≢ w) words

-- the same, computed
abbrev pub are_distinct : List (List ℕ) → Bool
are_distinct [] = true
are_distinct (w ∷ ws) = not (list_any (bytes_eq w) ws) && are_distinct ws

abbrev pub is_row : ℕ → Option ℕ → Bool
is_row k None = false
is_row k (Some n) = n == k

-- The word is compared with each of these words, which stand from row k on: it is the word of the
-- row that was found, and no other one.
abbrev pub Compares : List ℕ → ℕ → List (List ℕ) → Option ℕ → Type 0
Compares word k [] found = Unit {0}
Compares word k (w ∷ ws) found = (bytes_eq word w ≡ is_row k found) × Compares word (k + 1) ws found

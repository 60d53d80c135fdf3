-- A text of LEF, DEF or guides as a list of parts: white space, comments and tokens (LEF/DEF 5.8 language reference, general rules of both files; that `#` opens a comment only where a token could begin, and that a quote ends a token, is this project's choice).
use Rattle.std.specs.Prelude.{◌≡◌, ℕ, ◌+◌, Bool, true, false, ◌==◌, ◌||◌, ◌&&◌, not, nat_lt, if◌then◌else◌, List, [], ◌∷◌, ◌++◌, length, count_by}
use Rattle.std.specs.List.{list_any}
use Rattle.rt_base.specs.declared.token.Token.{Token}

-- space, tab, carriage return and line feed
abbrev pub is_blank : ℕ → Bool
is_blank b = b == 32 || b == 9 || b == 13 || b == 10

abbrev pub is_feed : ℕ → Bool
is_feed b = b == 10

abbrev pub is_quote : ℕ → Bool
is_quote b = b == 34

-- a byte that isn't text: a control byte that is no white space
abbrev pub is_bad : ℕ → Bool
is_bad b = (nat_lt b 32 && not (is_blank b)) || b == 127

-- one byte of white space; a comment, behind its `#`; a quoted token, between its quotes; another token, its first byte and the others
pub data Part : Type 0 where
  Blank : ℕ → Part
  Comment : List ℕ → Part
  Quoted : List ℕ → Part
  Plain : ℕ → List ℕ → Part

-- the bytes of a part
abbrev pub spelled : Part → List ℕ
spelled (Blank b) = b ∷ []
spelled (Comment bs) = 35 ∷ bs
spelled (Quoted bs) = 34 ∷ (bs ++ 34 ∷ [])
spelled (Plain b bs) = b ∷ bs

abbrev pub spelling : List Part → List ℕ
spelling [] = []
spelling (p ∷ ps) = spelled p ++ spelling ps

-- nothing stands here, or first a byte that passes
abbrev pub Begins : (ℕ → Bool) → List ℕ → Type 0
Begins test [] = Unit {0}
Begins test (b ∷ bs) = test b ≡ true

-- a part that may stand before the rest: a comment goes up to the end of its line, a quote up to the next quote, and another token up to the next white space
abbrev pub Fits : Part → List ℕ → Type 0
Fits (Blank b) rest = is_blank b ≡ true
Fits (Comment bs) rest = (list_any is_feed bs ≡ false) × Begins is_feed rest
Fits (Quoted bs) rest = list_any is_quote bs ≡ false
Fits (Plain b bs) rest = (is_blank b ≡ false) × ((b == 35) ≡ false) × ((b == 34) ≡ false) × (list_any is_blank bs ≡ false) × Begins is_blank rest

-- each part fits before the parts that follow it and the rest
abbrev pub AllFit : List Part → List ℕ → Type 0
AllFit [] rest = Unit {0}
AllFit (p ∷ ps) rest = Fits p (spelling ps ++ rest) × AllFit ps rest

abbrev pub is_token : Part → Bool
is_token (Blank b) = false
is_token (Comment bs) = false
is_token (Quoted bs) = true
is_token (Plain b bs) = true

-- the line behind these bytes, counted from 1
abbrev pub line_after : List ℕ → ℕ
line_after before = 1 + count_by is_feed before

-- a token of so many bytes, behind these bytes
abbrev pub token_after : List ℕ → ℕ → Token
token_after before len = record { line = line_after before; first = length before; past = length before + len }

-- the tokens of parts that stand behind these bytes
abbrev pub tokens_after : List ℕ → List Part → List Token
tokens_after before [] = []
tokens_after before (p ∷ ps) =
    if is_token p then token_after before (length (spelled p)) ∷ tokens_after (before ++ spelled p) ps else tokens_after (before ++ spelled p) ps

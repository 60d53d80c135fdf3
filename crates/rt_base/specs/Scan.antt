-- What a text is read as: its tokens, or its first fault. A quote that isn't closed stands where it begins.
use Rattle.std.specs.Prelude.{◌≡◌, ℕ, ◌≤◌, true, false, List, [], ◌∷◌, ◌++◌, length, Option, Some, None, Result, Ok, Err}
use Rattle.std.specs.List.{list_any}
use Rattle.std.specs.Global.{Vec}
use Rattle.rt_base.specs.declared.token.Token.{Token}
use Rattle.rt_base.specs.declared.scan.ScanError.{ScanError}
use Rattle.rt_base.specs.declared.scan.ScanError.TheVariants.{UnclosedQuote, NotText, Memory}
use Rattle.rt_base.specs.Parts.{is_bad, is_quote, Part, spelling, AllFit, line_after, tokens_after}

-- each byte is text
abbrev pub IsText : List ℕ → Type 0
IsText bytes = list_any is_bad bytes ≡ false

-- a text is made of parts with these tokens
pub record IsMadeOf (text : List ℕ) (tokens : List Token) : Type 0 where
  pub parts : List Part
  pub whole : spelling parts ≡ text
  pub fit : AllFit parts []
  pub same : tokens ≡ tokens_after [] parts

-- a quote that isn't closed begins behind these bytes of a text
pub record OpensAfter (text before : List ℕ) : Type 0 where
  pub parts : List Part
  pub within : List ℕ
  pub spelled : before ≡ spelling parts
  pub fit : AllFit parts (34 ∷ within)
  pub unclosed : list_any is_quote within ≡ false
  pub whole : before ++ 34 ∷ within ≡ text

-- a byte that isn't text stands behind these bytes of a text
pub record IsBadAfter (text before : List ℕ) : Type 0 where
  pub byte : ℕ
  pub rest : List ℕ
  pub bad : is_bad byte ≡ true
  pub whole : before ++ byte ∷ rest ≡ text

-- a text is cut into these tokens, and has no byte that isn't text
pub record IsCutInto (text : List ℕ) (tokens : List Token) : Type 0 where
  pub made : IsMadeOf text tokens
  pub text_only : IsText text

-- the first fault of a text is a quote that isn't closed, and that begins on this line
pub record IsFirstUnclosed (text : List ℕ) (line : ℕ) : Type 0 where
  pub before : List ℕ
  pub opens : OpensAfter text before
  pub text_before : IsText before
  pub on : line ≡ line_after before

-- the first fault of a text is a byte that isn't text, on this line
pub record IsFirstNotText (text : List ℕ) (line : ℕ) : Type 0 where
  pub before : List ℕ
  pub bad : IsBadAfter text before
  pub text_before : IsText before
  pub closed_before : (earlier : List ℕ) → OpensAfter text earlier → length before ≤ length earlier
  pub on : line ≡ line_after before

-- what a text is read as
abbrev pub Reads : List ℕ → Result (List Token) ScanError → Type 0
Reads text (Ok tokens) = IsCutInto text tokens
Reads text (Err (UnclosedQuote line)) = IsFirstUnclosed text line
Reads text (Err (NotText line)) = IsFirstNotText text line
Reads text (Err Memory) = ⊥

-- the answer of a scan that memory sufficed for
abbrev pub answer_of : Result (Vec Token) ScanError → Option (Result (List Token) ScanError)
answer_of (Ok v) = Some (Ok v.items)
answer_of (Err Memory) = None
answer_of (Err (UnclosedQuote line)) = Some (Err (UnclosedQuote line))
answer_of (Err (NotText line)) = Some (Err (NotText line))

-- One part of a text after the other.
use Rattle.std.specs.Prelude.{◌≡◌, ℕ, false, List, ◌++◌, length, count_by}
use Rattle.std.specs.List.{list_any}
use Rattle.rt_base.specs.declared.split.Piece.{Piece}
use Rattle.rt_base.specs.declared.split.SplitError.{SplitError}
use Rattle.rt_base.specs.declared.split.SplitError.TheVariants.{Unclosed, Memory}
use Rattle.rt_base.specs.Parts.{is_feed, is_quote, Part, spelled, Fits, is_token, line_after}
use Rattle.rt_base.specs.Scan.{OpensAfter}

-- the first bytes are a part of this length, with so many line feeds
pub record IsPart (bytes : List ℕ) (piece : Piece) : Type 0 where
  pub part : Part
  pub rest : List ℕ
  pub whole : spelled part ++ rest ≡ bytes
  pub fits : Fits part rest
  pub len : piece.len ≡ length (spelled part)
  pub feeds : piece.feeds ≡ count_by is_feed (spelled part)
  pub token : piece.is_token ≡ is_token part

-- bytes that begin with a quote that isn't closed
pub record IsUnclosed (byte : ℕ) (bytes : List ℕ) : Type 0 where
  pub quote : byte ≡ 34
  pub unclosed : list_any is_quote bytes ≡ false

-- where the tokens end at a quote that isn't closed, unless memory ran out
abbrev pub IsSplitFault : List ℕ → SplitError → Type 0
IsSplitFault text Memory = Unit {0}
IsSplitFault text (Unclosed at line) = (before : List ℕ) × OpensAfter text before × (at ≡ length before) × (line ≡ line_after before)

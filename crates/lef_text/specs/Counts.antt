-- How much was read: no more of anything than words, of which a text has fewer than 2 ^ 32.
use Rattle.std.specs.Prelude.{ℕ, ◌+◌, ◌≤◌, ◌^◌, List, [], ◌∷◌, length, All}
use Rattle.rt_forms.specs.Lexeme.{Lexeme}
use Rattle.lef_text.specs.declared.lef.Macro.{Macro}
use Rattle.lef_text.specs.declared.library.Library.{Library}

-- at most so many of each kind
pub record HasFew (n : ℕ) (lib : Library) : Type 0 where
  pub layers : length lib.layers ≤ n
  pub vias : length lib.vias ≤ n
  pub macros : length lib.macros ≤ n
  pub pins : All (λ (m : Macro). length m.pins ≤ n) lib.macros
  pub sections : lib.sections ≤ n

-- the words before these are at least as many as there are of anything, and with these at most 2 ^ 32
pub record HasRoom (lib : Library) (words : List Lexeme) : Type 0 where
  pub before : ℕ
  pub few : HasFew before lib
  pub room : before + length words ≤ 2 ^ 32

-- the sum of the counts of layers
unfoldable pub total_skipped : List (List ℕ × ℕ) → ℕ
total_skipped [] = 0
total_skipped (s ∷ rest) = s.1 + total_skipped rest

-- as many as were counted, and the words that are left
abbrev pub skips : Library → List Lexeme → ℕ
skips lib words = total_skipped lib.skipped + length words

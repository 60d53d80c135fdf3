-- Names of LEF, DEF and guides (LEF/DEF 5.8 language reference, general rules of both files).
use Rattle.std.specs.Prelude.{◌≡◌, ℕ, List, [], ◌∷◌, Bool, false, ◌==◌, ◌||◌, bytes_eq, codes}
use Rattle.std.specs.List.{list_any}
use Rattle.rt_base.specs.Parts.{is_blank, is_bad}

-- bytes that stand in a text as one token that isn't quoted
abbrev pub IsPlainWord : List ℕ → Type 0
IsPlainWord [] = ⊥
IsPlainWord (b ∷ bs) = ((b == 35) ≡ false) × ((b == 34) ≡ false) × (list_any is_blank (b ∷ bs) ≡ false) × (list_any is_bad (b ∷ bs) ≡ false)

-- one of the signs, which can't be names
abbrev pub is_sign : List ℕ → Bool
is_sign word = bytes_eq word (codes ";") || bytes_eq word (codes "+") || bytes_eq word (codes "-") || bytes_eq word (codes "(") || bytes_eq word (codes ")") || bytes_eq word (codes "*")

-- a token that isn't quoted and is no sign
pub record IsName (word : List ℕ) : Type 0 where
  pub plain : IsPlainWord word
  pub no_sign : is_sign word ≡ false

-- Plain decimal, said by what is read back rather than by how it is printed. The words `decimal` and
-- `signed_decimal` of std, which the contracts cite, are tied to it in `proofs/Decimals.antt`.
use Rattle.std.specs.Prelude.{◌≡◌, ℕ, ◌<◌, ℤ, pos, negsuc, suc, List, ◌∷◌, length, slice_index}
use Rattle.std.specs.Str.Parse.{AllDigits, digits_value}

-- at least one digit, no leading zero but in `0` itself, and the value n
pub record IsPlainNatural (n : ℕ) (ds : List ℕ) : Type 0 where
  pub digits : AllDigits 10 ds
  pub some : 0 < length ds
  pub no_leading_zero : slice_index ds 0 ≡ 48 → length ds ≡ 1
  pub value : digits_value 10 ds ≡ n

-- a natural number, or `-` and the digits of one above 0
abbrev pub IsPlainInteger : ℤ → List ℕ → Type 0
IsPlainInteger (pos n) bs = IsPlainNatural n bs
IsPlainInteger (negsuc n) bs = (ds : List ℕ) × (bs ≡ 45 ∷ ds) × IsPlainNatural (suc n) ds

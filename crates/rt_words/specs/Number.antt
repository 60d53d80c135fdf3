-- Numbers of LEF, DEF and guide texts: an optional sign, digits, and perhaps a point and further digits. LEF writes
-- lengths in microns with a point, DEF in whole database units (LEF/DEF 5.8 Language Reference, UNITS of both).
use Rattle.std.specs.Prelude.{ℕ, ◌≡◌, ◌*◌, ◌^◌, ◌%◌, ◌/◌, Bool, true, false, not, nat_lt, ◌==◌, List, [], ◌++◌, length, Option, Some, None, if◌then◌else◌, Result, Ok, Err, ℤ, pos, neg_ℤ, codes}
use Rattle.std.specs.Str.Parse.{IsNumeral, digits_value}
use Rattle.rt_words.specs.declared.number.NumberFault.{NumberFault}
use Rattle.rt_words.specs.declared.number.NumberFault.TheVariants.{TooManyDecimals, TooLarge, NotWhole}

pub data Sign : Type 0 where
  Unsigned : Sign
  Plus : Sign
  Minus : Sign

-- the digits before the point, and those behind it, where there is a point
pub record Numeral : Type 0 where
  pub sign : Sign
  pub whole : List ℕ
  pub behind_point : Option (List ℕ)

abbrev pub sign_text : Sign → List ℕ
sign_text Unsigned = []
sign_text Plus = codes "+"
sign_text Minus = codes "-"

abbrev pub point_text : Option (List ℕ) → List ℕ
point_text None = []
point_text (Some digits) = codes "." ++ digits

abbrev pub decimals : Option (List ℕ) → List ℕ
decimals None = []
decimals (Some digits) = digits

-- the word is this numeral's text; there is a digit, before the point or behind it
pub record Writes (word : List ℕ) (n : Numeral) : Type 0 where
  pub text : word ≡ sign_text n.sign ++ n.whole ++ point_text n.behind_point
  pub digits : IsNumeral 10 (n.whole ++ decimals n.behind_point)

-- and it has no point
pub record WritesInteger (word : List ℕ) (n : Numeral) : Type 0 where
  pub numeral : Writes word n
  pub no_point : n.behind_point ≡ None

abbrev pub is_minus : Sign → Bool
is_minus Minus = true
is_minus _ = false

abbrev pub signed : Bool → ℕ → ℤ
signed negative n = if negative then neg_ℤ (pos n) else pos n

abbrev pub with_sign : Bool → Result ℕ NumberFault → Result ℤ NumberFault
with_sign negative (Ok n) = Ok (signed negative n)
with_sign negative (Err fault) = Err fault

-- units over unit, where it is at most 2 ^ 30 and whole
abbrev pub quotient : ℕ → ℕ → Result ℕ NumberFault
quotient units unit =
    if nat_lt (2 ^ 30 * unit) units then Err TooLarge
    else if not (units % unit == 0) then Err NotWhole
    else Ok (units / unit)

-- the number that these digits before and behind a point write, times the scale
abbrev pub amount : Bool → List ℕ → List ℕ → ℕ → Result ℤ NumberFault
amount negative whole fraction scale =
    if nat_lt 6 (length fraction) then Err TooManyDecimals
    else with_sign negative (quotient (digits_value 10 (whole ++ fraction) * scale) (10 ^ length fraction))

abbrev pub amount_of : Numeral → ℕ → Result ℤ NumberFault
amount_of n scale = amount (is_minus n.sign) n.whole (decimals n.behind_point) scale

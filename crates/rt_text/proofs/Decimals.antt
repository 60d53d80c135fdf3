-- Printed numbers are plain decimal, and plain decimal of a number is what is printed.
use Rattle.std.proofs.Common.{◌≡◌, ◌∙◌, false, sym, All, ℕ, ◌<◌, ◌^◌, ℤ, pos, negsuc, suc, zero, List, [], ◌∷◌, ◌++◌, ◌+◌, ◌/◌, ◌%◌, ◌≤◌, length, length-append, get_or, ap, refl, subst, arith}
use Rattle.std.specs.Prelude.{slice_index}
use Rattle.std.specs.Fmt.{decimal, signed_decimal}
use Rattle.std.specs.Str.Parse.{AllDigits, digits_value, signed_digits_value, starts_with_minus}
use Rattle.std.specs.Int.{IsInRange}
use lib.Signed.{mag}
use Rattle.std.proofs.Math.IntN.{neg_ℤ}
use Rattle.std.proofs.lemmas.Fmt.{decimal_is_IsNumeral, decimal_is_IsNumeral_wide, decimal_by_steps_wide, decimal_digit, decimal-digits_value}
use Rattle.std.proofs.Math.ListN.{get_or-append}
use Rattle.std.proofs.lemmas.Str.Parse.{IsNumeralModel, numerals_by_value, tells_digits, digit_at, without_leading_plus_none}
use Rattle.std.proofs.lemmas.List.Elements.{All-from_get_or}
use Rattle.rt_text.specs.Decimal.{IsPlainNatural, IsPlainInteger}

model : IsNumeralModel (AllDigits 10) (digits_value 10)
model = numerals_by_value _ tells_digits

-- there is a first digit, and it is 0 for 0 alone
abbrev IsLed : ℕ → List ℕ → Type 0
IsLed n ds = (0 < length ds) × (0 < n → 48 < get_or ds 0 0)

led_more : (n : ℕ) (ds : List ℕ) → 10 ≤ n → IsLed (n / 10) ds → IsLed n (ds ++ (48 + n % 10) ∷ [])
led_more n ds many h =
    let last : List ℕ = (48 + n % 10) ∷ [] in
    (omega (arith, length-append ds last, h.0), λ some. omega (arith, get_or-append ds last 0 0 h.0, h.1 (omega arith)))

first_digit : (n : ℕ) → n < 10 ^ 64 → IsLed n (decimal n)
first_digit = decimal_by_steps_wide IsLed (λ n few. (omega arith, λ some. omega arith)) led_more

no_leading_zero : (n : ℕ) → n < 10 ^ 64 → slice_index (decimal n) 0 ≡ 48 → length (decimal n) ≡ 1
no_leading_zero zero small h = ap length (decimal_digit 0 (omega arith))
no_leading_zero (suc n) small h =
    let above : 48 < get_or (decimal (suc n)) 0 0 = (first_digit (suc n) small).1 (omega arith) in
    absurd (omega (arith, above, h))

pub wide_decimal_is_plain : (n : ℕ) → n < 2 ^ 128 → IsPlainNatural n (decimal n)
wide_decimal_is_plain n below =
    let small : n < 10 ^ 64 = omega (arith, below) in
    let read = decimal_is_IsNumeral_wide n small in
    record {
      digits = read.0.1;
      some = read.0.0;
      no_leading_zero = no_leading_zero n small;
      value = read.1;
    }

pub decimal_is_plain : (n : ℕ) → n < 2 ^ 64 → IsPlainNatural n (decimal n)
decimal_is_plain n small = wide_decimal_is_plain n (omega (arith, small))

pub plain_is_decimal : (n : ℕ) (ds : List ℕ) → n < 2 ^ 64 → IsPlainNatural n ds → decimal n ≡ ds
plain_is_decimal n ds small p =
    subst (λ m. decimal m ≡ ds) p.value
    (decimal-digits_value model ds p.digits p.some p.no_leading_zero (rw p.value small))

pub signed_decimal_is_plain : (z : ℤ) → mag z < 2 ^ 63 → IsPlainInteger z (signed_decimal z)
signed_decimal_is_plain (pos n) small = decimal_is_plain n (omega (arith, small))
signed_decimal_is_plain (negsuc n) small =
    (decimal (suc n), refl, decimal_is_plain (suc n) (omega (arith, small)))

pub plain_is_signed_decimal : (z : ℤ) (bs : List ℕ) → mag z < 2 ^ 63 → IsPlainInteger z bs → signed_decimal z ≡ bs
plain_is_signed_decimal (pos n) bs small p = plain_is_decimal n bs (omega (arith, small)) p
plain_is_signed_decimal (negsuc n) bs small p =
    ap (λ ds. 45 ∷ ds) (plain_is_decimal (suc n) p.0 (omega (arith, small)) p.2) ∙ sym p.1

-- each byte is a digit, so no space, line feed, sign or bracket
pub All-decimal : (n : ℕ) → n < 2 ^ 64 → All (IsInRange 48 57) (decimal n)
All-decimal n small =
    All-from_get_or (IsInRange 48 57) (decimal n) 0
    (λ i within. digit_at (decimal n) i (decimal_is_IsNumeral n small).0.1 within)

pub signed_digits_value-signed_decimal : (z : ℤ) → mag z < 2 ^ 63 → signed_digits_value 10 (signed_decimal z) ≡ z
signed_digits_value-signed_decimal (pos n) small =
    let fits : n < 2 ^ 64 = omega (arith, small) in
    let read = decimal_is_IsNumeral n fits in
    let first : IsInRange 48 57 (get_or (decimal n) 0 0) = digit_at (decimal n) 0 read.0.1 read.0.0 in
    let minus : starts_with_minus (decimal n) ≡ false = grind (arith, first) in
    rw (minus, without_leading_plus_none (decimal n) (λ e. omega (arith, first, e)), read.1) refl
signed_digits_value-signed_decimal (negsuc n) small =
    ap (λ m. neg_ℤ (pos m)) (decimal_is_IsNumeral (suc n) (omega (arith, small))).1

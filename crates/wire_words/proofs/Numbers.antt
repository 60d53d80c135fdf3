-- A printed number is read as the number that it prints, and is none of the words that begin otherwise.
use Rattle.std.proofs.Common.{◌≡◌, ◌∙◌, ℕ, suc, ◌*◌, ◌/◌, ◌%◌, ◌^◌, ◌<◌, ◌≤◌, ℤ, pos, negsuc, false, List, [], ◌∷◌, ◌++◌, get_or, Ok, None, bytes_eq, refl, sym, ap, ◌⊎◌, inl, inr, arith, append-nil, ltb}
use Rattle.std.specs.Prelude.{codes}
use Rattle.std.specs.Fmt.{decimal, signed_decimal}
use Rattle.std.specs.Int.{IsInRange}
use Rattle.std.specs.Str.Parse.{IsNumeral}
use Rattle.std.proofs.lemmas.Fmt.{decimal_is_IsNumeral}
use Rattle.std.proofs.lemmas.Str.Parse.{digit_at}
use Rattle.std.proofs.lemmas.Bool.{le-ltb}
use Rattle.rt_base.specs.Ranges.{IsWithin}
use Rattle.rt_words.specs.Number.{Sign, Unsigned, Minus, Numeral, WritesInteger, quotient, with_sign, amount_of, is_minus}
use Rattle.rt_words.specs.Reading.{integer_of}
use Rattle.rt_words.proofs.Numerals.{integer_is}
use Rattle.rt_words.proofs.Words.{unequal}

whole_units : (n : ℕ) → n ≤ 2 ^ 30 → quotient (n * 1) 1 ≡ Ok n
whole_units n small =
    let few : ltb (2 ^ 30 * 1) (n * 1) ≡ false = le-ltb _ _ (omega arith) in
    let whole : n * 1 % 1 ≡ 0 = omega arith in
    let units : n * 1 / 1 ≡ n = omega arith in
    rw (few, whole, units) refl

abbrev numeral : Sign → ℕ → Numeral
numeral sign n = record { sign = sign; whole = decimal n; behind_point = None }

amount_is : (sign : Sign) (n : ℕ) → n ≤ 2 ^ 30 → amount_of (numeral sign n) 1 ≡ with_sign (is_minus sign) (Ok n)
amount_is sign n small =
    let value = (decimal_is_IsNumeral n (omega arith)).1 in
    let same : decimal n ++ [] ≡ decimal n = append-nil (decimal n) in
    rw (same, value, whole_units n small) refl

decimal_numeral : (n : ℕ) → n ≤ 2 ^ 30 → IsNumeral 10 (decimal n ++ [])
decimal_numeral n small = rw (append-nil (decimal n)) (decimal_is_IsNumeral n (omega arith)).0

plain_writes : (n : ℕ) → n ≤ 2 ^ 30 → WritesInteger (decimal n) (numeral Unsigned n)
plain_writes n small = record {
  numeral = record { text = sym (append-nil (decimal n)); digits = decimal_numeral n small };
  no_point = refl;
}

minus_writes : (n : ℕ) → n ≤ 2 ^ 30 → WritesInteger (45 ∷ decimal n) (numeral Minus n)
minus_writes n small = record {
  numeral = record { text = ap (λ (ds : List ℕ). 45 ∷ ds) (sym (append-nil (decimal n))); digits = decimal_numeral n small };
  no_point = refl;
}

pub integer_read : (z : ℤ) → IsWithin (2 ^ 30) z → integer_of (signed_decimal z) ≡ Ok z
integer_read (pos n) near = integer_is (decimal n) (numeral Unsigned n) (plain_writes n near) ∙ amount_is Unsigned n near
integer_read (negsuc n) near = integer_is (45 ∷ decimal (suc n)) (numeral Minus (suc n)) (minus_writes (suc n) near) ∙ amount_is Minus (suc n) near

-- ---- what a printed number begins with

first_digit : (n : ℕ) → n ≤ 2 ^ 30 → IsInRange 48 57 (get_or (decimal n) 0 0)
first_digit n small =
    let read = (decimal_is_IsNumeral n (omega arith)).0 in
    digit_at (decimal n) 0 read.1 read.0

-- a word that begins with no digit and no `-`
pub not_number : (z : ℤ) (c : ℕ) (cs : List ℕ) → IsWithin (2 ^ 30) z → (c < 45) ⊎ (57 < c) → bytes_eq (signed_decimal z) (c ∷ cs) ≡ false
not_number (pos n) c cs near other = unequal (decimal n) (c ∷ cs) (λ e.
    let first : get_or (decimal n) 0 0 ≡ c = ap (λ (w : List ℕ). get_or w 0 0) e in
    let digit = first_digit n near in
    omega (arith, digit.0, digit.1, other))
not_number (negsuc n) c cs near other = unequal (45 ∷ decimal (suc n)) (c ∷ cs) (λ e.
    let first : 45 ≡ c = ap (λ (w : List ℕ). get_or w 0 0) e in
    omega (arith, other))

pub not_star : (z : ℤ) → IsWithin (2 ^ 30) z → bytes_eq (signed_decimal z) (codes "*") ≡ false
not_star z near = not_number z _ _ near (inl (omega arith))

pub not_plus : (z : ℤ) → IsWithin (2 ^ 30) z → bytes_eq (signed_decimal z) (codes "+") ≡ false
not_plus z near = not_number z _ _ near (inl (omega arith))

pub not_semicolon : (z : ℤ) → IsWithin (2 ^ 30) z → bytes_eq (signed_decimal z) (codes ";") ≡ false
not_semicolon z near = not_number z _ _ near (inr (omega arith))

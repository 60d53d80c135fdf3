use Rattle.std.proofs.Common.{◌≡◌, ℕ, ◌^◌, Result, Err, inl, inr, zero, suc, ◌+◌, ◌-◌, ◌*◌, ◌<◌, ◌≤◌, Bool, true, false, List, [], ◌∷◌, ◌++◌, length, get_or, take, min, refl, sym, ap, ◌∙◌, arith, ltb}
use Rattle.std.specs.Prelude.{nat_le, ◌&&◌}
use Rattle.std.specs.List.{list_all}
use Rattle.std.specs.Str.Parse.{digits_value, digits_value_after, AllDigits}
use Rattle.std.specs.Char.{digit_value}
use Rattle.std.proofs.lemmas.Int.Digits.{digits_value_more, digits_value-lt}
use Rattle.std.proofs.lemmas.Str.{digit_value_digit}
use Rattle.std.proofs.lemmas.Bool.{and_parts, leb-true, cases_lt, lt-ltb, le-ltb}
use Rattle.std.proofs.Math.Nat.{mul-le-mul_left, pow-le-pow_right, one-le-pow, pow-suc}
use Rattle.rt_words.specs.declared.number.NumberFault.{NumberFault}
use Rattle.rt_words.specs.declared.number.NumberFault.TheVariants.{TooLarge}
use Rattle.rt_words.specs.Number.{quotient, with_sign}
use Rattle.rt_words.specs.Reading.{is_digit, are_digits, parts_of}

pub in_range : (bs : List ℕ) (i : ℕ) → list_all is_digit bs ≡ true → i < length bs → (48 ≤ get_or bs i 0) × (get_or bs i 0 ≤ 57)
in_range [] i all lt = absurd (omega arith)
in_range (b ∷ bs) zero all lt =
    let p = and_parts (is_digit b) (list_all is_digit bs) all in
    let q = and_parts (nat_le 48 b) (nat_le b 57) p.0 in
    (leb-true _ _ q.0, leb-true _ _ q.1)
in_range (b ∷ bs) (suc i) all lt = in_range bs i (and_parts (is_digit b) (list_all is_digit bs) all).1 (omega arith)

pub all_digits : (bs : List ℕ) → list_all is_digit bs ≡ true → AllDigits 10 bs
all_digits [] all = tt
all_digits (b ∷ bs) all =
    let p = and_parts (is_digit b) (list_all is_digit bs) all in
    let q = and_parts (nat_le 48 b) (nat_le b 57) p.0 in
    let low : 48 ≤ b = leb-true _ _ q.0 in
    let high : b ≤ 57 = leb-true _ _ q.1 in
    let v = digit_value_digit b (low, high) in
    (omega arith, all_digits bs p.1)

pub next_value : (bs : List ℕ) (i n : ℕ) → list_all is_digit bs ≡ true → i < length bs → n ≡ min (digits_value 10 (take i bs)) 2147483648 → min (n * 10 + (get_or bs i 0 - 48)) 2147483648 ≡ min (digits_value 10 (take (i + 1) bs)) 2147483648
next_value bs i n all lt so_far =
    let r = in_range bs i all lt in
    let low : 48 ≤ get_or bs i 0 = r.0 in
    let v = digit_value_digit (get_or bs i 0) r in
    let more = digits_value_more 10 bs i lt in
    omega arith

-- digits that follow others

after_is : (n : ℕ) (ds : List ℕ) → digits_value_after 10 n ds ≡ n * 10 ^ length ds + digits_value 10 ds
after_is n [] = omega arith
after_is n (d ∷ ds) =
    let one = after_is (n * 10 + digit_value d) ds in
    let two = after_is (0 * 10 + digit_value d) ds in
    omega (arith, ap (λ (x : ℕ). n * x) (pow-suc 10 (length ds)))

after-append : (n : ℕ) (xs ys : List ℕ) → digits_value_after 10 n (xs ++ ys) ≡ digits_value_after 10 (digits_value_after 10 n xs) ys
after-append n [] ys = refl
after-append n (x ∷ xs) ys = after-append (n * 10 + digit_value x) xs ys

pub digits_value-append : (xs ys : List ℕ) → digits_value 10 (xs ++ ys) ≡ digits_value 10 xs * 10 ^ length ys + digits_value 10 ys
digits_value-append xs ys = after-append 0 xs ys ∙ after_is (digits_value 10 xs) ys

-- a number that is cut off at a cap above the largest one

too_large : (w f u s : ℕ) → 2147483648 ≤ w → 0 < u → 0 < s → quotient ((w * u + f) * s) u ≡ Err TooLarge
too_large w f u s big some scale =
    let one : w * u + f ≤ (w * u + f) * s = omega (arith, mul-le-mul_left (w * u + f) scale) in
    let two : 2147483648 * u ≤ w * u = omega (arith, mul-le-mul_left u big) in
    let lt : 2 ^ 30 * u < (w * u + f) * s = omega arith in
    rw (lt-ltb _ _ lt) refl

quotient_capped_at : (w f u s : ℕ) → 0 < u → 0 < s → quotient ((min w 2147483648 * u + f) * s) u ≡ quotient ((w * u + f) * s) u
quotient_capped_at w f u s some scale =
    elim (cases_lt w 2147483648) [
      | inl lt ↦ let e : min w 2147483648 ≡ w = omega arith in ap (λ (k : ℕ). quotient ((k * u + f) * s) u) e
      | inr le ↦ let e : min w 2147483648 ≡ 2147483648 = omega arith in
          ap (λ (k : ℕ). quotient ((k * u + f) * s) u) e ∙ too_large 2147483648 f u s (omega arith) some scale ∙ sym (too_large w f u s le some scale)
    ]

pub quotient_capped : (w f u s : ℕ) → 0 < u → quotient ((min w 2147483648 * u + f) * s) u ≡ quotient ((w * u + f) * s) u
quotient_capped w f u zero some =
    let left : (min w 2147483648 * u + f) * 0 ≡ 0 = omega arith in
    let right : (w * u + f) * 0 ≡ 0 = omega arith in
    ap (λ (k : ℕ). quotient k u) (left ∙ sym right)
quotient_capped w f u (suc s) some = quotient_capped_at w f u (suc s) some (omega arith)

pub fraction_small : (bs : List ℕ) → list_all is_digit bs ≡ true → length bs ≤ 6 → min (digits_value 10 bs) 2147483648 ≡ digits_value 10 bs
fraction_small bs all le =
    let v = digits_value-lt 10 bs (all_digits bs all) in
    let p : 10 ^ length bs ≤ 10 ^ 6 = pow-le-pow_right {n = 10} (omega arith) le in
    omega arith

pub are_parts : (whole fraction : List ℕ) → are_digits whole fraction ≡ true → (list_all is_digit whole ≡ true) × (list_all is_digit fraction ≡ true)
are_parts whole fraction h =
    let p = and_parts (list_all is_digit whole && list_all is_digit fraction) _ h in
    and_parts (list_all is_digit whole) (list_all is_digit fraction) p.0

pub parts_are : (negative : Bool) (whole fraction : List ℕ) (scale : ℕ) (r : Result ℕ NumberFault) → are_digits whole fraction ≡ true → length fraction ≤ 6
    → r ≡ quotient ((min (digits_value 10 whole) 2147483648 * 10 ^ length fraction + min (digits_value 10 fraction) 2147483648) * scale) (10 ^ length fraction) → with_sign negative r ≡ parts_of negative whole fraction scale
unfolding parts_of
parts_are negative whole fraction scale r digits short e =
    let p = are_parts whole fraction digits in
    let small = fraction_small fraction p.1 short in
    let unit : 0 < 10 ^ length fraction = omega (arith, one-le-pow (length fraction) 10 (omega arith)) in
    let f : ltb 6 (length fraction) ≡ false = le-ltb _ _ short in
    rw (digits, f, e, small, quotient_capped (digits_value 10 whole) (digits_value 10 fraction) (10 ^ length fraction) scale unit, sym (digits_value-append whole fraction)) refl

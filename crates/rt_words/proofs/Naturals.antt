use Rattle.std.proofs.Common.{◌≡◌, ℕ, ◌^◌, Result, Ok, Err, inl, inr, zero, suc, ◌<◌, ◌≤◌, true, false, not, List, [], ◌∷◌, length, get_or, refl, sym, ap, ◌∙◌, arith, Option, Some, None}
use Rattle.std.specs.Prelude.{◌||◌, ◌==◌}
use Rattle.std.specs.List.{list_all}
use Rattle.std.specs.Fmt.{decimal}
use Rattle.std.specs.Result.{result_ok}
use Rattle.std.specs.Str.Parse.{digits_value, ParsesUnsigned, without_leading_plus}
use Rattle.std.proofs.lemmas.Str.Parse.{IsDigitsTest, IsNumeralModel, numerals_by_value}
use Rattle.std.proofs.lemmas.Fmt.{decimal-digits_value, digits_value-decimal, digits_decimal, decimal_nonempty, first_decimal, decimal_digit}
use Rattle.std.proofs.lemmas.Bool.{and_parts, and_from, or_cases, cases_Bool, cases_lt, ne_eqb, eqb-true, eqb-false, eq-eqb, lt-ltb, le-ltb, not-true}
use Rattle.rt_words.specs.Reading.{is_digit, is_plain, below_2_64, natural_of}
use Rattle.rt_words.proofs.Digits.{all_digits}
use Rattle.rt_words.proofs.Numerals.{digit_range, in_digit_range}

abbrev AreDigits : List ℕ → Type 0
AreDigits ds = list_all is_digit ds ≡ true

tells : IsDigitsTest AreDigits
tells = record {
  empty = refl;
  parts = λ c cs h. let p = and_parts (is_digit c) (list_all is_digit cs) h in (digit_range c p.0, p.1);
  more = λ c cs r h. and_from (is_digit c) (list_all is_digit cs) (in_digit_range c r) h;
}

own : IsNumeralModel AreDigits (digits_value 10)
own = numerals_by_value AreDigits tells

-- a text of digits, parsed

no_plus : (ds : List ℕ) → AreDigits ds → without_leading_plus ds ≡ ds
no_plus [] all = refl
no_plus (d ∷ ds) all =
    let r = digit_range d (and_parts (is_digit d) (list_all is_digit ds) all).0 in
    let low : 48 ≤ d = r.0 in
    let plus : (d == 43) ≡ false = ne_eqb d 43 (λ e. omega arith) in
    rw plus refl

below : (n : ℕ) → n < 2 ^ 64 → below_2_64 n ≡ Some n
below n lt = rw (lt-ltb n (2 ^ 64) lt) refl

pub parsed_is : {E : Type 0} (ds : List ℕ) (r : Result ℕ E) → ParsesUnsigned 64 10 ds r → AreDigits ds → 0 < length ds → result_ok r ≡ below_2_64 (digits_value 10 ds)
parsed_is ds (Ok x) h all some =
    let e = no_plus ds all in
    let f = rw e at h in
    ap (λ (n : ℕ). Some n) f.1 ∙ sym (below (digits_value 10 ds) f.0.1)
parsed_is ds (Err fault) h all some =
    let e = no_plus ds all in
    let f = rw e at h in
    elim (cases_lt (digits_value 10 ds) (2 ^ 64)) [
      | inl lt ↦ absurd (f ((some, all_digits ds all), lt))
      | inr le ↦ rw (le-ltb (digits_value 10 ds) (2 ^ 64) le) refl
    ]

-- a number and its printed form

plain : (ds : List ℕ) → AreDigits ds → 0 < length ds → (get_or ds 0 0 ≡ 48 → length ds ≡ 1) → is_plain ds ≡ true
plain [] all some first = absurd (omega arith)
plain (d ∷ ds) all some first =
    elim (cases_Bool (d == 48)) [
      | inl hit ↦ let one = first (eqb-true d 48 hit) in let none : (length ds == 0) ≡ true = eq-eqb _ 0 (omega arith) in rw (all, hit, none) refl
      | inr miss ↦ rw (all, miss) refl
    ]

plain_parts : (ds : List ℕ) → is_plain ds ≡ true → AreDigits ds × (0 < length ds) × (get_or ds 0 0 ≡ 48 → length ds ≡ 1)
plain_parts [] e = absurd (cc)
plain_parts (d ∷ ds) e =
    let p = and_parts (list_all is_digit (d ∷ ds)) (not (d == 48) || length ds == 0) e in (
      p.0,
      omega arith,
      λ zero_first. elim (or_cases (not (d == 48)) (length ds == 0) p.1) [
        | inl other ↦ absurd (eqb-false d 48 (not-true _ other) zero_first)
        | inr alone ↦ let none = eqb-true (length ds) 0 alone in omega arith
      ],
    )

plain_decimal : (n : ℕ) → n < 2 ^ 64 → is_plain (decimal n) ≡ true
plain_decimal zero lt = rw (decimal_digit 0 (omega arith)) refl
plain_decimal (suc n) lt =
    let first = first_decimal (suc n) (omega arith) lt in
    plain (decimal (suc n)) (digits_decimal own (suc n) lt) (decimal_nonempty (suc n) lt) (λ e. absurd (omega arith))

pub printed_natural : (n : ℕ) → n < 2 ^ 64 → natural_of (decimal n) ≡ Some n
unfolding natural_of
printed_natural n lt = rw (plain_decimal n lt, digits_value-decimal own n lt) (below n lt)

abbrev some : ℕ → Option ℕ
some n = Some n

abbrev none : Option ℕ
none = None

pub natural_printed : (word : List ℕ) (n : ℕ) → natural_of word ≡ Some n → (n < 2 ^ 64) × (word ≡ decimal n)
unfolding natural_of
natural_printed word n e =
    elim (cases_Bool (is_plain word)) [
      | inl hit ↦
          let p = plain_parts word hit in
          let v = rw hit at e in
          elim (cases_lt (digits_value 10 word) (2 ^ 64)) [
            | inl lt ↦
                let s : some (digits_value 10 word) ≡ some n = sym (below (digits_value 10 word) lt) ∙ v in
                let is : digits_value 10 word ≡ n = cc in
                (omega arith, sym (decimal-digits_value own word p.0 p.1 p.2 lt) ∙ ap decimal is)
            | inr le ↦ let s : none ≡ some n = rw (le-ltb (digits_value 10 word) (2 ^ 64) le) at v in absurd (cc)
          ]
      | inr miss ↦ let s : none ≡ some n = rw miss at e in absurd (cc)
    ]

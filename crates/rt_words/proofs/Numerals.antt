use Rattle.std.proofs.Common.{◌≡◌, ◌≢◌, ℕ, ◌^◌, ◌%◌, ◌/◌, ◌*◌, Result, Ok, Err, inl, inr, suc, ◌+◌, ◌<◌, ◌≤◌, Bool, true, false, not, List, [], ◌∷◌, ◌++◌, length, get_or, take, drop, refl, sym, ap, ◌∙◌, arith, ltb, Option, Some, None, drop-cons, append_assoc, append-nil}
use Rattle.std.specs.Prelude.{nat_le, ◌&&◌, ℤ, position, ◌==◌, if◌then◌else◌}
use Rattle.std.specs.List.{list_all, position_from}
use Rattle.std.specs.Int.{IsInRange}
use Rattle.std.specs.Str.Parse.{digits_value, AllDigits, IsNumeral}
use Rattle.std.proofs.lemmas.Str.Parse.{digit_from_value}
use Rattle.std.proofs.lemmas.Bool.{and_parts, and_from, leb-true, le-leb, cases_Bool, ne_eqb, eqb-true}
use Rattle.std.proofs.lemmas.Iterator.Adapters.{position_from-zero}
use Rattle.std.proofs.lemmas.List.Quantifiers.{position-Some}
use Rattle.std.proofs.lemmas.List.Folds.{list_all-append}
use Rattle.std.proofs.lemmas.List.{take-append-drop}
use Rattle.std.proofs.Math.Seq.{take-append_seam, drop-append-add}
use Rattle.rt_words.specs.declared.number.NumberFault.{NumberFault}
use Rattle.rt_words.specs.declared.number.NumberFault.TheVariants.{NotNumber, TooManyDecimals, TooLarge, NotWhole}
use Rattle.rt_words.specs.Number.{Sign, Unsigned, Plus, Minus, Numeral, sign_text, point_text, decimals, Writes, WritesInteger, is_minus, quotient, signed, with_sign, amount_of}
use Rattle.rt_words.specs.Reading.{is_digit, is_point, begins_with_minus, without_sign, whole_part, fraction_part, are_digits, parts_of, decimal_of, integer_of}
use Rattle.rt_words.proofs.Digits.{all_digits, are_parts}

pub digit_range : (b : ℕ) → is_digit b ≡ true → IsInRange 48 57 b
digit_range b e =
    let p = and_parts (nat_le 48 b) (nat_le b 57) e in
    (leb-true _ _ p.0, leb-true _ _ p.1)

pub in_digit_range : (b : ℕ) → IsInRange 48 57 b → is_digit b ≡ true
in_digit_range b r = and_from (nat_le 48 b) (nat_le b 57) (le-leb _ _ r.0) (le-leb _ _ r.1)

pub digits_test : (bs : List ℕ) → AllDigits 10 bs → list_all is_digit bs ≡ true
digits_test [] h = refl
digits_test (b ∷ bs) h = and_from (is_digit b) _ (in_digit_range b (digit_from_value b h.0)) (digits_test bs h.1)

-- the text of a numeral

body_of : Numeral → List ℕ
body_of n = n.whole ++ point_text n.behind_point

signless : (s : Sign) (whole : List ℕ) (b : Option (List ℕ)) → list_all is_digit whole ≡ true → 0 < length (whole ++ decimals b)
    → (without_sign (sign_text s ++ whole ++ point_text b) ≡ whole ++ point_text b) × (begins_with_minus (sign_text s ++ whole ++ point_text b) ≡ is_minus s)
signless Plus whole b all some = (refl, refl)
signless Minus whole b all some = (refl, refl)
signless Unsigned [] None all some = absurd (omega arith)
signless Unsigned [] (Some ds) all some = (refl, refl)
signless Unsigned (d ∷ ds) b all some =
    let r = digit_range d (and_parts (is_digit d) (list_all is_digit ds) all).0 in
    let low : 48 ≤ d = r.0 in
    let plus : (d == 43) ≡ false = ne_eqb d 43 (λ e. omega arith) in
    let minus : (d == 45) ≡ false = ne_eqb d 45 (λ e. omega arith) in
    (rw (plus, minus) refl, minus)

digit_no_point : (d : ℕ) → is_digit d ≡ true → is_point d ≡ false
digit_no_point d e =
    let r = digit_range d e in
    let low : 48 ≤ d = r.0 in
    ne_eqb d 46 (λ e. omega arith)

no_point : (k : ℕ) (whole : List ℕ) → list_all is_digit whole ≡ true → position_from is_point k whole ≡ None
no_point k [] all = refl
no_point k (d ∷ ds) all =
    let p = and_parts (is_digit d) (list_all is_digit ds) all in
    rw (digit_no_point d p.0) (no_point (k + 1) ds p.1)

point_after : (k m : ℕ) (whole ds : List ℕ) → m ≡ k + length whole → list_all is_digit whole ≡ true → position_from is_point k (whole ++ 46 ∷ ds) ≡ Some m
point_after k m [] ds at all = ap (λ (n : ℕ). Some n) (omega arith)
point_after k m (w ∷ ws) ds at all =
    let p = and_parts (is_digit w) (list_all is_digit ws) all in
    rw (digit_no_point w p.0) (point_after (k + 1) m ws ds (omega arith) p.1)

split : (whole : List ℕ) (b : Option (List ℕ)) → list_all is_digit whole ≡ true
    → (whole_part (whole ++ point_text b) (position is_point (whole ++ point_text b)) ≡ whole) × (fraction_part (whole ++ point_text b) (position is_point (whole ++ point_text b)) ≡ decimals b)
split whole None all =
    let at : position is_point whole ≡ None = position_from-zero is_point whole ∙ no_point 0 whole all in
    let same : whole ++ [] ≡ whole = append-nil whole in
    (rw (same, at) refl, rw (same, at) refl)
split whole (Some ds) all =
    let at : position is_point (whole ++ 46 ∷ ds) ≡ Some (length whole) = position_from-zero is_point (whole ++ 46 ∷ ds) ∙ point_after 0 (length whole) whole ds (omega arith) all in
    (rw at (take-append_seam whole (46 ∷ ds)), rw at (drop-append-add whole (46 ∷ ds) 1))

not_empty : (whole fraction : List ℕ) → 0 < length (whole ++ fraction) → not (length whole == 0 && length fraction == 0) ≡ true
not_empty [] [] some = absurd (omega arith)
not_empty [] (d ∷ ds) some = let long : (length (d ∷ ds) == 0) ≡ false = ne_eqb _ 0 (λ e. omega arith) in rw long refl
not_empty (d ∷ ds) fraction some = let long : (length (d ∷ ds) == 0) ≡ false = ne_eqb _ 0 (λ e. omega arith) in rw long refl

some_digit : (whole fraction : List ℕ) → not (length whole == 0 && length fraction == 0) ≡ true → 0 < length (whole ++ fraction)
some_digit [] [] e = absurd (cc)
some_digit [] (d ∷ ds) e = omega arith
some_digit (d ∷ ds) fraction e = omega arith

pub are_digits_of : (whole fraction : List ℕ) → IsNumeral 10 (whole ++ fraction) → are_digits whole fraction ≡ true
are_digits_of whole fraction h =
    let all = sym (list_all-append is_digit whole fraction) ∙ digits_test (whole ++ fraction) h.1 in
    and_from _ (not (length whole == 0 && length fraction == 0)) all (not_empty whole fraction h.0)

whole_digits : (word : List ℕ) (n : Numeral) → Writes word n → list_all is_digit n.whole ≡ true
whole_digits word n w = (are_parts n.whole (decimals n.behind_point) (are_digits_of n.whole (decimals n.behind_point) w.digits)).0

pub decimal_is : (word : List ℕ) (n : Numeral) (scale : ℕ) → Writes word n → decimal_of word scale ≡ amount_of n scale
unfolding decimal_of parts_of
decimal_is word n scale w =
    let all = whole_digits word n w in
    let bare = signless n.sign n.whole n.behind_point all w.digits.0 in
    let cut = split n.whole n.behind_point all in
    rw (w.text, bare.0, bare.1, cut.0, cut.1, are_digits_of n.whole (decimals n.behind_point) w.digits) refl

-- the numeral of a text

sign_of : List ℕ → Sign
sign_of [] = Unsigned
sign_of (b ∷ bs) = if b == 43 then Plus else if b == 45 then Minus else Unsigned

signed_again : (word : List ℕ) → word ≡ sign_text (sign_of word) ++ without_sign word
unfolding sign_of
signed_again [] = refl
signed_again (b ∷ bs) =
    elim (cases_Bool (b == 43)) [
      | inl hit ↦ let is : b ≡ 43 = eqb-true b 43 hit in rw is refl
      | inr miss ↦ elim (cases_Bool (b == 45)) [
        | inl hit ↦ let is : b ≡ 45 = eqb-true b 45 hit in rw is refl
        | inr miss2 ↦ rw (miss, miss2) refl
      ]
    ]

behind : List ℕ → Option ℕ → Option (List ℕ)
behind body None = None
behind body (Some i) = Some (drop (i + 1) body)

behind_is : (body : List ℕ) (at : Option ℕ) → decimals (behind body at) ≡ fraction_part body at
unfolding behind
behind_is body None = refl
behind_is body (Some i) = refl

joined : (body : List ℕ) (at : Option ℕ) → position is_point body ≡ at → body ≡ whole_part body at ++ point_text (behind body at)
unfolding behind
joined body None e = sym (append-nil body)
joined body (Some i) e =
    let p = position-Some is_point body i 0 e in
    let is : get_or body i 0 ≡ 46 = eqb-true _ 46 p.1 in
    let rest : drop i body ≡ 46 ∷ drop (i + 1) body = let next : suc i ≡ i + 1 = omega arith in drop-cons body i 0 p.0 ∙ ap (λ (k : ℕ). get_or body i 0 ∷ drop k body) next ∙ ap (λ (b : ℕ). b ∷ drop (i + 1) body) is in
    sym (take-append-drop i body) ∙ ap (λ (xs : List ℕ). take i body ++ xs) rest

pub numeral_of : List ℕ → Numeral
numeral_of word =
    let body = without_sign word in
    let at = position is_point body in
    record { sign = sign_of word; whole = whole_part body at; behind_point = behind body at }

digits_are : (whole fraction : List ℕ) → are_digits whole fraction ≡ true → IsNumeral 10 (whole ++ fraction)
digits_are whole fraction e =
    let p = and_parts (list_all is_digit whole && list_all is_digit fraction) _ e in
    (some_digit whole fraction p.1, all_digits (whole ++ fraction) (list_all-append is_digit whole fraction ∙ p.0))

numeral_writes : (word : List ℕ) → are_digits (whole_part (without_sign word) (position is_point (without_sign word))) (fraction_part (without_sign word) (position is_point (without_sign word))) ≡ true → Writes word (numeral_of word)
unfolding numeral_of
numeral_writes word e =
    let body = without_sign word in
    let at = position is_point body in
    record {
      text = signed_again word ∙ ap (λ (xs : List ℕ). sign_text (sign_of word) ++ xs) (joined body at refl) ∙ sym (append_assoc (sign_text (sign_of word)) (whole_part body at) (point_text (behind body at)));
      digits = rw (behind_is body at) (digits_are (whole_part body at) (fraction_part body at) e);
    }

-- faults

abbrev fault : NumberFault → Result ℤ NumberFault
fault f = Err f

number : ℤ → Result ℤ NumberFault
number z = Ok z

quotient_number : (negative : Bool) (units unit : ℕ) → with_sign negative (quotient units unit) ≢ Err NotNumber
unfolding number
quotient_number negative units unit e =
    elim (cases_Bool (ltb (2 ^ 30 * unit) units)) [
      | inl large ↦ let f : fault TooLarge ≡ fault NotNumber = rw large at e in absurd (cc)
      | inr small ↦ elim (cases_Bool (units % unit == 0)) [
        | inl whole ↦ let f : number (signed negative (units / unit)) ≡ fault NotNumber = rw (small, whole) at e in absurd (cc)
        | inr broken ↦ let f : fault NotWhole ≡ fault NotNumber = rw (small, broken) at e in absurd (cc)
      ]
    ]

amount_number : (n : Numeral) (scale : ℕ) → amount_of n scale ≢ Err NotNumber
amount_number n scale e =
    elim (cases_Bool (ltb 6 (length (decimals n.behind_point)))) [
      | inl long ↦ let f : fault TooManyDecimals ≡ fault NotNumber = rw long at e in absurd (cc)
      | inr short ↦ quotient_number (is_minus n.sign) (digits_value 10 (n.whole ++ decimals n.behind_point) * scale) (10 ^ length (decimals n.behind_point)) (rw short at e)
    ]

pub decimal_number : (word : List ℕ) (n : Numeral) (scale : ℕ) → decimal_of word scale ≡ Err NotNumber → ¬ Writes word n
decimal_number word n scale e w = amount_number n scale (sym (decimal_is word n scale w) ∙ e)

pub decimal_no_number : (word : List ℕ) (scale : ℕ) → ((n : Numeral) → ¬ Writes word n) → decimal_of word scale ≡ Err NotNumber
unfolding decimal_of parts_of
decimal_no_number word scale none =
    let body = without_sign word in
    let at = position is_point body in
    elim (cases_Bool (are_digits (whole_part body at) (fraction_part body at))) [
      | inl hit ↦ absurd (none (numeral_of word) (numeral_writes word hit))
      | inr miss ↦ rw miss refl
    ]

-- without a point

integer_text : (word : List ℕ) (n : Numeral) → WritesInteger word n → word ≡ sign_text n.sign ++ n.whole ++ []
integer_text word n w = w.numeral.text ∙ ap (λ (b : Option (List ℕ)). sign_text n.sign ++ n.whole ++ point_text b) w.no_point

pub integer_is : (word : List ℕ) (n : Numeral) → WritesInteger word n → integer_of word ≡ amount_of n 1
unfolding integer_of parts_of
integer_is word n w =
    let all = whole_digits word n w.numeral in
    let none : decimals n.behind_point ≡ [] = ap decimals w.no_point in
    let numeral = rw none at w.numeral.digits in
    let bare = signless n.sign n.whole None all numeral.0 in
    let same : n.whole ++ [] ≡ n.whole = append-nil n.whole in
    let body = bare.0 ∙ same in
    rw (none, integer_text word n w, body, bare.1, are_digits_of n.whole [] numeral) refl

whole_numeral : List ℕ → Numeral
whole_numeral word = record { sign = sign_of word; whole = without_sign word; behind_point = None }

whole_writes : (word : List ℕ) → are_digits (without_sign word) [] ≡ true → WritesInteger word (whole_numeral word)
unfolding whole_numeral
whole_writes word e = record {
  numeral = record { text = signed_again word ∙ sym (append-nil _); digits = digits_are (without_sign word) [] e };
  no_point = refl;
}

pub integer_number : (word : List ℕ) (n : Numeral) → integer_of word ≡ Err NotNumber → ¬ WritesInteger word n
integer_number word n e w = amount_number n 1 (sym (integer_is word n w) ∙ e)

pub integer_no_number : (word : List ℕ) → ((n : Numeral) → ¬ WritesInteger word n) → integer_of word ≡ Err NotNumber
unfolding integer_of parts_of
integer_no_number word none =
    elim (cases_Bool (are_digits (without_sign word) [])) [
      | inl hit ↦ absurd (none (whole_numeral word) (whole_writes word hit))
      | inr miss ↦ rw miss refl
    ]

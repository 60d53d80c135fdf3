-- Numbers that are read are small.
use Rattle.std.proofs.Common.{ap, ◌≡◌, ℕ, ◌*◌, ◌^◌, ◌/◌, ◌%◌, ◌≤◌, ◌==◌, Bool, true, false, not, List, length, ◌++◌, position, Result, Ok, Err, ℤ, refl, subst, zero, suc, arith, nat_lt, if◌then◌else◌}
use Rattle.std.specs.Str.Parse.{digits_value}
use Rattle.std.proofs.Math.Nat.{div-le_of_le-mul}
use Rattle.std.proofs.lemmas.Bool.Decides.{nat_tests}
use Rattle.rt_base.specs.Ranges.{IsWithin}
use Rattle.rt_words.specs.Number.{quotient, with_sign, signed, amount}
use Rattle.rt_words.specs.Reading.{decimal_of, parts_of, are_digits, whole_part, fraction_part, without_sign, is_point, begins_with_minus}
use Rattle.rt_words.specs.declared.number.NumberFault.{NumberFault}
use Rattle.rt_forms.specs.Reading.{at_line}
use Rattle.lef_text.specs.declared.error.LefError.{LefError}
use Rattle.rt_words.specs.declared.number.NumberFault.TheVariants.{TooManyDecimals, TooLarge, NotWhole, NotNumber}

-- a test that is passed
pub passed : {N A : Type 0} (b : Bool) (e : N) (r : Result A N) (x : A) → (if b then Err e else r) ≡ Ok x → (b ≡ false) × (r ≡ Ok x)
passed true e r x h = absurd cc
passed false e r x h = (refl, h)

pub passed_so : {N A : Type 0} (b : Bool) (e : N) (r : Result A N) (x : A) → (if b then r else Err e) ≡ Ok x → (b ≡ true) × (r ≡ Ok x)
passed_so true e r x h = (refl, h)
passed_so false e r x h = absurd cc

not_above : (m u : ℕ) → nat_lt m u ≡ false → u ≤ m
not_above m u t = grind (arith, nat_tests)

pub ok_is : {N A : Type 0} (x y : A) → (let r : Result A N = Ok x in r) ≡ Ok y → x ≡ y
ok_is x y h = cc

-- a meaning, behind the line of its fault
pub on_line : {N A : Type 0} (fault : ℕ → N → LefError) (line : ℕ) (r : Result A N) (x : A) → at_line fault line r ≡ Ok x → r ≡ Ok x
on_line {N} {A} fault line (Ok y) x h = ap (λ (v : A). Ok v) (ok_is {N = LefError} y x h)
on_line fault line (Err e) x h = absurd cc

quotient_small : (u d q : ℕ) → quotient u d ≡ Ok q → q ≤ 2 ^ 30
quotient_small u d q h =
    let a = passed (nat_lt (2 ^ 30 * d) u) TooLarge _ q h in
    let b = passed (not (u % d == 0)) NotWhole (Ok (u / d)) q a.1 in
    let e : u / d ≡ q = ok_is {N = NumberFault} (u / d) q b.1 in
    let le : u ≤ 2 ^ 30 * d = not_above (2 ^ 30 * d) u a.0 in
    let le' : u ≤ d * 2 ^ 30 = omega arith in
    let most : u / d ≤ 2 ^ 30 = div-le_of_le-mul d le' in
    omega arith

signed_small : (negative : Bool) (n : ℕ) → n ≤ 2 ^ 30 → IsWithin (2 ^ 30) (signed negative n)
signed_small false n h = h
signed_small true zero h = omega arith
signed_small true (suc n) h = h

with_sign_small : (negative : Bool) (r : Result ℕ NumberFault) (z : ℤ) → ((n : ℕ) → r ≡ Ok n → n ≤ 2 ^ 30) → with_sign negative r ≡ Ok z → IsWithin (2 ^ 30) z
with_sign_small negative (Ok n) z s h = subst (IsWithin (2 ^ 30)) (ok_is {N = NumberFault} (signed negative n) z h) (signed_small negative n (s n refl))
with_sign_small negative (Err e) z s h = absurd cc

amount_small : (negative : Bool) (whole fraction : List ℕ) (scale : ℕ) (z : ℤ) → amount negative whole fraction scale ≡ Ok z → IsWithin (2 ^ 30) z
amount_small negative whole fraction scale z h =
    let a = passed (nat_lt 6 (length fraction)) TooManyDecimals _ z h in
    with_sign_small negative (quotient (digits_value 10 (whole ++ fraction) * scale) (10 ^ length fraction)) z (λ n q. quotient_small (digits_value 10 (whole ++ fraction) * scale) (10 ^ length fraction) n q) a.1

pub decimal_small : (word : List ℕ) (scale : ℕ) (z : ℤ) → decimal_of word scale ≡ Ok z → IsWithin (2 ^ 30) z
unfolding decimal_of parts_of
decimal_small word scale z h =
    let body = without_sign word in
    let point = position is_point body in
    let whole = whole_part body point in
    let fraction = fraction_part body point in
    let a = passed_so (are_digits whole fraction) NotNumber _ z h in
    amount_small (begins_with_minus word) whole fraction scale z a.1

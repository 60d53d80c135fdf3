-- The same, computed from a word.
use Rattle.std.specs.Prelude.{ℕ, ◌+◌, ◌^◌, Bool, false, ◌&&◌, ◌||◌, not, nat_le, nat_lt, ◌==◌, List, [], ◌∷◌, length, take, drop, position, Option, Some, None, if◌then◌else◌, Result, Err, ℤ}
use Rattle.std.specs.Str.Parse.{digits_value}
use Rattle.std.specs.List.{list_all}
use Rattle.rt_words.specs.declared.number.NumberFault.{NumberFault}
use Rattle.rt_words.specs.declared.number.NumberFault.TheVariants.{NotNumber}
use Rattle.rt_words.specs.Number.{amount}

abbrev pub is_digit : ℕ → Bool
is_digit b = nat_le 48 b && nat_le b 57

abbrev pub is_point : ℕ → Bool
is_point b = b == 46

abbrev pub begins_with_minus : List ℕ → Bool
begins_with_minus [] = false
begins_with_minus (b ∷ bs) = b == 45

-- what follows a sign
abbrev pub without_sign : List ℕ → List ℕ
without_sign [] = []
without_sign (b ∷ bs) = if b == 43 || b == 45 then bs else b ∷ bs

abbrev pub whole_part : List ℕ → Option ℕ → List ℕ
whole_part body None = body
whole_part body (Some i) = take i body

abbrev pub fraction_part : List ℕ → Option ℕ → List ℕ
fraction_part body None = []
fraction_part body (Some i) = drop (i + 1) body

-- digits alone, and at least one
abbrev pub are_digits : List ℕ → List ℕ → Bool
are_digits whole fraction = list_all is_digit whole && list_all is_digit fraction && not (length whole == 0 && length fraction == 0)

unfoldable pub parts_of : Bool → List ℕ → List ℕ → ℕ → Result ℤ NumberFault
parts_of negative whole fraction scale =
    if are_digits whole fraction then amount negative whole fraction scale else Err NotNumber

-- the number that a word writes, times the scale
unfoldable pub decimal_of : List ℕ → ℕ → Result ℤ NumberFault
decimal_of word scale =
    let body = without_sign word in
    let point = position is_point body in
    parts_of (begins_with_minus word) (whole_part body point) (fraction_part body point) scale

-- the number that a word without a point writes
unfoldable pub integer_of : List ℕ → Result ℤ NumberFault
integer_of word = parts_of (begins_with_minus word) (without_sign word) [] 1

-- digits alone, at least one, and no 0 before others
abbrev pub is_plain : List ℕ → Bool
is_plain [] = false
is_plain (b ∷ bs) = list_all is_digit (b ∷ bs) && (not (b == 48) || length bs == 0)

abbrev pub below_2_64 : ℕ → Option ℕ
below_2_64 n = if nat_lt n (2 ^ 64) then Some n else None

-- the number below 2 ^ 64 that is printed as this word
unfoldable pub natural_of : List ℕ → Option ℕ
natural_of word = if is_plain word then below_2_64 (digits_value 10 word) else None

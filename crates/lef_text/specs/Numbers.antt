-- Numbers and points of LEF (LEF/DEF 5.8 Language Reference, LEF UNITS: lengths are microns).
use Rattle.std.specs.Prelude.{ℕ, List, Result, Ok, Err, ℤ, pos, negsuc, int_lt, nat_le, ◌&&◌, ◌||◌, bytes_eq, codes, if◌then◌else◌, Bool}
use Rattle.rt_base.specs.Sides.{Sides}
use Rattle.rt_base.specs.Geometry.{hull_of}
use Rattle.rt_base.specs.declared.geometry.Point.{Point}
use Rattle.rt_words.specs.Reading.{decimal_of, integer_of}
use Rattle.rt_words.specs.declared.number.NumberFault.{NumberFault}
use Rattle.rt_words.specs.declared.number.NumberFault.TheVariants.{OutOfRange}
use Rattle.rt_forms.specs.Lexeme.{Place}
use Rattle.rt_forms.specs.Form.{Form, one, done, ◌>>=◌}
use Rattle.rt_forms.specs.Reading.{at_line, meant, semicolon}
use Rattle.lef_text.specs.declared.error.LefError.{LefError}
use Rattle.lef_text.specs.declared.error.LefError.TheVariants.{Number, Refused}

-- a length in DEF units, so many to the micron
abbrev pub number : ℕ → Form LefError ℤ
number units = meant Number (λ w. decimal_of w units)

abbrev pub from_least : ℤ → Result ℤ NumberFault → Result ℤ NumberFault
from_least least (Ok n) = if int_lt n least then Err OutOfRange else Ok n
from_least least (Err e) = Err e

abbrev pub length_at_least : ℕ → ℤ → Place → Result ℤ LefError
length_at_least units least p = at_line Number p.line (from_least least (decimal_of p.word units))

-- a length from least on, and `;`
unfoldable pub length_line : ℕ → ℤ → Form LefError ℤ
length_line units least = do
  n ← one (length_at_least units least)
  _ ← semicolon
  done n

-- a count in this range, written without a point
abbrev pub within : ℕ → ℕ → Result ℤ NumberFault → Result ℕ NumberFault
within low high (Ok (pos n)) = if nat_le low n && nat_le n high then Ok n else Err OutOfRange
within low high (Ok (negsuc n)) = Err OutOfRange
within low high (Err e) = Err e

abbrev pub count : ℕ → ℕ → Form LefError ℕ
count low high = meant Number (λ w. within low high (integer_of w))

-- ---- rectangles

-- words that are refused in the place of a shape's first number; ITERATE in macros alone
abbrev pub is_refused_shape : Bool → List ℕ → Bool
is_refused_shape in_macro word = bytes_eq word (codes "MASK") || (in_macro && bytes_eq word (codes "ITERATE"))

-- the first number of a shape
abbrev pub first_number : Bool → ℕ → Place → Result ℤ LefError
first_number in_macro units p = if is_refused_shape in_macro p.word then Err (Refused p.line p.word) else at_line Number p.line (decimal_of p.word units)

abbrev pub corner : ℤ → ℤ → Point
corner x y = record { x = x; y = y }

-- `x y x y ;`, the corners in any order
unfoldable pub rectangle : Bool → ℕ → Form LefError Sides
rectangle in_macro units = do
  x ← one (first_number in_macro units)
  y ← number units
  x' ← number units
  y' ← number units
  _ ← semicolon
  done (hull_of (corner x y) (corner x' y'))

-- Parts that several statements share: numbers, points and what stands once alone.
use Rattle.std.specs.Prelude.{ℕ, ℤ, pos, negsuc, ◌-◌, Bool, Result, Ok, Err, Option, Some, None, bytes_eq, codes, nat_le, not, ◌&&◌, if◌then◌else◌}
use Rattle.rt_base.specs.declared.orient.Orient.{Orient}
use Rattle.rt_base.specs.declared.orient.Orient.TheVariants.{N, W, S, E, FN, FS, FW, FE}
use Rattle.rt_base.specs.declared.geometry.Point.{Point}
use Rattle.rt_forms.specs.Lexeme.{Place}
use Rattle.rt_forms.specs.Form.{Form, next, look, admit, done, ◌>>=◌}
use Rattle.rt_forms.specs.Reading.{the_word, meant, left, is_next, or_end, ends_option, option_rest}
use Rattle.rt_words.specs.declared.number.NumberFault.{NumberFault}
use Rattle.rt_words.specs.declared.number.NumberFault.TheVariants.{OutOfRange}
use Rattle.rt_words.specs.Reading.{integer_of}
use Rattle.def_text.specs.declared.error.DefError.{DefError}
use Rattle.def_text.specs.declared.error.DefError.TheVariants.{Number, Twice}

-- a number: a sign or none, and digits, at most 2^30 from 0
abbrev pub a_number : Form DefError ℤ
a_number = meant Number integer_of

-- a number in a range
abbrev pub within : ℕ → ℕ → Result ℤ NumberFault → Result ℕ NumberFault
within low high (Ok (pos n)) = if nat_le low n && nat_le n high then Ok n else Err OutOfRange
within low high (Ok (negsuc n)) = Err OutOfRange
within low high (Err e) = Err e

abbrev pub a_count : ℕ → ℕ → Form DefError ℕ
a_count low high = meant Number (λ word. within low high (integer_of word))

-- `( x y )` (DEF 5.8, pt)
unfoldable pub point : Form DefError Point
point = do
  _ ← the_word (codes "(")
  x ← a_number
  y ← a_number
  _ ← the_word (codes ")")
  done (record { x = x; y = y })

-- no `(` comes next
abbrev pub no_bracket : Option Place → Bool
no_bracket w = not (is_next (codes "(") w)

abbrev pub orient_of : Place → Option Orient
orient_of w =
    if bytes_eq w.word (codes "N") then Some N
    else if bytes_eq w.word (codes "W") then Some W
    else if bytes_eq w.word (codes "S") then Some S
    else if bytes_eq w.word (codes "E") then Some E
    else if bytes_eq w.word (codes "FN") then Some FN
    else if bytes_eq w.word (codes "FS") then Some FS
    else if bytes_eq w.word (codes "FW") then Some FW
    else if bytes_eq w.word (codes "FE") then Some FE
    else None

-- `PLACED|FIXED|COVER point orient` (DEF 5.8, Components, Pins)
unfoldable pub placement : Form DefError (Point × Orient)
placement = do
  _ ← next
  at ← point
  orient ← admit orient_of
  done (at, orient)

-- no word: the number of the next one, counted from 0, in a text of so many
abbrev pub here : ℕ → Form DefError ℕ
here total = do
  n ← left
  done (total - n)

-- all words of an option that are left: whether there are none
abbrev pub option_tail : Form DefError Bool
option_tail = do
  w ← look
  _ ← option_rest
  done (or_end ends_option w)

-- what began at this word stood before, or not
abbrev pub once : {A : Type 0} → Option A → Place → Result (Unit {0}) DefError
once None w = Ok tt
once (Some before) w = Err (Twice w.line w.word)

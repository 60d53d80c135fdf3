-- SPACINGTABLE and current densities of layers (LEF/DEF 5.8 Language Reference, LEF LAYER (Routing): SPACINGTABLE
-- PARALLELRUNLENGTH, ACCURRENTDENSITY, DCCURRENTDENSITY).
use Rattle.std.specs.Prelude.{ℕ, ◌+◌, ◌==◌, List, [], ◌∷◌, ◌++◌, length, Result, Ok, Err, Option, Some, None, ℤ, pos, int_lt, bytes_eq, codes, if◌then◌else◌, Bool, true, false}
use Rattle.std.specs.Int.{int_max}
use Rattle.rt_words.specs.Reading.{decimal_of}
use Rattle.rt_words.specs.declared.number.NumberFault.{NumberFault}
use Rattle.rt_words.specs.declared.number.NumberFault.TheVariants.{NotNumber, TooManyDecimals, TooLarge, NotWhole, OutOfRange}
use Rattle.rt_forms.specs.Lexeme.{Place}
use Rattle.rt_forms.specs.Form.{Form, next, one, check, done, ◌>>=◌, choose, loop, Turn, More, Done, turn}
use Rattle.rt_forms.specs.Reading.{a_name, semicolon, rest, up_to_word, at_line}
use Rattle.lef_text.specs.declared.error.LefError.{LefError}
use Rattle.lef_text.specs.declared.error.LefError.TheVariants.{Expected, Number, Twice}
use Rattle.lef_text.specs.declared.library.LayerLines.{LayerLines}
use Rattle.lef_text.specs.declared.library.Lengths.{Lengths}
use Rattle.lef_text.specs.declared.library.Rows.{Rows}
use Rattle.lef_text.specs.Numbers.{number}

-- a line that isn't used, or not wholly
abbrev pub counted : LayerLines → Turn LayerLines
counted s = More (record s { skipped = s.skipped + 1 })

-- the rest of a line that isn't used
abbrev pub counted_line : LayerLines → Form LefError (Turn LayerLines)
counted_line s = do
  _ ← rest
  done (counted s)

-- the greatest spacing, with one more
abbrev pub greatest : Option ℤ → ℤ → ℤ
greatest None n = n
greatest (Some m) n = int_max m n

-- ---- SPACINGTABLE PARALLELRUNLENGTH

abbrev pub above : Option ℤ → Result ℤ NumberFault → Result ℤ NumberFault
above None r = r
above (Some last) (Ok n) = if int_lt last n then Ok n else Err OutOfRange
above (Some last) (Err e) = Err e

-- a number above the last one
abbrev pub next_above : ℕ → Option ℤ → Place → Result ℤ LefError
next_above units last p = at_line Number p.line (above last (decimal_of p.word units))

-- further lengths, up to the first WIDTH
unfoldable pub length_turn : ℕ → Lengths → Form LefError (Turn Lengths)
length_turn units s = do
  w ← next
  choose (bytes_eq w.word (codes "WIDTH")) (done (Done s)) (do
    n ← check (next_above units s.last w)
    done (More (record { numbers = s.numbers ++ n ∷ []; last = Some n })))

-- as many spacings as there are lengths
unfoldable pub spacing_turn : ℕ → ℕ → List ℤ → Form LefError (Turn (List ℤ))
spacing_turn units k xs = do
  n ← number units
  done (turn (length (xs ++ n ∷ []) == k) (xs ++ n ∷ []))

-- whether a row is the last one
abbrev pub row_end : Place → Result Bool LefError
row_end p = if bytes_eq p.word (codes ";") then Ok true else if bytes_eq p.word (codes "WIDTH") then Ok false else Err (Expected p.line)

-- a row behind WIDTH
unfoldable pub row_turn : ℕ → ℕ → Rows → Form LefError (Turn Rows)
row_turn units k s = do
  w ← one (next_above units s.last)
  xs ← loop (spacing_turn units k) []
  last ← one row_end
  done (turn last (record { rows = s.rows ++ (w, xs) ∷ []; last = Some w }))

abbrev pub first_number : List ℤ → ℤ
first_number [] = pos 0
first_number (x ∷ xs) = x

-- the first entry of a table
abbrev pub first_entry : List (ℤ × List ℤ) → ℤ
first_entry [] = pos 0
first_entry (r ∷ rs) = first_number r.1

-- a layer has one table at most
abbrev pub only_table : Place → LayerLines → List ℤ → Result (Unit {0}) LefError
only_table w s [] = Ok tt
only_table w s (l ∷ ls) = Err (Twice w.line s.name)

abbrev pub with_table : LayerLines → List ℤ → List (ℤ × List ℤ) → LayerLines
with_table s lengths rows = record s { table = record { lengths = lengths; rows = rows }; spacing = Some (greatest s.spacing (first_entry rows)); skipped = s.skipped + 1 }

abbrev pub no_rows : Rows
no_rows = record { rows = []; last = None }

abbrev pub one_length : ℤ → Lengths
one_length n = record { numbers = n ∷ []; last = Some n }

-- behind the word PARALLELRUNLENGTH
unfoldable pub run_table : ℕ → LayerLines → Place → Form LefError (Turn LayerLines)
run_table units s w = do
  _ ← check (only_table w s s.table.lengths)
  l ← number units
  lengths ← loop (length_turn units) (one_length l)
  rows ← loop (row_turn units (length lengths.numbers)) no_rows
  done (More (with_table s lengths.numbers rows.rows))

-- behind the word SPACINGTABLE
unfoldable pub table_line : ℕ → LayerLines → Form LefError (Turn LayerLines)
table_line units s = do
  w ← next
  choose (bytes_eq w.word (codes "PARALLELRUNLENGTH")) (run_table units s w)
      (choose (bytes_eq w.word (codes ";")) (done (counted s)) (counted_line s))

-- ---- current densities

abbrev pub has_form : Result ℤ NumberFault → Bool
has_form (Ok n) = true
has_form (Err NotNumber) = false
has_form (Err TooManyDecimals) = true
has_form (Err TooLarge) = true
has_form (Err NotWhole) = true
has_form (Err OutOfRange) = true

-- a number by its form alone
abbrev pub is_numeral : List ℕ → Bool
is_numeral word = has_form (decimal_of word 0)

-- a word and a number, or a word and a table that ends behind TABLEENTRIES
unfoldable pub density_line : LayerLines → Form LefError (Turn LayerLines)
density_line s = do
  _ ← a_name
  w ← next
  choose (is_numeral w.word) (do
    _ ← semicolon
    done (counted s))
      (choose (bytes_eq w.word (codes "TABLEENTRIES")) (counted_line s) (do
        _ ← up_to_word (codes "TABLEENTRIES")
        counted_line s))

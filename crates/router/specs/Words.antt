-- Command lines: `route LEF DEF GUIDE OUT JOURNAL`, and behind it options, each with its value. Words are counted from 1, without the program's name.
use Rattle.std.specs.Prelude.{ℕ, ◌^◌, ◌≤◌, ◌≤ℤ◌, IfSome, ◌+◌, ◌-◌, ◌%◌, ◌==◌, ℤ, pos, Bool, true, false, not, ◌&&◌, ◌||◌, nat_le, nat_lt, List, [], Option, Some, None, Result, Ok, Err, if◌then◌else◌, bytes_eq, codes, get_or, length, unwrap_or, option_map, option_and_then, map, String, string_bytes}
use Rattle.std.specs.List.{find, list_any, range_with_len}
use Rattle.std.specs.Global.{Global}
use Rattle.rt_words.specs.Reading.{natural_of}
use Rattle.router.specs.declared.words.Choice.{Choice}
use Rattle.router.specs.declared.words.Choice.TheVariants.{Via, Tile, Rips}
use Rattle.router.specs.declared.words.Command.{Command}
use Rattle.router.specs.declared.words.Place.{Place}
use Rattle.router.specs.declared.words.Place.TheVariants.{File, OfOption, OfValue}
use Rattle.router.specs.declared.words.Sought.{Sought}
use Rattle.router.specs.declared.words.Sought.TheVariants.{Misfit, Again, Misvalue, Renamed, Chosen}
use Rattle.router.specs.declared.words.WordsFault.{WordsFault}
use Rattle.router.specs.declared.words.WordsFault.TheVariants.{Shape, Twice, Number, SameName}

-- what a command line says: its files, where GUIDE isn't `-` one of guides, too; what a via costs; how wide a tile is, where it says so; and how often a net may be ripped
pub record CommandLine : Type 0 where
  pub lef : List ℕ
  pub def : List ℕ
  pub guide : Option (List ℕ)
  pub out : List ℕ
  pub journal : List ℕ
  pub via : ℕ
  pub tile : Option ℤ
  pub rips : ℕ

abbrev pub word_texts : List (String Global) → List (List ℕ)
word_texts words = map string_bytes words

-- word n
abbrev pub word : List (List ℕ) → ℕ → List ℕ
word words n = get_or words (n - 1) []

-- ---- places

-- the files are words 2 to 6; behind them each option is followed by its value
abbrev pub is_at : Place → ℕ → Bool
is_at File n = nat_lt 1 n && nat_lt n 7
is_at OfOption n = nat_lt 6 n && n % 2 == 1
is_at OfValue n = nat_lt 6 n && n % 2 == 0

-- a word that can't be missing where those before it stand
abbrev pub is_owed : ℕ → Bool
is_owed n = nat_lt n 7 || is_at OfValue n

-- ---- options

abbrev pub option_text : Choice → List ℕ
option_text Via = codes "--via"
option_text Tile = codes "--tile"
option_text Rips = codes "--rips"

abbrev pub is_option : Choice → List ℕ → Bool
is_option choice w = bytes_eq w (option_text choice)

abbrev pub is_known : List ℕ → Bool
is_known w = is_option Via w || is_option Tile w || is_option Rips w

-- the least and the most that may be chosen
abbrev pub least_of : Choice → ℕ
least_of Via = 0
least_of Tile = 1
least_of Rips = 0

abbrev pub most_of : Choice → ℕ
most_of Via = 1048576
most_of Tile = 1073741824
most_of Rips = 16

abbrev pub in_range : Choice → ℕ → Option ℕ
in_range choice n = if nat_le (least_of choice) n && nat_le n (most_of choice) then Some n else None

-- the number that a word chooses
abbrev pub value_of : Choice → List ℕ → Option ℕ
value_of choice w = option_and_then (in_range choice) (natural_of w)

abbrev pub is_none : Option ℕ → Bool
is_none None = true
is_none (Some n) = false

-- a value that the option before it can't have
abbrev pub is_misvalue : List ℕ → List ℕ → Bool
is_misvalue option w = if is_option Via option then is_none (value_of Via w) else if is_option Tile option then is_none (value_of Tile w) else is_none (value_of Rips w)

-- ---- words that are looked for

abbrev pub fits : ℕ → List ℕ → Bool
fits n w = if n == 1 then bytes_eq w (codes "route") else if is_at OfOption n then is_known w else true

-- a word of this place before word n is the same
abbrev pub stands_before : Place → List (List ℕ) → ℕ → Bool
stands_before place words n = list_any (λ m. is_at place m && bytes_eq (word words m) (word words n)) (range_with_len 1 (n - 1))

-- word n is missing, or doesn't fit its place; is an option that stands earlier, too; is a value out of its range; is a file that stands earlier, too; is this option
abbrev pub is_sought : Sought → List (List ℕ) → ℕ → Bool
is_sought Misfit words n = if nat_lt (length words) n then is_owed n else not (fits n (word words n))
is_sought Again words n = is_at OfOption n && stands_before OfOption words n
is_sought Misvalue words n = is_at OfValue n && is_misvalue (word words (n - 1)) (word words n)
is_sought Renamed words n = is_at File n && stands_before File words n
is_sought (Chosen choice) words n = is_at OfOption n && is_option choice (word words n)

-- the number of the first such word, up to the one behind the last
abbrev pub first_word : Sought → List (List ℕ) → Option ℕ
first_word sought words = find (is_sought sought words) (range_with_len 1 (length words + 1))

-- ---- command lines

abbrev pub else_fault : Option WordsFault → Option WordsFault → Option WordsFault
else_fault (Some fault) later = Some fault
else_fault None later = later

-- what refuses a command line: each fault is looked for over all words before the next one
abbrev pub fault_of : List (List ℕ) → Option WordsFault
fault_of words =
    else_fault (option_map Shape (first_word Misfit words))
    (else_fault (option_map Twice (first_word Again words))
    (else_fault (option_map Number (first_word Misvalue words))
    (option_map SameName (first_word Renamed words))))

-- the value behind an option
abbrev pub chosen : Choice → List (List ℕ) → Option ℕ
chosen choice words = option_and_then (λ n. value_of choice (word words (n + 1))) (first_word (Chosen choice) words)

-- `-` is no file of guides
abbrev pub guide_of : List ℕ → Option (List ℕ)
guide_of w = if bytes_eq w (codes "-") then None else Some w

abbrev pub said_by : List (List ℕ) → CommandLine
said_by words = record {
  lef = word words 2;
  def = word words 3;
  guide = guide_of (word words 4);
  out = word words 5;
  journal = word words 6;
  via = unwrap_or (chosen Via words) 1000;
  tile = option_map pos (chosen Tile words);
  rips = unwrap_or (chosen Rips words) 3;
}

abbrev pub unless_fault : Option WordsFault → CommandLine → Result CommandLine WordsFault
unless_fault (Some fault) line = Err fault
unless_fault None line = Ok line

-- what a command line says, or its refusal
abbrev pub command_of : List (List ℕ) → Result CommandLine WordsFault
command_of words = unless_fault (fault_of words) (said_by words)

-- what was read of a command line says this
abbrev pub asked_by : Command → CommandLine
asked_by c = record {
  lef = string_bytes c.lef.now;
  def = string_bytes c.def.now;
  guide = guide_of (string_bytes c.guide.now);
  out = string_bytes c.out.now;
  journal = string_bytes c.journal.now;
  via = c.via;
  tile = c.tile;
  rips = c.rips;
}

-- what a command line may choose
pub record IsInRange (line : CommandLine) : Type 0 where
  pub via : line.via ≤ 2 ^ 20
  pub tile : IfSome line.tile (λ (side : ℤ). (pos 1 ≤ℤ side) × (side ≤ℤ pos (2 ^ 30)))
  pub rips : line.rips ≤ 16

-- the words ask for workers: no option for them can stand yet
abbrev pub asks_for_workers : List (List ℕ) → Bool
asks_for_workers words = false

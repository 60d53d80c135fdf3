-- SPECIALNETS (DEF 5.8, Special Nets), with the places of their wiring (specialWiring).
use Rattle.std.specs.Prelude.{ℕ, ◌≤◌, List, [], ◌∷◌, ◌++◌, Bool, true, false, Err, Option, Some, None, bytes_eq, codes, All, ◌||◌, if◌then◌else◌}
use Rattle.rt_forms.specs.Lexeme.{Place}
use Rattle.rt_forms.specs.Form.{Form, next, admit, look, check, done, ◌>>=◌, choose, loop, unless, Turn, More, Done}
use Rattle.rt_forms.specs.Reading.{a_name, is_name_word, if_so, option_rest}
use Rattle.def_text.specs.declared.error.DefError.{DefError}
use Rattle.def_text.specs.declared.error.DefError.TheVariants.{Expected, Refused}
use Rattle.def_text.specs.declared.kinds.SpecialOption.{SpecialOption}
use Rattle.def_text.specs.declared.kinds.SpecialOption.TheVariants.{Wired, Metal, Shape, Style, Refused as RefusedInSpecial, Unused}
use Rattle.def_text.specs.declared.special.Open.{Open}
use Rattle.def_text.specs.declared.special.Open.TheVariants.{Closed, Shaped, Bare, BareShaped, Paths, PathsShaped}
use Rattle.def_text.specs.declared.special.OpenSpecial.{OpenSpecial}
use Rattle.def_text.specs.declared.def.DefNet.{DefNet}
use Rattle.def_text.specs.declared.sections.Listed.{Listed}
use Rattle.def_text.specs.Defs.{IsRange}
use Rattle.def_text.specs.Kinds.{special_option_of}
use Rattle.def_text.specs.Parts.{no_bracket, here, option_tail}
use Rattle.def_text.specs.Sections.{new_name}
use Rattle.def_text.specs.Nets.{connection_tail}

-- ---- connections, which aren't used

-- a name, or `*`
abbrev pub name_or_star : Place → Option (Unit {0})
name_or_star w = if_so (is_name_word w.word || bytes_eq w.word (codes "*")) tt

-- `( comp pin [+ SYNTHESIZED] )`
unfoldable pub special_connection : Unit {0} → Form DefError (Turn (Unit {0}))
special_connection s = do
  _ ← next
  _ ← admit name_or_star
  _ ← admit name_or_star
  _ ← connection_tail
  done (More s)

abbrev pub special_connections : Form DefError (Unit {0})
special_connections = loop (unless no_bracket special_connection) tt

-- ---- wiring that may go on

-- a wiring option is open
abbrev pub is_wiring : Open → Bool
is_wiring Closed = false
is_wiring (Shaped shape) = false
is_wiring (Bare plus behind) = true
is_wiring (BareShaped plus behind) = true
is_wiring (Paths first) = true
is_wiring (PathsShaped first shape) = true

-- the range that ends before the word of this number, which isn't `+` of RECT or VIA
abbrev pub ended : Open → ℕ → Option (ℕ × ℕ)
ended Closed at = None
ended (Shaped shape) at = None
ended (Bare plus behind) at = Some (plus, at)
ended (BareShaped plus behind) at = Some (behind, at)
ended (Paths first) at = Some (first, at)
ended (PathsShaped first shape) at = Some (first, at)

-- the range that ends before RECT or VIA, whose `+` has this number: `+ SHAPE t` directly before doesn't belong to it, and an option word alone is no range
abbrev pub ended_by_metal : Open → ℕ → Option (ℕ × ℕ)
ended_by_metal Closed at = None
ended_by_metal (Shaped shape) at = None
ended_by_metal (Bare plus behind) at = None
ended_by_metal (BareShaped plus behind) at = None
ended_by_metal (Paths first) at = Some (first, at)
ended_by_metal (PathsShaped first shape) at = Some (first, shape)

-- where RECT or VIA begins, whose `+` has this number: at what stands directly before and belongs to it, if anything
abbrev pub metal_first : Open → ℕ → ℕ
metal_first Closed at = at
metal_first (Shaped shape) at = shape
metal_first (Bare plus behind) at = plus
metal_first (BareShaped plus behind) at = plus
metal_first (Paths first) at = at
metal_first (PathsShaped first shape) at = shape

-- what is open behind `+ SHAPE t`, whose `+` has this number
abbrev pub with_shape : Open → ℕ → Open
with_shape Closed at = Shaped at
with_shape (Shaped shape) at = Shaped at
with_shape (Bare plus behind) at = BareShaped plus behind
with_shape (BareShaped plus behind) at = PathsShaped behind at
with_shape (Paths first) at = PathsShaped first at
with_shape (PathsShaped first shape) at = PathsShaped first at

-- what is open behind `+ SHAPE` and words that no RECT or VIA takes
abbrev pub with_words : Open → Open
with_words Closed = Closed
with_words (Shaped shape) = Closed
with_words (Bare plus behind) = Paths behind
with_words (BareShaped plus behind) = Paths behind
with_words (Paths first) = Paths first
with_words (PathsShaped first shape) = Paths first

-- ranges, and one more if there is one
abbrev pub with_range : List (ℕ × ℕ) → Option (ℕ × ℕ) → List (ℕ × ℕ)
with_range ranges None = ranges
with_range ranges (Some range) = ranges ++ range ∷ []

-- ---- options

-- `ROUTED|FIXED|COVER` paths
unfoldable pub special_wired : ℕ → ℕ → OpenSpecial → Form DefError OpenSpecial
special_wired total plus net = do
  _ ← next
  behind ← here total
  alone ← option_tail
  done (record net { wiring = with_range net.wiring (ended net.state plus); state = if alone then Bare plus behind else Paths behind })

-- `RECT|VIA` words
unfoldable pub special_metal : ℕ → OpenSpecial → Form DefError OpenSpecial
special_metal plus net = do
  _ ← next
  _ ← option_rest
  done (record net { wiring = with_range net.wiring (ended_by_metal net.state plus); state = Paths (metal_first net.state plus) })

-- a name comes next
abbrev pub is_named : Option Place → Bool
is_named None = false
is_named (Some w) = is_name_word w.word

-- the word behind SHAPE and what follows it, where no wiring is open: whether it is a name alone
abbrev pub loose_shape : Form DefError Bool
loose_shape = do
  w ← look
  choose (is_named w) (do
    _ ← next
    option_tail) (do
      _ ← option_rest
      done false)

-- the same in wiring, where it is a name
abbrev pub wiring_shape : Form DefError Bool
wiring_shape = do
  _ ← a_name
  option_tail

-- `SHAPE t`
unfoldable pub special_shape : ℕ → OpenSpecial → Form DefError OpenSpecial
special_shape plus net = do
  _ ← next
  alone ← choose (is_wiring net.state) wiring_shape loose_shape
  done (record net { state = if alone then with_shape net.state plus else with_words net.state })

-- an option that isn't used
unfoldable pub special_unused : ℕ → OpenSpecial → Form DefError OpenSpecial
special_unused plus net = do
  _ ← option_rest
  done (record net { wiring = with_range net.wiring (ended net.state plus); state = Closed })

abbrev pub refused_word : Form DefError OpenSpecial
refused_word = do
  w ← next
  check (Err (Refused w.line w.word))

-- an option behind its `+`, which has this number
abbrev pub special_option_by : SpecialOption → ℕ → ℕ → OpenSpecial → Form DefError OpenSpecial
special_option_by Wired total plus net = special_wired total plus net
special_option_by Metal total plus net = special_metal plus net
special_option_by Shape total plus net = special_shape plus net
special_option_by Style total plus net = choose (is_wiring net.state) refused_word (special_unused plus net)
special_option_by RefusedInSpecial total plus net = refused_word
special_option_by Unused total plus net = special_unused plus net

unfoldable pub special_option : ℕ → ℕ → OpenSpecial → Form DefError OpenSpecial
special_option total plus net = do
  w ← look
  special_option_by (special_option_of w) total plus net

-- one more option, or the closing `;`
unfoldable pub more_special : ℕ → OpenSpecial → Form DefError (Turn OpenSpecial)
more_special total net = do
  at ← here total
  w ← next
  choose (bytes_eq w.word (codes ";")) (done (Done (record { wiring = with_range net.wiring (ended net.state at); state = Closed; close = w.first }))) (
      choose (bytes_eq w.word (codes "+")) (do
        net' ← special_option total at net
        done (More net')) (
      check (Err (Expected w.line))))

-- `name` connections options `;`
unfoldable pub special_item : ℕ → Listed DefNet → Form DefError (Listed DefNet)
special_item total listed = do
  name ← a_name
  _ ← check (new_name listed.names name)
  _ ← special_connections
  net ← loop (more_special total) (record { wiring = []; state = Closed; close = 0 })
  done (record listed { names = listed.names ++ name.word ∷ []; items = listed.items ++ record { name = name.word; pins = []; wiring = net.wiring; close = net.close } ∷ [] })

-- ---- ranges

-- what is open stands before the word of this number
abbrev pub IsOpen : ℕ → Open → Type 0
IsOpen at Closed = Unit {0}
IsOpen at (Shaped shape) = shape ≤ at
IsOpen at (Bare plus behind) = (plus ≤ at) × (behind ≤ at)
IsOpen at (BareShaped plus behind) = (plus ≤ at) × (behind ≤ at)
IsOpen at (Paths first) = first ≤ at
IsOpen at (PathsShaped first shape) = (first ≤ shape) × (shape ≤ at)

-- what was read of a special net before the word of this number, of so many
pub record IsSpecial (total at : ℕ) (net : OpenSpecial) : Type 0 where
  pub wiring : All (IsRange total) net.wiring
  pub state : IsOpen at net.state

-- Single words of wiring: numbers, names and what a step begins with (DEF 5.8, Regular Wiring Statement and Special Wiring Statement).
use Rattle.std.specs.Prelude.{ℕ, ℤ, pos, int_le, List, Result, Ok, Err, Option, Some, None, Bool, bytes_eq, codes, ◌||◌, if◌then◌else◌}
use Rattle.std.specs.Ordering.{int_eq}
use Rattle.rt_base.specs.declared.geometry.Point.{Point}
use Rattle.rt_base.specs.declared.orient.Orient.{Orient}
use Rattle.rt_base.specs.declared.orient.Orient.TheVariants.{N, W, S, E, FN, FS, FW, FE}
use Rattle.rt_base.specs.declared.tech.LayerNo.{LayerNo}
use Rattle.rt_base.specs.declared.tech.Tech.{Tech}
use Rattle.rt_forms.specs.Lexeme.{Place}
use Rattle.rt_forms.specs.Form.{and_then}
use Rattle.rt_forms.specs.Reading.{is_name_word}
use Rattle.rt_words.specs.declared.number.NumberFault.{NumberFault}
use Rattle.rt_words.specs.Reading.{integer_of}
use Rattle.def_wires.specs.declared.error.WireFault.{WireFault}
use Rattle.def_wires.specs.declared.error.WireFault.TheVariants.{Expected, Number, NoSuchLayer, NoSuchVia, FirstStar, Diagonal, ViaOffLayer, Refused}
use Rattle.def_wires.specs.declared.words.StepWord.{StepWord}
use Rattle.def_wires.specs.declared.words.StepWord.TheVariants.{Opening, Rectangle, RefusedStep, ViaName, Other}
use Rattle.def_wires.specs.declared.wiring.Joined.{Joined}
use Rattle.def_wires.specs.Meaning.{is_routing, joined_by, rects_of_via, other_of}
use Rattle.def_wires.specs.Names.{layer_named, via_named}

-- ---- numbers

abbrev pub number_at : ℕ → Result ℤ NumberFault → Result ℤ WireFault
number_at line (Ok z) = Ok z
number_at line (Err e) = Err (Number line)

-- a number: a sign or none, and digits, at most 2^30 from 0
abbrev pub number_of : Place → Result ℤ WireFault
number_of p = number_at p.line (integer_of p.word)

abbrev pub not_below : ℕ → ℕ → ℤ → Result ℤ WireFault
not_below low line z = if int_le (pos low) z then Ok z else Err (Number line)

-- a number from low on
abbrev pub number_from : ℕ → Place → Result ℤ WireFault
number_from low p = and_then (number_of p) (not_below low p.line)

-- ---- coordinates

-- a coordinate of a path's first point
abbrev pub first_coordinate : Place → Result ℤ WireFault
first_coordinate p = if bytes_eq p.word (codes "*") then Err (FirstStar p.line) else number_of p

-- one of a later point: `*` is that of the point before
abbrev pub coordinate : ℤ → Place → Result ℤ WireFault
coordinate before p = if bytes_eq p.word (codes "*") then Ok before else number_of p

-- the point is straight above, below or beside the one before
abbrev pub straight : Point → ℤ → ℕ → ℤ → Result Point WireFault
straight from x line y = if int_eq x from.x || int_eq y from.y then Ok (record { x = x; y = y }) else Err (Diagonal line)

-- the y of a later point, whose x is this one
abbrev pub last_coordinate : Point → ℤ → Place → Result Point WireFault
last_coordinate from x p = and_then (coordinate from.y p) (straight from x p.line)

-- ---- names

-- a name, of which the meaning is this fault's line or a value
abbrev pub known_layer : ℕ → Option ℕ → Result LayerNo WireFault
known_layer line None = Err (NoSuchLayer line)
known_layer line (Some k) = Ok (record { 0 = k })

-- the name of a layer that holds shapes
abbrev pub any_layer : Tech → Place → Result LayerNo WireFault
any_layer tech p = if is_name_word p.word then known_layer p.line (layer_named tech.layers p.word) else Err (Expected p.line)

abbrev pub if_routing : Tech → ℕ → LayerNo → Result LayerNo WireFault
if_routing tech line layer = if is_routing tech layer.0 then Ok layer else Err (NoSuchLayer line)

-- the name of a routing layer
abbrev pub routing_layer : Tech → Place → Result LayerNo WireFault
routing_layer tech p = and_then (any_layer tech p) (if_routing tech p.line)

abbrev pub known_via : ℕ → Option ℕ → Result ℕ WireFault
known_via line None = Err (NoSuchVia line)
known_via line (Some v) = Ok v

-- the name of a via
abbrev pub any_via : Tech → Place → Result ℕ WireFault
any_via tech p = if is_name_word p.word then known_via p.line (via_named tech.vias p.word) else Err (Expected p.line)

-- the two routing layers of a via
abbrev pub joined_at : ℕ → Option Joined → Result Joined WireFault
joined_at line None = Err (ViaOffLayer line)
joined_at line (Some j) = Ok j

abbrev pub layers_of_via : Tech → ℕ → ℕ → Result Joined WireFault
layers_of_via tech line v = joined_at line (joined_by tech (rects_of_via tech v))

abbrev pub beyond_at : ℕ → Option LayerNo → Result LayerNo WireFault
beyond_at line None = Err (ViaOffLayer line)
beyond_at line (Some layer) = Ok layer

-- the other one, from a current layer
abbrev pub layer_beyond : Tech → LayerNo → ℕ → ℕ → Result LayerNo WireFault
layer_beyond tech layer line v = and_then (layers_of_via tech line v) (λ j. beyond_at line (other_of j layer))

-- ---- words

abbrev pub orient_of : List ℕ → Option Orient
orient_of word =
    if bytes_eq word (codes "N") then Some N
    else if bytes_eq word (codes "W") then Some W
    else if bytes_eq word (codes "S") then Some S
    else if bytes_eq word (codes "E") then Some E
    else if bytes_eq word (codes "FN") then Some FN
    else if bytes_eq word (codes "FS") then Some FS
    else if bytes_eq word (codes "FW") then Some FW
    else if bytes_eq word (codes "FE") then Some FE
    else None

-- the next word as an orientation
abbrev pub orient_next : Option Place → Option Orient
orient_next None = None
orient_next (Some p) = orient_of p.word

-- words that aren't supported in paths
abbrev pub is_refused : List ℕ → Bool
is_refused word = bytes_eq word (codes "MASK") || bytes_eq word (codes "TAPERRULE") || bytes_eq word (codes "STYLE") || bytes_eq word (codes "VIRTUAL")

-- what a step begins with
abbrev pub step_word : List ℕ → StepWord
step_word word =
    if bytes_eq word (codes "(") then Opening
    else if bytes_eq word (codes "RECT") then Rectangle
    else if is_refused word then RefusedStep
    else if is_name_word word then ViaName
    else Other

-- `(` before a path's first point
abbrev pub opening : Place → Result (Unit {0}) WireFault
opening p =
    if bytes_eq p.word (codes "(") then Ok tt
    else if is_refused p.word then Err (Refused p.line)
    else Err (Expected p.line)

-- The first words of statements and options (DEF 5.8, DEF Statement Definitions).
use Rattle.std.specs.Prelude.{ℕ, List, bytes_eq, codes, ◌||◌, if◌then◌else◌, Option, Some, None}
use Rattle.rt_forms.specs.Lexeme.{Place}
use Rattle.def_text.specs.declared.kinds.Statement.{Statement}
use Rattle.def_text.specs.declared.kinds.Statement.TheVariants.{Units, Die, Tracks, Unused, Skipped, Extension, Vias, Components, Pins, Blockages, Special, Nets, End, Other}
use Rattle.def_text.specs.declared.kinds.PinOption.{PinOption}
use Rattle.def_text.specs.declared.kinds.PinOption.TheVariants.{Layer, Port, Placed, Refused as RefusedInPin, Unused as UnusedInPin}
use Rattle.def_text.specs.declared.kinds.BehindLayer.{BehindLayer}
use Rattle.def_text.specs.declared.kinds.BehindLayer.TheVariants.{Rule as LayerRule, Mask, Points}
use Rattle.def_text.specs.declared.kinds.NetOption.{NetOption}
use Rattle.def_text.specs.declared.kinds.NetOption.TheVariants.{Wiring, Subnet, Rule, Unused as UnusedInNet}
use Rattle.def_text.specs.declared.kinds.SpecialOption.{SpecialOption}
use Rattle.def_text.specs.declared.kinds.SpecialOption.TheVariants.{Wired, Metal, Shape, Style, Refused as RefusedInSpecial, Unused as UnusedInSpecial}

abbrev pub statement_of : List ℕ → Statement
statement_of word =
    if bytes_eq word (codes "UNITS") then Units
    else if bytes_eq word (codes "DIEAREA") then Die
    else if bytes_eq word (codes "TRACKS") then Tracks
    else if bytes_eq word (codes "VIAS") then Vias
    else if bytes_eq word (codes "COMPONENTS") then Components
    else if bytes_eq word (codes "PINS") then Pins
    else if bytes_eq word (codes "NETS") then Nets
    else if bytes_eq word (codes "BLOCKAGES") then Blockages
    else if bytes_eq word (codes "SPECIALNETS") then Special
    else if bytes_eq word (codes "VERSION") || bytes_eq word (codes "DIVIDERCHAR") || bytes_eq word (codes "BUSBITCHARS")
    || bytes_eq word (codes "NAMESCASESENSITIVE") || bytes_eq word (codes "DESIGN") || bytes_eq word (codes "TECHNOLOGY")
    || bytes_eq word (codes "HISTORY") || bytes_eq word (codes "ROW") || bytes_eq word (codes "GCELLGRID") then Unused
    else if bytes_eq word (codes "PROPERTYDEFINITIONS") || bytes_eq word (codes "REGIONS") || bytes_eq word (codes "GROUPS")
    || bytes_eq word (codes "FILLS") || bytes_eq word (codes "SLOTS") || bytes_eq word (codes "NONDEFAULTRULES")
    || bytes_eq word (codes "PINPROPERTIES") || bytes_eq word (codes "STYLES") || bytes_eq word (codes "SCANCHAINS") then Skipped
    else if bytes_eq word (codes "BEGINEXT") then Extension
    else if bytes_eq word (codes "END") then End
    else Other

abbrev pub pin_option_of : Option Place → PinOption
pin_option_of None = UnusedInPin
pin_option_of (Some w) =
    if bytes_eq w.word (codes "LAYER") then Layer
    else if bytes_eq w.word (codes "PORT") then Port
    else if bytes_eq w.word (codes "PLACED") || bytes_eq w.word (codes "FIXED") || bytes_eq w.word (codes "COVER") then Placed
    else if bytes_eq w.word (codes "POLYGON") || bytes_eq w.word (codes "VIA") || bytes_eq w.word (codes "MASK") then RefusedInPin
    else UnusedInPin

abbrev pub behind_layer : Option Place → BehindLayer
behind_layer None = Points
behind_layer (Some w) =
    if bytes_eq w.word (codes "SPACING") || bytes_eq w.word (codes "DESIGNRULEWIDTH") then LayerRule
    else if bytes_eq w.word (codes "MASK") then Mask
    else Points

abbrev pub net_option_of : Option Place → NetOption
net_option_of None = UnusedInNet
net_option_of (Some w) =
    if bytes_eq w.word (codes "ROUTED") || bytes_eq w.word (codes "FIXED") || bytes_eq w.word (codes "COVER") || bytes_eq w.word (codes "NOSHIELD") then Wiring
    else if bytes_eq w.word (codes "SUBNET") then Subnet
    else if bytes_eq w.word (codes "NONDEFAULTRULE") then Rule
    else UnusedInNet

abbrev pub special_option_of : Option Place → SpecialOption
special_option_of None = UnusedInSpecial
special_option_of (Some w) =
    if bytes_eq w.word (codes "ROUTED") || bytes_eq w.word (codes "FIXED") || bytes_eq w.word (codes "COVER") then Wired
    else if bytes_eq w.word (codes "RECT") || bytes_eq w.word (codes "VIA") then Metal
    else if bytes_eq w.word (codes "SHAPE") then Shape
    else if bytes_eq w.word (codes "STYLE") then Style
    else if bytes_eq w.word (codes "SHIELD") || bytes_eq w.word (codes "POLYGON") then RefusedInSpecial
    else UnusedInSpecial

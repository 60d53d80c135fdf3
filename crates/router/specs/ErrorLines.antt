-- The line that is said where a run is refused: `error`, the status, a kind and what is kept, a space between each two.
use Rattle.std.specs.Prelude.{ℕ, decimal, List, ◌++◌, codes}
use Rattle.rt_base.specs.declared.scan.ScanError.{ScanError}
use Rattle.rt_base.specs.declared.scan.ScanError.TheVariants.{UnclosedQuote, NotText, Memory as ScanMemory}
use Rattle.rt_words.specs.declared.number.NumberFault.{NumberFault}
use Rattle.rt_words.specs.declared.number.NumberFault.TheVariants.{NotNumber, TooManyDecimals, TooLarge, NotWhole, OutOfRange}
use Rattle.lef_text.specs.declared.error.LefError.{LefError}
use Rattle.lef_text.specs.declared.error.LefError.TheVariants as lef
use Rattle.lef_text.specs.declared.error.What.{What}
use Rattle.lef_text.specs.declared.error.What.TheVariants.{Direction, Width, Spacing}
use Rattle.def_text.specs.declared.error.DefError.{DefError}
use Rattle.def_text.specs.declared.error.DefError.TheVariants as def
use Rattle.guide_text.specs.declared.error.GuideError.{GuideError}
use Rattle.guide_text.specs.declared.error.GuideError.TheVariants as guide
use Rattle.def_wires.specs.declared.error.WireFault.{WireFault}
use Rattle.def_wires.specs.declared.error.WireFault.TheVariants as wire
use Rattle.build.specs.declared.error.BuildError.{BuildError}
use Rattle.build.specs.declared.error.BuildError.TheVariants as build
use Rattle.build.specs.declared.error.Limited.{Limited}
use Rattle.build.specs.declared.error.Limited.TheVariants.{RoutingLayers, Vias, UsableVias, Tracks, Nets, FixedShapes, Coordinate, Entries, Tiles, TileShapes}
use Rattle.router.specs.declared.words.WordsFault.{WordsFault}
use Rattle.router.specs.declared.words.WordsFault.TheVariants.{Shape, Twice, Number, SameName}
use Rattle.router.specs.declared.refusal.Refusal.{Refusal}
use Rattle.router.specs.declared.refusal.Refusal.TheVariants.{Words, LefBytes, DefBytes, GuideBytes, Lef, Def, Guide, Build, Read, Write, Memory}
use Rattle.router.specs.Refusals.{status_of, lef_most, def_most, guide_most}

-- a kind and a number, a name, or both
abbrev pub with_number : List ℕ → ℕ → List ℕ
with_number kind n = kind ++ codes " " ++ decimal n

abbrev pub with_name : List ℕ → List ℕ → List ℕ
with_name kind name = kind ++ codes " " ++ name

abbrev pub with_number_name : List ℕ → ℕ → List ℕ → List ℕ
with_number_name kind n name = with_name (with_number kind n) name

abbrev pub with_names : List ℕ → List ℕ → List ℕ → List ℕ
with_names kind a b = with_name (with_name kind a) b

abbrev pub with_numbers : List ℕ → ℕ → ℕ → List ℕ
with_numbers kind m n = with_number (with_number kind m) n

abbrev pub words_text : WordsFault → List ℕ
words_text (Shape word) = with_number (codes "shape") word
words_text (Twice word) = with_number (codes "twice") word
words_text (Number word) = with_number (codes "number") word
words_text (SameName word) = with_number (codes "same-name") word

abbrev pub scan_text : ScanError → List ℕ
scan_text (UnclosedQuote line) = with_number (codes "quote") line
scan_text (NotText line) = with_number (codes "not-text") line
scan_text ScanMemory = codes "memory"

abbrev pub fault_text : NumberFault → List ℕ
fault_text NotNumber = codes "not-number"
fault_text TooManyDecimals = codes "too-many-decimals"
fault_text TooLarge = codes "too-large"
fault_text NotWhole = codes "not-whole"
fault_text OutOfRange = codes "out-of-range"

abbrev pub what_text : What → List ℕ
what_text Direction = codes "direction"
what_text Width = codes "width"
what_text Spacing = codes "spacing"

abbrev pub lef_text : LefError → List ℕ
lef_text (lef.Scan e) = scan_text e
lef_text (lef.Expected line) = with_number (codes "expected") line
lef_text (lef.Unknown line) = with_number (codes "unknown") line
lef_text (lef.Number line fault) = with_number_name (codes "number") line (fault_text fault)
lef_text (lef.Twice line name) = with_number_name (codes "twice") line name
lef_text (lef.NoLayer line name) = with_number_name (codes "no-layer") line name
lef_text (lef.LayerWithout name what) = with_names (codes "layer-without") name (what_text what)
lef_text (lef.SameDirection lower upper) = with_names (codes "same-direction") lower upper
lef_text (lef.OddWidth name) = with_name (codes "odd-width") name
lef_text (lef.Refused line word) = with_number_name (codes "refused") line word
lef_text (lef.Unended line) = with_number (codes "unended") line
lef_text lef.Memory = codes "memory"

abbrev pub def_text : DefError → List ℕ
def_text (def.Scan e) = scan_text e
def_text (def.Expected line) = with_number (codes "expected") line
def_text (def.Unknown line) = with_number (codes "unknown") line
def_text (def.Number line fault) = with_number_name (codes "number") line (fault_text fault)
def_text (def.Twice line name) = with_number_name (codes "twice") line name
def_text (def.Refused line word) = with_number_name (codes "refused") line word
def_text (def.Unended line) = with_number (codes "unended") line
def_text (def.Count name said found) = with_numbers (with_name (codes "count") name) said found
def_text (def.DiePolygon line) = with_number (codes "die-polygon") line
def_text (def.Missing what) = with_name (codes "missing") what
def_text def.Memory = codes "memory"

abbrev pub guide_text : GuideError → List ℕ
guide_text (guide.Scan e) = scan_text e
guide_text (guide.Expected line) = with_number (codes "expected") line
guide_text (guide.Number line) = with_number (codes "number") line
guide_text (guide.EmptyBox line) = with_number (codes "empty-box") line
guide_text (guide.Twice line name) = with_number_name (codes "twice") line name
guide_text (guide.Unended line) = with_number (codes "unended") line
guide_text guide.Memory = codes "memory"

abbrev pub wire_text : WireFault → List ℕ
wire_text (wire.Expected line) = with_number (codes "expected") line
wire_text (wire.Number line) = with_number (codes "number") line
wire_text (wire.NoSuchLayer line) = with_number (codes "no-such-layer") line
wire_text (wire.NoSuchVia line) = with_number (codes "no-such-via") line
wire_text (wire.FirstStar line) = with_number (codes "first-star") line
wire_text (wire.Diagonal line) = with_number (codes "diagonal") line
wire_text (wire.ViaOffLayer line) = with_number (codes "via-off-layer") line
wire_text (wire.Refused line) = with_number (codes "refused") line
wire_text wire.Memory = codes "memory"

abbrev pub limited_text : Limited → List ℕ
limited_text RoutingLayers = codes "routing-layers"
limited_text Vias = codes "vias"
limited_text UsableVias = codes "usable-vias"
limited_text Tracks = codes "tracks"
limited_text Nets = codes "nets"
limited_text FixedShapes = codes "fixed-shapes"
limited_text Coordinate = codes "coordinate"
limited_text Entries = codes "entries"
limited_text Tiles = codes "tiles"
limited_text TileShapes = codes "tile-shapes"

-- `limit`, what is counted, the count and its most
abbrev pub limit_text : List ℕ → ℕ → ℕ → List ℕ
limit_text what count most = with_numbers (with_name (codes "limit") what) count most

abbrev pub build_text : BuildError → List ℕ
build_text (build.Scale lef def) = with_numbers (codes "scale") lef def
build_text (build.NoMacro name) = with_name (codes "no-macro") name
build_text (build.NoComponent name) = with_name (codes "no-component") name
build_text (build.NoPin name) = with_name (codes "no-pin") name
build_text (build.NoLayer name) = with_name (codes "no-layer") name
build_text (build.NoNet name) = with_name (codes "no-net") name
build_text (build.PinTwice name) = with_name (codes "pin-twice") name
build_text (build.Wiring fault) = with_name (codes "wiring") (wire_text fault)
build_text (build.NoTracks name) = with_name (codes "no-tracks") name
build_text (build.Limit what count most) = limit_text (limited_text what) count most
build_text build.Memory = codes "memory"

-- the kind of a refusal and what it keeps
abbrev pub kind_text : Refusal → List ℕ
kind_text (Words e) = words_text e
kind_text (LefBytes read) = limit_text (codes "lef-bytes") read lef_most
kind_text (DefBytes read) = limit_text (codes "def-bytes") read def_most
kind_text (GuideBytes read) = limit_text (codes "guide-bytes") read guide_most
kind_text (Lef e) = lef_text e
kind_text (Def e) = def_text e
kind_text (Guide e) = guide_text e
kind_text (Build e) = build_text e
kind_text (Read name) = with_name (codes "read") name
kind_text (Write name) = with_name (codes "write") name
kind_text Memory = codes "memory"

-- the whole line, with its line feed
abbrev pub error_line : Refusal → List ℕ
error_line r = with_number (codes "error") (status_of r) ++ codes " " ++ kind_text r ++ codes "\n"

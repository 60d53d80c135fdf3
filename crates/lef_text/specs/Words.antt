-- What statements and lines of LEF are by their first words.
use Rattle.std.specs.Prelude.{ℕ, List, bytes_eq, codes, ◌||◌, if◌then◌else◌}
use Rattle.lef_text.specs.declared.statement_words.Statement.{Statement}
use Rattle.lef_text.specs.declared.statement_words.Statement.TheVariants as statements
use Rattle.lef_text.specs.declared.layer_words.LayerLine.{LayerLine}
use Rattle.lef_text.specs.declared.layer_words.LayerLine.TheVariants as layer_lines
use Rattle.lef_text.specs.declared.via_words.ViaLine.{ViaLine}
use Rattle.lef_text.specs.declared.via_words.ViaLine.TheVariants as via_lines
use Rattle.lef_text.specs.declared.via_words.FormLine.TheVariants as form_lines
use Rattle.lef_text.specs.declared.macro_words.MacroLine.{MacroLine}
use Rattle.lef_text.specs.declared.macro_words.MacroLine.TheVariants as macro_lines
use Rattle.lef_text.specs.declared.shape_words.ShapeLine.{ShapeLine}
use Rattle.lef_text.specs.declared.shape_words.ShapeLine.TheVariants as shape_lines

unfoldable pub statement_of : List ℕ → Statement
statement_of word =
    if bytes_eq word (codes "LAYER") then statements.Layer
    else if bytes_eq word (codes "VIA") then statements.Via
    else if bytes_eq word (codes "MACRO") then statements.Macro
    else if bytes_eq word (codes "UNITS") then statements.Units
    else if bytes_eq word (codes "VERSION") || bytes_eq word (codes "BUSBITCHARS") || bytes_eq word (codes "DIVIDERCHAR") || bytes_eq word (codes "NAMESCASESENSITIVE") || bytes_eq word (codes "MANUFACTURINGGRID") || bytes_eq word (codes "USEMINSPACING") || bytes_eq word (codes "CLEARANCEMEASURE") || bytes_eq word (codes "MAXVIASTACK") || bytes_eq word (codes "FIXEDMASK") then statements.Unused
    else if bytes_eq word (codes "PROPERTYDEFINITIONS") then statements.Properties
    else if bytes_eq word (codes "SPACING") then statements.Spacings
    else if bytes_eq word (codes "BEGINEXT") then statements.Extension
    else if bytes_eq word (codes "SITE") then statements.Site
    else if bytes_eq word (codes "VIARULE") || bytes_eq word (codes "NONDEFAULTRULE") then statements.Rule
    else if bytes_eq word (codes "END") then statements.End
    else statements.Unknown

-- a line of a routing or cut layer
unfoldable pub layer_line_of : List ℕ → LayerLine
layer_line_of word =
    if bytes_eq word (codes "DIRECTION") then layer_lines.Direction
    else if bytes_eq word (codes "PITCH") || bytes_eq word (codes "OFFSET") then layer_lines.Unused
    else if bytes_eq word (codes "WIDTH") then layer_lines.Width
    else if bytes_eq word (codes "SPACING") then layer_lines.Spacing
    else if bytes_eq word (codes "SPACINGTABLE") then layer_lines.SpacingTable
    else if bytes_eq word (codes "ACCURRENTDENSITY") || bytes_eq word (codes "DCCURRENTDENSITY") then layer_lines.CurrentDensity
    else if bytes_eq word (codes "END") then layer_lines.End
    else layer_lines.Other

-- a line of a via
unfoldable pub via_line_of : List ℕ → ViaLine
via_line_of word =
    if bytes_eq word (codes "LAYER") then via_lines.Layer
    else if bytes_eq word (codes "RECT") then via_lines.Rect
    else if bytes_eq word (codes "POLYGON") then via_lines.Polygon
    else if bytes_eq word (codes "RESISTANCE") || bytes_eq word (codes "PROPERTY") || bytes_eq word (codes "FOREIGN") then via_lines.Unused
    else if bytes_eq word (codes "VIARULE") then via_lines.Form form_lines.Rule
    else if bytes_eq word (codes "CUTSIZE") then via_lines.Form form_lines.CutSize
    else if bytes_eq word (codes "LAYERS") then via_lines.Form form_lines.Layers
    else if bytes_eq word (codes "CUTSPACING") then via_lines.Form form_lines.CutSpacing
    else if bytes_eq word (codes "ENCLOSURE") then via_lines.Form form_lines.Enclosure
    else if bytes_eq word (codes "ROWCOL") then via_lines.Form form_lines.RowCol
    else if bytes_eq word (codes "MASK") || bytes_eq word (codes "ORIGIN") || bytes_eq word (codes "OFFSET") || bytes_eq word (codes "PATTERN") then via_lines.Refused
    else if bytes_eq word (codes "END") then via_lines.End
    else via_lines.Unknown

-- a line of a macro
unfoldable pub macro_line_of : List ℕ → MacroLine
macro_line_of word =
    if bytes_eq word (codes "SIZE") then macro_lines.Size
    else if bytes_eq word (codes "ORIGIN") then macro_lines.Origin
    else if bytes_eq word (codes "PIN") then macro_lines.Pin
    else if bytes_eq word (codes "OBS") then macro_lines.Obs
    else if bytes_eq word (codes "DENSITY") then macro_lines.Density
    else if bytes_eq word (codes "TIMING") then macro_lines.Timing
    else if bytes_eq word (codes "CLASS") || bytes_eq word (codes "FOREIGN") || bytes_eq word (codes "SYMMETRY") || bytes_eq word (codes "SITE") || bytes_eq word (codes "EEQ") || bytes_eq word (codes "SOURCE") || bytes_eq word (codes "FIXEDMASK") || bytes_eq word (codes "PROPERTY") then macro_lines.Unused
    else if bytes_eq word (codes "END") then macro_lines.End
    else macro_lines.Unknown

-- a line of PORT or OBS
unfoldable pub shape_line_of : List ℕ → ShapeLine
shape_line_of word =
    if bytes_eq word (codes "CLASS") then shape_lines.Unused
    else if bytes_eq word (codes "LAYER") then shape_lines.Layer
    else if bytes_eq word (codes "WIDTH") then shape_lines.Width
    else if bytes_eq word (codes "RECT") then shape_lines.Rect
    else if bytes_eq word (codes "POLYGON") then shape_lines.Polygon
    else if bytes_eq word (codes "PATH") || bytes_eq word (codes "VIA") || bytes_eq word (codes "MASK") || bytes_eq word (codes "ITERATE") then shape_lines.Refused
    else if bytes_eq word (codes "END") then shape_lines.End
    else shape_lines.Unknown

-- Vias of DEF (DEF 5.8, Vias): rectangles, or a generated via.
use Rattle.std.specs.Prelude.{ℕ, ℤ, pos, List, [], ◌∷◌, ◌++◌, Err, Option, Some, None, Bool, true, false, bytes_eq, codes, ◌||◌, is_some, if◌then◌else◌}
use Rattle.rt_base.specs.Geometry.{hull_of}
use Rattle.rt_base.specs.declared.tech.LayerNo.{LayerNo}
use Rattle.rt_base.specs.declared.tech.Tech.{Tech}
use Rattle.rt_base.specs.declared.tech.Via.{Via}
use Rattle.rt_shapes.specs.declared.cut_array.Generated.{Generated}
use Rattle.rt_shapes.specs.GeneratedVias.{generated_of}
use Rattle.rt_forms.specs.Lexeme.{Place}
use Rattle.rt_forms.specs.Form.{Form, next, one, admit, check, done, ◌>>=◌, choose, loop, unless, no_word, whole, Turn, More, Done}
use Rattle.rt_forms.specs.Reading.{the_word, a_name}
use Rattle.def_wires.specs.declared.error.WireFault.{WireFault}
use Rattle.def_wires.specs.declared.error.WireFault.TheVariants.{Expected, Refused}
use Rattle.def_wires.specs.declared.via_words.ViaWord.{ViaWord}
use Rattle.def_wires.specs.declared.via_words.ViaWord.TheVariants.{Rect, Rule, CutSize, Layers, CutSpacing, Enclosure, RowCol, RefusedInVia, OtherInVia}
use Rattle.def_wires.specs.declared.vias.ViaParts.{ViaParts}
use Rattle.def_wires.specs.Meaning.{Metal}
use Rattle.def_wires.specs.Words.{number_from, any_layer}
use Rattle.def_wires.specs.Paths.{plain_point}

-- a word behind `+`
abbrev pub via_word : List ℕ → ViaWord
via_word word =
    if bytes_eq word (codes "RECT") then Rect
    else if bytes_eq word (codes "VIARULE") then Rule
    else if bytes_eq word (codes "CUTSIZE") then CutSize
    else if bytes_eq word (codes "LAYERS") then Layers
    else if bytes_eq word (codes "CUTSPACING") then CutSpacing
    else if bytes_eq word (codes "ENCLOSURE") then Enclosure
    else if bytes_eq word (codes "ROWCOL") then RowCol
    else if bytes_eq word (codes "POLYGON") || bytes_eq word (codes "MASK") || bytes_eq word (codes "ORIGIN") || bytes_eq word (codes "OFFSET") || bytes_eq word (codes "PATTERN") then RefusedInVia
    else OtherInVia

-- ---- rectangles

-- `layer point point` behind RECT
unfoldable pub via_rect : Tech → Form WireFault Metal
via_rect tech = do
  layer ← one (any_layer tech)
  p ← plain_point
  q ← plain_point
  done (layer, hull_of p q)

abbrev pub rect_by : Tech → ViaWord → Place → List Metal → Form WireFault (List Metal)
rect_by tech Rect w rects = do
  r ← via_rect tech
  done (rects ++ r ∷ [])
rect_by tech RefusedInVia w rects = check (Err (Refused w.line))
rect_by tech Rule w rects = check (Err (Expected w.line))
rect_by tech CutSize w rects = check (Err (Expected w.line))
rect_by tech Layers w rects = check (Err (Expected w.line))
rect_by tech CutSpacing w rects = check (Err (Expected w.line))
rect_by tech Enclosure w rects = check (Err (Expected w.line))
rect_by tech RowCol w rects = check (Err (Expected w.line))
rect_by tech OtherInVia w rects = check (Err (Expected w.line))

-- one more rectangle
unfoldable pub more_rects : Tech → List Metal → Form WireFault (Turn (List Metal))
more_rects tech rects = do
  _ ← the_word (codes "+")
  w ← next
  rects' ← rect_by tech (via_word w.word) w rects
  done (More rects')

-- ---- the generated form

abbrev pub no_parts : ViaParts
no_parts = record { rule = false; cut = None; layers = None; spacing = None; enclosure = None; array = None }

-- `x y` from low on
unfoldable pub pair_from : ℕ → Form WireFault (ℤ × ℤ)
pair_from low = do
  x ← one (number_from low)
  y ← one (number_from low)
  done (x, y)

-- an option stands once
abbrev pub if_new : {A : Type 0} → Bool → Place → Form WireFault A → Form WireFault A
if_new stood w F = choose stood (check (Err (Expected w.line))) F

unfoldable pub rule_part : Place → ViaParts → Form WireFault ViaParts
rule_part w parts = if_new parts.rule w (do
  _ ← a_name
  done (record parts { rule = true }))

unfoldable pub cut_part : Place → ViaParts → Form WireFault ViaParts
cut_part w parts = if_new (is_some parts.cut) w (do
  p ← pair_from 1
  done (record parts { cut = Some p }))

unfoldable pub layers_part : Tech → Place → ViaParts → Form WireFault ViaParts
layers_part tech w parts = if_new (is_some parts.layers) w (do
  bottom ← one (any_layer tech)
  cut ← one (any_layer tech)
  top ← one (any_layer tech)
  done (record parts { layers = Some (bottom, cut, top) }))

unfoldable pub spacing_part : Place → ViaParts → Form WireFault ViaParts
spacing_part w parts = if_new (is_some parts.spacing) w (do
  p ← pair_from 0
  done (record parts { spacing = Some p }))

unfoldable pub enclosure_part : Place → ViaParts → Form WireFault ViaParts
enclosure_part w parts = if_new (is_some parts.enclosure) w (do
  b ← pair_from 0
  t ← pair_from 0
  done (record parts { enclosure = Some (b, t) }))

-- rows, then columns
unfoldable pub array_part : Place → ViaParts → Form WireFault ViaParts
array_part w parts = if_new (is_some parts.array) w (do
  p ← pair_from 1
  done (record parts { array = Some p }))

abbrev pub part_by : Tech → ViaWord → Place → ViaParts → Form WireFault ViaParts
part_by tech Rule w parts = rule_part w parts
part_by tech CutSize w parts = cut_part w parts
part_by tech Layers w parts = layers_part tech w parts
part_by tech CutSpacing w parts = spacing_part w parts
part_by tech Enclosure w parts = enclosure_part w parts
part_by tech RowCol w parts = array_part w parts
part_by tech Rect w parts = check (Err (Expected w.line))
part_by tech RefusedInVia w parts = check (Err (Refused w.line))
part_by tech OtherInVia w parts = check (Err (Expected w.line))

-- one more option
unfoldable pub more_parts : Tech → ViaParts → Form WireFault (Turn ViaParts)
more_parts tech parts = do
  _ ← the_word (codes "+")
  w ← next
  parts' ← part_by tech (via_word w.word) w parts
  done (More parts')

abbrev pub rows_of : Option (ℤ × ℤ) → ℤ
rows_of None = pos 1
rows_of (Some p) = p.0

abbrev pub columns_of : Option (ℤ × ℤ) → ℤ
columns_of None = pos 1
columns_of (Some p) = p.1

-- the generated form, where all its parts but ROWCOL stand; that has one row and one column by default
abbrev pub generated_by : Bool → Option (ℤ × ℤ) → Option (LayerNo × LayerNo × LayerNo) → Option (ℤ × ℤ) → Option ((ℤ × ℤ) × (ℤ × ℤ)) → Option (ℤ × ℤ) → Option Generated
generated_by true (Some cut) (Some layers) (Some spacing) (Some enclosure) array =
    Some (record { cut = cut; layers = layers; spacing = spacing; enclosure = (enclosure.0.0, enclosure.0.1, enclosure.1.0, enclosure.1.1); rows = rows_of array; columns = columns_of array })
generated_by _ _ _ _ _ _ = None

abbrev pub form_of : ViaParts → Option Generated
form_of parts = generated_by parts.rule parts.cut parts.layers parts.spacing parts.enclosure parts.array

-- the rectangles of the generated form; where a part lacks, another one is expected
abbrev pub generated_or_more : Option Generated → Form WireFault (List Metal)
generated_or_more None = admit (λ w. None)
generated_or_more (Some form) = done (generated_of form)

-- ---- a via

-- rectangles behind a first `+ RECT`
unfoldable pub rects_then : Tech → Form WireFault (List Metal)
rects_then tech = do
  r ← via_rect tech
  loop (unless no_word (more_rects tech)) (r ∷ [])

-- options behind a first `+` and its word
unfoldable pub parts_then : Tech → ViaWord → Place → Form WireFault (List Metal)
parts_then tech kind w = do
  first ← part_by tech kind w no_parts
  parts ← loop (unless no_word (more_parts tech)) first
  generated_or_more (form_of parts)

abbrev pub via_by : Tech → ViaWord → Place → Form WireFault (List Metal)
via_by tech Rect w = rects_then tech
via_by tech Rule w = parts_then tech Rule w
via_by tech CutSize w = parts_then tech CutSize w
via_by tech Layers w = parts_then tech Layers w
via_by tech CutSpacing w = parts_then tech CutSpacing w
via_by tech Enclosure w = parts_then tech Enclosure w
via_by tech RowCol w = parts_then tech RowCol w
via_by tech RefusedInVia w = parts_then tech RefusedInVia w
via_by tech OtherInVia w = parts_then tech OtherInVia w

-- the rectangles of a via
unfoldable pub via_rects : Tech → Form WireFault (List Metal)
via_rects tech = do
  _ ← the_word (codes "+")
  w ← next
  via_by tech (via_word w.word) w

-- a via of this name, which routing doesn't use
unfoldable pub named_via : List ℕ → Tech → Form WireFault Via
named_via name tech = do
  rects ← via_rects tech
  done (record { name = name; usable = false; rects = rects })

abbrev pub via_form : List ℕ → Tech → Form WireFault Via
via_form name tech = whole (named_via name tech)

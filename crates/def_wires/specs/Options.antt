-- Wiring that begins with `+` (DEF 5.8, Special Wiring Statement): a rectangle, or a via at points. Behind the option of regular wiring paths stand, so that a `+` there is the option's own, behind which nothing stands.
use Rattle.std.specs.Prelude.{ℕ, pos, List, [], ◌∷◌, ◌++◌, Err, Option, Some, None, Bool, bytes_eq, codes, not, true, false, ◌||◌, if◌then◌else◌}
use Rattle.rt_base.specs.Sides.{Sides}
use Rattle.rt_base.specs.Geometry.{hull_of}
use Rattle.rt_base.specs.declared.geometry.Point.{Point}
use Rattle.rt_base.specs.declared.orient.Orient.{Orient}
use Rattle.rt_base.specs.declared.tech.LayerNo.{LayerNo}
use Rattle.rt_base.specs.declared.tech.Tech.{Tech}
use Rattle.rt_forms.specs.Lexeme.{Place}
use Rattle.rt_forms.specs.Form.{Form, next, one, admit, look, check, done, ◌>>=◌, choose, loop, unless, no_word, whole, Turn, More, Done}
use Rattle.rt_forms.specs.Reading.{the_word, a_name, is_next, if_so}
use Rattle.def_wires.specs.declared.error.WireFault.{WireFault}
use Rattle.def_wires.specs.declared.error.WireFault.TheVariants.{Expected}
use Rattle.def_wires.specs.declared.words.OptionWord.{OptionWord}
use Rattle.def_wires.specs.declared.words.OptionWord.TheVariants.{Rect, Via, Shape, Lead, OtherOption}
use Rattle.def_wires.specs.declared.wiring.Wiring.{Wiring}
use Rattle.def_wires.specs.declared.wiring.WirePath.{WirePath}
use Rattle.def_wires.specs.declared.wiring.WireStep.{WireStep}
use Rattle.def_wires.specs.declared.wiring.WireStep.TheVariants.{Start, Via as Through, Patch}
use Rattle.def_wires.specs.Words.{any_layer, any_via, layers_of_via}
use Rattle.def_wires.specs.Paths.{plain_point, orient, all_paths}

abbrev pub origin : Point
origin = record { x = pos 0; y = pos 0 }

-- the path of `+ RECT`
abbrev pub rect_path : LayerNo → Sides → WirePath
rect_path layer r = record { width = Some (pos 0); steps = Start layer origin None ∷ Patch r ∷ [] }

-- a path of `+ VIA`, from the via's lower routing layer
abbrev pub via_path : LayerNo → ℕ → Orient → Point → WirePath
via_path layer v o point = record { width = Some (pos 0); steps = Start layer point None ∷ Through v o ∷ [] }

-- `layer point point` behind RECT
unfoldable pub rect_option : Tech → Form WireFault (List WirePath)
rect_option tech = do
  layer ← one (any_layer tech)
  p ← plain_point
  q ← plain_point
  done (rect_path layer (hull_of p q) ∷ [])

-- one more point of a via
unfoldable pub more_points : LayerNo → ℕ → Orient → List WirePath → Form WireFault (Turn (List WirePath))
more_points layer v o paths = do
  p ← plain_point
  done (More (paths ++ via_path layer v o p ∷ []))

-- `name [orient] point ..` behind VIA
unfoldable pub via_option : Tech → Form WireFault (List WirePath)
via_option tech = do
  w ← next
  v ← check (any_via tech w)
  j ← check (layers_of_via tech w.line v)
  o ← orient
  p ← plain_point
  loop (unless no_word (more_points j.lower v o)) (via_path j.lower v o p ∷ [])

-- a word behind `+`
abbrev pub option_word : List ℕ → OptionWord
option_word word =
    if bytes_eq word (codes "RECT") then Rect
    else if bytes_eq word (codes "VIA") then Via
    else if bytes_eq word (codes "SHAPE") then Shape
    else if bytes_eq word (codes "ROUTED") || bytes_eq word (codes "FIXED") || bytes_eq word (codes "COVER") then Lead
    else OtherOption

-- RECT or VIA, behind whose `+` this word stands
abbrev pub shapes_by : Tech → OptionWord → Place → Form WireFault (List WirePath)
shapes_by tech Rect w = rect_option tech
shapes_by tech Via w = via_option tech
shapes_by tech Shape w = check (Err (Expected w.line))
shapes_by tech Lead w = check (Err (Expected w.line))
shapes_by tech OtherOption w = check (Err (Expected w.line))

-- RECT or VIA behind its `+`
unfoldable pub shapes : Tech → Form WireFault (List WirePath)
shapes tech = do
  w ← next
  shapes_by tech (option_word w.word) w

-- another word stands there than `+`
abbrev pub is_other : Option Place → Bool
is_other None = false
is_other (Some w) = not (bytes_eq w.word (codes "+"))

-- `t`, behind SHAPE, and `+ RECT` or `+ VIA`. SHAPE that isn't directly before them isn't expected, at its `+`
unfoldable pub shape_then : Tech → ℕ → Form WireFault (List WirePath)
shape_then tech plus = do
  _ ← a_name
  w ← look
  choose (is_other w) (check (Err (Expected plus))) (do
    _ ← the_word (codes "+")
    shapes tech)

abbrev pub after_lead : Tech → OptionWord → ℕ → Place → Form WireFault (List WirePath)
after_lead tech Rect plus w = rect_option tech
after_lead tech Via plus w = via_option tech
after_lead tech Shape plus w = shape_then tech plus
after_lead tech Lead plus w = check (Err (Expected w.line))
after_lead tech OtherOption plus w = check (Err (Expected w.line))

-- `+`, by its line
abbrev pub plus_line : Form WireFault ℕ
plus_line = admit (λ w. if_so (bytes_eq w.word (codes "+")) w.line)

-- behind ROUTED, FIXED or COVER without paths
unfoldable pub lead_then : Tech → Form WireFault (List WirePath)
lead_then tech = do
  plus ← plus_line
  w ← next
  after_lead tech (option_word w.word) plus w

-- behind a first `+`
abbrev pub special_by : Tech → OptionWord → ℕ → Place → Form WireFault (List WirePath)
special_by tech Rect plus w = rect_option tech
special_by tech Via plus w = via_option tech
special_by tech Shape plus w = shape_then tech plus
special_by tech Lead plus w = lead_then tech
special_by tech OtherOption plus w = check (Err (Expected w.line))

-- the option's own words alone, behind which a path should stand
abbrev pub empty_option : Form WireFault (List WirePath)
empty_option = do
  _ ← a_name
  admit (λ w. None)

-- wiring that begins with `+`
unfoldable pub plus_paths : Tech → Bool → Form WireFault (List WirePath)
plus_paths tech special = do
  plus ← next
  choose special (do
    w ← next
    special_by tech (option_word w.word) plus.line w) empty_option

-- the whole of a range of wiring
unfoldable pub wiring : Tech → Bool → Form WireFault Wiring
wiring tech special = do
  w ← look
  paths ← choose (is_next (codes "+") w) (plus_paths tech special) (all_paths tech special)
  done (record { paths = paths })

abbrev pub wiring_form : Tech → Bool → Form WireFault Wiring
wiring_form tech special = whole (wiring tech special)

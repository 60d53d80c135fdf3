-- Paths of wiring (DEF 5.8, Regular Wiring Statement and Special Wiring Statement).
use Rattle.std.specs.Prelude.{ℕ, ℤ, pos, ◌+ℤ◌, ◌*ℤ◌, List, [], ◌∷◌, ◌++◌, Result, Ok, Err, Option, Some, None, Bool, true, false, bytes_eq, codes, ◌&&◌, not, if◌then◌else◌, unsigned_abs}
use Rattle.std.specs.List.{range_with_len, flat_map}
use Rattle.std.specs.Ordering.{int_eq}
use Rattle.rt_base.specs.Sides.{Sides}
use Rattle.rt_base.specs.Geometry.{hull_of}
use Rattle.rt_base.specs.declared.geometry.Point.{Point}
use Rattle.rt_base.specs.declared.orient.Orient.{Orient}
use Rattle.rt_base.specs.declared.orient.Orient.TheVariants.{N}
use Rattle.rt_base.specs.declared.tech.LayerNo.{LayerNo}
use Rattle.rt_base.specs.declared.tech.Tech.{Tech}
use Rattle.rt_forms.specs.Lexeme.{Place}
use Rattle.rt_forms.specs.Form.{Form, next, one, look, check, done, ◌>>=◌, choose, loop, unless, no_word, Turn, More, Done}
use Rattle.rt_forms.specs.Reading.{the_word, a_name, is_next}
use Rattle.def_wires.specs.declared.error.WireFault.{WireFault}
use Rattle.def_wires.specs.declared.error.WireFault.TheVariants.{Expected, Refused}
use Rattle.def_wires.specs.declared.words.StepWord.{StepWord}
use Rattle.def_wires.specs.declared.words.StepWord.TheVariants.{Opening, Rectangle, RefusedStep, ViaName, Other}
use Rattle.def_wires.specs.declared.points.Corner.{Corner}
use Rattle.def_wires.specs.declared.arrays.Array.{Array}
use Rattle.def_wires.specs.declared.steps.OpenPath.{OpenPath}
use Rattle.def_wires.specs.declared.wiring.Spot.{Spot}
use Rattle.def_wires.specs.declared.wiring.WirePath.{WirePath}
use Rattle.def_wires.specs.declared.wiring.WireStep.{WireStep}
use Rattle.def_wires.specs.declared.wiring.WireStep.TheVariants.{Start, Go, Via as Through, Patch}
use Rattle.def_wires.specs.Words.{number_of, number_from, first_coordinate, coordinate, last_coordinate, routing_layer, any_via, layer_beyond, orient_next, step_word, opening}

-- ---- points and rectangles

-- `)`, or an extension and `)`
unfoldable pub extension : Form WireFault (Option ℤ)
extension = do
  w ← next
  choose (bytes_eq w.word (codes ")")) (done None) (do
    ext ← check (number_from 0 w)
    _ ← the_word (codes ")")
    done (Some ext))

-- a path's first point behind its `(`
unfoldable pub first_corner : Form WireFault Corner
first_corner = do
  x ← one first_coordinate
  y ← one first_coordinate
  ext ← extension
  done (record { point = record { x = x; y = y }; ext = ext })

-- a later point behind its `(`
unfoldable pub next_corner : Point → Form WireFault Corner
next_corner from = do
  x ← one (coordinate from.x)
  point ← one (last_coordinate from x)
  ext ← extension
  done (record { point = point; ext = ext })

-- `( x y )`
unfoldable pub plain_point : Form WireFault Point
plain_point = do
  _ ← the_word (codes "(")
  x ← one number_of
  y ← one number_of
  _ ← the_word (codes ")")
  done (record { x = x; y = y })

-- `( x y x y )`, corners in any order
unfoldable pub patch : Form WireFault Sides
patch = do
  _ ← the_word (codes "(")
  x ← one number_of
  y ← one number_of
  u ← one number_of
  v ← one number_of
  _ ← the_word (codes ")")
  done (hull_of (record { x = x; y = y }) (record { x = u; y = v }))

-- ---- vias

abbrev pub orient_or_north : Option Orient → Form WireFault Orient
orient_or_north None = done N
orient_or_north (Some orient) = do
  _ ← next
  done orient

-- an orientation, or N where none stands there
unfoldable pub orient : Form WireFault Orient
orient = do
  w ← look
  orient_or_north (orient_next w)

-- `n BY m STEP sx sy` behind DO
unfoldable pub array : Form WireFault Array
array = do
  columns ← one (number_from 1)
  _ ← the_word (codes "BY")
  rows ← one (number_from 1)
  _ ← the_word (codes "STEP")
  dx ← one number_of
  dy ← one number_of
  done (record { columns = columns; rows = rows; step = record { x = dx; y = dy } })

-- an array behind a via of special wiring, if there is one
unfoldable pub optional_array : Bool → Form WireFault (Option Array)
optional_array special = do
  w ← look
  choose (special && is_next (codes "DO") w) (do
    _ ← next
    a ← array
    done (Some a)) (done None)

-- where copy i of row j of an array stands
abbrev pub copy_point : Point → Point → ℕ → ℕ → Point
copy_point from step j i = record { x = from.x +ℤ pos i *ℤ step.x; y = from.y +ℤ pos j *ℤ step.y }

-- a via at a point, from a layer
abbrev pub copy_at : LayerNo → ℕ → Orient → Point → List WireStep
copy_at layer v o point = Start layer point None ∷ Through v o ∷ []

-- the copies of a row, from the first on
abbrev pub copies_of_row : Array → Spot → ℕ → Orient → ℕ → List WireStep
copies_of_row a at v o j = flat_map (λ i. copy_at at.layer v o (copy_point at.point a.step j i)) (range_with_len 0 (unsigned_abs a.columns))

-- all copies, row by row
abbrev pub copies_of : Array → Spot → ℕ → Orient → List WireStep
copies_of a at v o = flat_map (copies_of_row a at v o) (range_with_len 0 (unsigned_abs a.rows))

-- the steps of a via: itself, or its copies, behind which the path goes on from its last point on the other layer
abbrev pub via_steps : Spot → ℕ → Orient → LayerNo → Option Array → List WireStep
via_steps at v o other None = Through v o ∷ []
via_steps at v o other (Some a) = copies_of a at v o ++ Start other at.point at.ext ∷ []

abbrev pub with_via : OpenPath → ℕ → Orient → LayerNo → Option Array → OpenPath
with_via path v o other a = record path { steps = path.steps ++ via_steps path.spot v o other a; spot = record path.spot { layer = other } }

-- a via's step behind its name
unfoldable pub via_step : Tech → Bool → Place → OpenPath → Form WireFault OpenPath
via_step tech special w path = do
  v ← check (any_via tech w)
  other ← check (layer_beyond tech path.spot.layer w.line v)
  o ← orient
  a ← optional_array special
  done (with_via path v o other a)

-- ---- steps

-- a path of width 0 has no second point
abbrev pub has_wires : Option ℤ → Bool
has_wires None = true
has_wires (Some w) = not (int_eq w (pos 0))

abbrev pub if_wires : Option ℤ → ℕ → Result (Unit {0}) WireFault
if_wires width line = if has_wires width then Ok tt else Err (Expected line)

abbrev pub with_go : OpenPath → Corner → OpenPath
with_go path c = record path { steps = path.steps ++ Go c.point c.ext ∷ []; spot = record path.spot { point = c.point; ext = c.ext } }

abbrev pub with_patch : OpenPath → Sides → OpenPath
with_patch path r = record path { steps = path.steps ++ Patch r ∷ [] }

unfoldable pub go_step : Place → OpenPath → Form WireFault OpenPath
go_step w path = do
  _ ← check (if_wires path.width w.line)
  c ← next_corner path.spot.point
  done (with_go path c)

unfoldable pub patch_step : OpenPath → Form WireFault OpenPath
patch_step path = do
  r ← patch
  done (with_patch path r)

abbrev pub step_by : Tech → Bool → StepWord → Place → OpenPath → Form WireFault OpenPath
step_by tech special Opening w path = go_step w path
step_by tech special Rectangle w path = patch_step path
step_by tech special RefusedStep w path = check (Err (Refused w.line))
step_by tech special ViaName w path = via_step tech special w path
step_by tech special Other w path = check (Err (Expected w.line))

-- one more step
unfoldable pub more_steps : Tech → Bool → OpenPath → Form WireFault (Turn OpenPath)
more_steps tech special path = do
  w ← next
  path' ← step_by tech special (step_word w.word) w path
  done (More path')

-- NEW, or the end of the words, ends a path
abbrev pub ends_path : Option Place → Bool
ends_path None = true
ends_path (Some w) = bytes_eq w.word (codes "NEW")

-- ---- paths

-- a path with its first point
abbrev pub begun : Option ℤ → LayerNo → Corner → OpenPath
begun width layer c = record { width = width; steps = Start layer c.point c.ext ∷ []; spot = record { layer = layer; point = c.point; ext = c.ext } }

-- the word, if it is the next
unfoldable pub optional_word : List ℕ → Form WireFault (Unit {0})
optional_word word = do
  w ← look
  choose (is_next word w) (do
    _ ← next
    done tt) (done tt)

-- `layer [TAPER] point`
unfoldable pub regular_start : Tech → Form WireFault OpenPath
regular_start tech = do
  layer ← one (routing_layer tech)
  _ ← optional_word (codes "TAPER")
  _ ← one opening
  c ← first_corner
  done (begun None layer c)

-- `[+ SHAPE t]`
unfoldable pub optional_shape : Form WireFault (Unit {0})
optional_shape = do
  w ← look
  choose (is_next (codes "+") w) (do
    _ ← next
    _ ← the_word (codes "SHAPE")
    _ ← a_name
    done tt) (done tt)

-- `layer width [+ SHAPE t] point`
unfoldable pub special_start : Tech → Form WireFault OpenPath
special_start tech = do
  layer ← one (routing_layer tech)
  width ← one (number_from 0)
  _ ← optional_shape
  _ ← one opening
  c ← first_corner
  done (begun (Some width) layer c)

abbrev pub closed : OpenPath → WirePath
closed path = record { width = path.width; steps = path.steps }

-- a path up to NEW or the end of the words
unfoldable pub path : Tech → Bool → Form WireFault WirePath
path tech special = do
  begin ← choose special (special_start tech) (regular_start tech)
  all ← loop (unless ends_path (more_steps tech special)) begin
  done (closed all)

-- one more path
unfoldable pub more_paths : Tech → Bool → List WirePath → Form WireFault (Turn (List WirePath))
more_paths tech special paths = do
  _ ← the_word (codes "NEW")
  p ← path tech special
  done (More (paths ++ p ∷ []))

-- paths separated by NEW
unfoldable pub all_paths : Tech → Bool → Form WireFault (List WirePath)
all_paths tech special = do
  first ← path tech special
  loop (unless no_word (more_paths tech special)) (first ∷ [])

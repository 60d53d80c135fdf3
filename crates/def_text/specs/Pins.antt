-- PINS (DEF 5.8, Pins).
use Rattle.std.specs.Prelude.{List, [], ◌∷◌, ◌++◌, Err, Option, Some, None, pos, bytes_eq, codes, map, ◌^◌, All, IfSome}
use Rattle.rt_base.specs.Geometry.{hull_of, moved}
use Rattle.rt_base.specs.Orientations.{placed}
use Rattle.rt_base.specs.Ranges.{IsPointWithin, AreSidesWithin}
use Rattle.rt_base.specs.declared.orient.Orient.{Orient}
use Rattle.rt_base.specs.declared.geometry.Point.{Point}
use Rattle.rt_forms.specs.Form.{Form, next, look, check, done, ◌>>=◌, choose, loop, Turn, More, Done}
use Rattle.rt_forms.specs.Reading.{a_name, option_rest}
use Rattle.def_text.specs.declared.error.DefError.{DefError}
use Rattle.def_text.specs.declared.error.DefError.TheVariants.{Expected, Refused}
use Rattle.def_text.specs.declared.kinds.PinOption.{PinOption}
use Rattle.def_text.specs.declared.kinds.PinOption.TheVariants.{Layer, Port as PortOption, Placed, Refused as RefusedInPin, Unused as UnusedInPin}
use Rattle.def_text.specs.declared.kinds.BehindLayer.{BehindLayer}
use Rattle.def_text.specs.declared.kinds.BehindLayer.TheVariants.{Rule, Mask, Points}
use Rattle.def_text.specs.declared.def.IoPin.{IoPin}
use Rattle.def_text.specs.declared.pins.Ports.{Ports}
use Rattle.def_text.specs.declared.sections.Listed.{Listed}
use Rattle.def_text.specs.Defs.{Metal, IsNameWord, IsMetal}
use Rattle.def_text.specs.Kinds.{pin_option_of, behind_layer}
use Rattle.def_text.specs.Parts.{a_number, point, placement}
use Rattle.def_text.specs.Sections.{new_name}

-- a rectangle of a port, turned and moved
abbrev pub placed_metal : Point → Orient → Metal → Metal
placed_metal at orient m = (m.0, moved at (placed orient (pos 0) (pos 0) m.1))

-- the rectangles of a port with this placement: none without one
abbrev pub placed_port : Option (Point × Orient) → List Metal → List Metal
placed_port None metal = []
placed_port (Some p) metal = map (placed_metal p.0 p.1) metal

-- a rectangle before its port is placed
abbrev pub IsUnplaced : Metal → Type 0
IsUnplaced m = IsNameWord m.0 × AreSidesWithin (2 ^ 30) m.1

pub record ArePorts (ports : Ports) : Type 0 where
  pub rects : All IsMetal ports.rects
  pub metal : All IsUnplaced ports.metal
  pub placed : IfSome ports.placed (λ (p : Point × Orient). IsPointWithin (2 ^ 30) p.0)

-- the last port ends
abbrev pub all_placed : Ports → List Metal
all_placed ports = ports.rects ++ placed_port ports.placed ports.metal

-- what may stand between a layer and its rectangle
abbrev pub layer_rule : BehindLayer → Form DefError (Unit {0})
layer_rule Points = done tt
layer_rule Mask = do
  w ← next
  check (Err (Refused w.line w.word))
layer_rule Rule = do
  _ ← next
  _ ← a_number
  done tt

-- `LAYER l [SPACING v | DESIGNRULEWIDTH v] point point`
unfoldable pub pin_layer : Ports → Form DefError Ports
pin_layer ports = do
  _ ← next
  layer ← a_name
  w ← look
  _ ← layer_rule (behind_layer w)
  p ← point
  q ← point
  done (record ports { metal = ports.metal ++ (layer.word, hull_of p q) ∷ [] })

-- `PORT`: the port before it ends
unfoldable pub pin_port : Ports → Form DefError Ports
pin_port ports = do
  _ ← next
  done (record { rects = all_placed ports; metal = []; placed = None })

-- `PLACED|FIXED|COVER point orient`: the last one counts
unfoldable pub pin_placed : Ports → Form DefError Ports
pin_placed ports = do
  placed ← placement
  done (record ports { placed = Some placed })

abbrev pub pin_option_by : PinOption → Ports → Form DefError Ports
pin_option_by Layer ports = pin_layer ports
pin_option_by PortOption ports = pin_port ports
pin_option_by Placed ports = pin_placed ports
pin_option_by RefusedInPin ports = do
  w ← next
  check (Err (Refused w.line w.word))
pin_option_by UnusedInPin ports = do
  _ ← option_rest
  done ports

-- an option behind its `+`
unfoldable pub pin_option : Ports → Form DefError Ports
pin_option ports = do
  w ← look
  pin_option_by (pin_option_of w) ports

-- one more option, or `;`
unfoldable pub more_pin : Ports → Form DefError (Turn Ports)
more_pin ports = do
  w ← next
  choose (bytes_eq w.word (codes ";")) (done (Done ports)) (
      choose (bytes_eq w.word (codes "+")) (do
        ports' ← pin_option ports
        done (More ports')) (
      check (Err (Expected w.line))))

-- `name` options `;`
unfoldable pub pin_item : Listed IoPin → Form DefError (Listed IoPin)
pin_item listed = do
  name ← a_name
  _ ← check (new_name listed.names name)
  ports ← loop more_pin (record { rects = []; metal = []; placed = None })
  done (record listed { names = listed.names ++ name.word ∷ []; items = listed.items ++ record { name = name.word; rects = all_placed ports } ∷ [] })

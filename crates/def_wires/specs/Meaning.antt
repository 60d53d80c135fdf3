-- What wiring means: its rectangles (DEF 5.8, Regular Wiring Statement and Special Wiring Statement). That a special path's odd unit of width is above, and that ends reach no further without an extension, is this project's reading.
use Rattle.std.specs.Prelude.{ℕ, ◌/◌, ◌==◌, nat_lt, ℤ, pos, ◌+ℤ◌, ◌-ℤ◌, int_le, Bool, false, ◌||◌, if◌then◌else◌, List, [], ◌∷◌, ◌++◌, map, fold, slice_get, unsigned_abs, Option, Some, None, unwrap_or}
use Rattle.std.specs.Option.{option_map_or}
use Rattle.std.specs.List.{flat_map}
use Rattle.std.specs.Ordering.{int_eq}
use Rattle.rt_base.specs.Sides.{Sides}
use Rattle.rt_base.specs.Geometry.{moved}
use Rattle.rt_base.specs.Orientations.{placed}
use Rattle.rt_base.specs.declared.geometry.Point.{Point}
use Rattle.rt_base.specs.declared.geometry.Span.{Span}
use Rattle.rt_base.specs.declared.tech.LayerNo.{LayerNo}
use Rattle.rt_base.specs.declared.tech.Layer.{Layer}
use Rattle.rt_base.specs.declared.tech.Via.{Via}
use Rattle.rt_base.specs.declared.tech.Tech.{Tech}
use Rattle.def_wires.specs.declared.wiring.Wiring.{Wiring}
use Rattle.def_wires.specs.declared.wiring.WirePath.{WirePath}
use Rattle.def_wires.specs.declared.wiring.WireStep.{WireStep}
use Rattle.def_wires.specs.declared.wiring.WireStep.TheVariants.{Start, Go, Via as Through, Patch}
use Rattle.def_wires.specs.declared.wiring.Spot.{Spot}
use Rattle.def_wires.specs.declared.wiring.Joined.{Joined}
use Rattle.def_wires.specs.declared.joined.Reach.{Reach}
use Rattle.def_wires.specs.declared.joined.Reach.TheVariants.{Nowhere, One, Two, More}
use Rattle.rt_base.specs.declared.orient.Orient.{Orient}

-- a rectangle on a layer
abbrev pub Metal : Type 0
Metal = LayerNo × Sides

-- ---- layers

abbrev pub is_routing : Tech → ℕ → Bool
is_routing tech k = option_map_or (λ (l : Layer). l.routing) (slice_get tech.layers k) false

-- the width of a layer's wires, 0 where it has none
abbrev pub width_of_layer : Tech → ℕ → ℤ
width_of_layer tech k = option_map_or (λ (l : Layer). if l.routing then l.width else pos 0) (slice_get tech.layers k) (pos 0)

abbrev pub rects_of_via : Tech → ℕ → List Metal
rects_of_via tech v = option_map_or (λ (x : Via). x.rects) (slice_get tech.vias v) []

-- ---- the two routing layers of a via

-- the layers that were told apart, with one more
abbrev pub with_layer : Reach → ℕ → Reach
with_layer Nowhere k = One k
with_layer (One n) k = if k == n then One n else if nat_lt k n then Two k n else Two n k
with_layer (Two lower upper) k = if k == lower || k == upper then Two lower upper else More
with_layer More k = More

-- a rectangle counts where its layer is a routing layer
abbrev pub with_metal : Tech → Reach → Metal → Reach
with_metal tech reach m = if is_routing tech m.0.0 then with_layer reach m.0.0 else reach

-- the routing layers on which there are rectangles, as far as two are told apart
abbrev pub reach_of : Tech → List Metal → Reach
reach_of tech rects = fold (with_metal tech) Nowhere rects

abbrev pub the_two : Reach → Option Joined
the_two Nowhere = None
the_two (One n) = None
the_two (Two lower upper) = Some (record { lower = record { 0 = lower }; upper = record { 0 = upper } })
the_two More = None

-- the two routing layers on which there are rectangles, where they are exactly two
abbrev pub joined_by : Tech → List Metal → Option Joined
joined_by tech rects = the_two (reach_of tech rects)

-- the one of the two that isn't this one, where the other is
abbrev pub other_of : Joined → LayerNo → Option LayerNo
other_of j layer = if layer.0 == j.lower.0 then Some j.upper else if layer.0 == j.upper.0 then Some j.lower else None

-- the layer behind a via
abbrev pub beyond : Option Joined → LayerNo → LayerNo
beyond None layer = layer
beyond (Some j) layer = unwrap_or (other_of j layer) layer

-- ---- segments

-- half of a width, rounded down
abbrev pub half : ℤ → ℤ
half w = pos (unsigned_abs w / 2)

-- a width across a line, an odd unit above
abbrev pub across : ℤ → ℤ → Span
across c w = record { lo = c -ℤ half w; hi = c +ℤ (w -ℤ half w) }

-- from a, and e beyond it, to b, and f beyond it
abbrev pub along : ℤ → ℤ → ℤ → ℤ → Span
along a e b f = if int_le a b then record { lo = a -ℤ e; hi = b +ℤ f } else record { lo = b -ℤ f; hi = a +ℤ e }

abbrev pub box_of : Span → Span → Sides
box_of x y = record { xl = x.lo; yl = y.lo; xh = x.hi; yh = y.hi }

-- the wire of this width from p, and e beyond it, to q, and f beyond it: none between equal points
abbrev pub wire_between : ℤ → Point → ℤ → Point → ℤ → Option Sides
wire_between w p e q f =
    if int_eq p.y q.y then
    if int_eq p.x q.x then None else Some (box_of (along p.x e q.x f) (across p.y w))
    else Some (box_of (across p.x w) (along p.y e q.y f))

-- the width of the wires of a path on a layer
abbrev pub width_on : Tech → Option ℤ → ℕ → ℤ
width_on tech None k = width_of_layer tech k
width_on tech (Some w) k = w

-- how far wires reach beyond a point without an extension: half their width, in special wiring not at all
abbrev pub reach_on : Tech → Option ℤ → ℕ → ℤ
reach_on tech None k = half (width_of_layer tech k)
reach_on tech (Some w) k = pos 0

-- ---- where a path stands

-- behind the steps before, of which the last one stands first: at the last point, and on the layer of the start or of the last via's other side
abbrev pub point_behind : List WireStep → Point
point_behind [] = record { x = pos 0; y = pos 0 }
point_behind (Start layer point ext ∷ before) = point
point_behind (Go point ext ∷ before) = point
point_behind (Through v o ∷ before) = point_behind before
point_behind (Patch r ∷ before) = point_behind before

abbrev pub ext_behind : List WireStep → Option ℤ
ext_behind [] = None
ext_behind (Start layer point ext ∷ before) = ext
ext_behind (Go point ext ∷ before) = ext
ext_behind (Through v o ∷ before) = ext_behind before
ext_behind (Patch r ∷ before) = ext_behind before

abbrev pub layer_behind : Tech → List WireStep → LayerNo
layer_behind tech [] = record { 0 = 0 }
layer_behind tech (Start layer point ext ∷ before) = layer
layer_behind tech (Go point ext ∷ before) = layer_behind tech before
layer_behind tech (Through v o ∷ before) = beyond (joined_by tech (rects_of_via tech v)) (layer_behind tech before)
layer_behind tech (Patch r ∷ before) = layer_behind tech before

abbrev pub spot_behind : Tech → List WireStep → Spot
spot_behind tech before = record { layer = layer_behind tech before; point = point_behind before; ext = ext_behind before }

-- ---- rectangles

abbrev pub on_layer : LayerNo → Option Sides → List Metal
on_layer layer None = []
on_layer layer (Some s) = (layer, s) ∷ []

-- a rectangle of a via at a point
abbrev pub via_metal : Orient → Point → Metal → Metal
via_metal orient at m = (m.0, moved at (placed orient (pos 0) (pos 0) m.1))

-- the wire from where the path stands to a point
abbrev pub wire_to : Tech → Option ℤ → Spot → Point → Option ℤ → Option Sides
wire_to tech width at point ext =
    let k = at.layer.0 in
    wire_between (width_on tech width k) at.point (unwrap_or at.ext (reach_on tech width k)) point (unwrap_or ext (reach_on tech width k))

-- the rectangles of a step, by where the path stands before it
abbrev pub step_metal : Tech → Option ℤ → Spot → WireStep → List Metal
step_metal tech width at (Start layer point ext) = []
step_metal tech width at (Go point ext) = on_layer at.layer (wire_to tech width at point ext)
step_metal tech width at (Through v o) = map (via_metal o at.point) (rects_of_via tech v)
step_metal tech width at (Patch r) = (at.layer, moved at.point r) ∷ []

-- the rectangles of further steps behind those before
abbrev pub metal_behind : Tech → Option ℤ → List WireStep → List WireStep → List Metal
metal_behind tech width before [] = []
metal_behind tech width before (s ∷ steps) = step_metal tech width (spot_behind tech before) s ++ metal_behind tech width (s ∷ before) steps

abbrev pub path_metal : Tech → WirePath → List Metal
path_metal tech path = metal_behind tech path.width [] path.steps

-- the rectangles of wiring, path by path and step by step
abbrev pub wiring_metal : Tech → Wiring → List Metal
wiring_metal tech wiring = flat_map (path_metal tech) wiring.paths

-- Rectangles of wires and vias on their layers.
use Rattle.std.specs.Prelude.{◌≡◌, ℕ, ◌+◌, ◌/◌, ◌<◌, length, ℤ, pos, Any, List, [], ◌∷◌, ◌==◌, if◌then◌else◌, false, map, slice_get, option_map, unwrap_or, unsigned_abs}
use Rattle.std.specs.List.{list_any}
use Rattle.rt_base.specs.Sides.{Sides}
use Rattle.rt_base.specs.declared.geometry.Point.{Point}
use Rattle.rt_base.specs.declared.tech.Layer.{Layer}
use Rattle.rt_base.specs.declared.tech.LayerNo.{LayerNo}
use Rattle.rt_base.specs.declared.tech.Owner.TheVariants.{Net as OfNet}
use Rattle.rt_base.specs.declared.tech.Shape.{Shape}
use Rattle.rt_base.specs.declared.tech.Tech.{Tech}
use Rattle.rt_base.specs.declared.tech.Via.{Via}
use Rattle.rt_base.specs.Geometry.{hull_of, moved, grown}
use Rattle.track_graph.specs.Levels.{layer_no, levels, width_of}

-- a rectangle on a layer
abbrev pub Metal : Type 0
Metal = LayerNo × Sides

abbrev pub half_width : Tech → ℕ → ℤ
half_width tech level = pos (unsigned_abs (width_of tech level) / 2)

-- the hull of the squares of the level's width round two points
abbrev pub wire_metal : Tech → ℕ → Point → Point → Metal
wire_metal tech level p q = (record { 0 = layer_no tech level }, grown (hull_of p q) (half_width tech level))

-- the rectangles of a via with this number, at (0, 0); none where there is no such via
abbrev pub via_rects : Tech → ℕ → List Metal
via_rects tech k = unwrap_or (option_map (λ (v : Via). v.rects) (slice_get tech.vias k)) []

-- the rectangles of a via at a point
abbrev pub via_metal : Tech → ℕ → Point → List Metal
via_metal tech k p = map (λ (r : Metal). (r.0, moved p r.1)) (via_rects tech k)

-- a rectangle stands on the layer of a level
abbrev pub HasLevel : Tech → List Metal → ℕ → Type 0
HasLevel tech rects level = Any (λ (r : Metal). r.0.0 ≡ layer_no tech level) rects

-- the rectangles of a via join a level and the next one up: one stands on each
pub record JoinsLevels (tech : Tech) (rects : List Metal) (level : ℕ) : Type 0 where
  pub upper_level : level + 1 < length (levels tech)
  pub lower : HasLevel tech rects level
  pub upper : HasLevel tech rects (level + 1)

-- the name of the first of these levels on which there is a rectangle, empty where there is none
abbrev pub first_level_name : List (ℕ × Layer) → List Metal → List ℕ
first_level_name [] rects = []
first_level_name (l ∷ ls) rects = if list_any (λ (r : Metal). r.0.0 == l.0) rects then l.1.name else first_level_name ls rects

-- the name of the lowest routing layer on which a via has a rectangle
abbrev pub via_level_name : Tech → ℕ → List ℕ
via_level_name tech k = first_level_name (levels tech) (via_rects tech k)

-- the name of a via, empty where there is no such via
abbrev pub via_name_of : Tech → ℕ → List ℕ
via_name_of tech k = unwrap_or (option_map (λ (v : Via). v.name) (slice_get tech.vias k)) []

-- a rectangle of a net's wires, as a shape
abbrev pub shape_of : ℕ → Metal → Shape
shape_of n m = record { layer = m.0; rect = m.1; owner = OfNet n; fixed = false }

abbrev pub shapes_of : ℕ → List Metal → List Shape
shapes_of n metal = map (shape_of n) metal

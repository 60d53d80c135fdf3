-- The vertices of a level near a rectangle, track by track.
use Rattle.std.specs.Prelude.{◌≡◌, ℕ, ◌≤◌, ◌*◌, ◌^◌, unsigned_abs, unwrap_or, slice_get, ℤ, pos, ◌≤ℤ◌, ◌+ℤ◌, ◌-ℤ◌, Bool, if◌then◌else◌, nat_le, List, map, filter}
use Rattle.std.specs.List.{flat_map}
use Rattle.std.specs.Int.{int_min, int_max}
use Rattle.rt_base.specs.Sides.{Sides}
use Rattle.rt_base.specs.declared.geometry.Span.{Span}
use Rattle.rt_base.specs.declared.walk.Vertex.{Vertex}
use Rattle.rt_base.specs.Geometry.{distance, nearest_point}
use Rattle.track_graph.specs.Levels.{TrackSystem, IsVertex, layer_no, is_horizontal, vertex_at}
use Rattle.track_graph.specs.Designs.{IsLayerOf}
use Rattle.rt_base.specs.declared.tech.Tech.{Tech}
use Rattle.rt_base.specs.Ranges.{AreSidesWithin}
use Rattle.track_graph.specs.Metal.{Metal}
use Rattle.pin_access.specs.declared.area.Area.{Area}

-- the sides of a rectangle are in order
abbrev pub IsRect : Sides → Type 0
IsRect s = (s.xl ≤ℤ s.xh) × (s.yl ≤ℤ s.yh)

-- a vertex is as near as the area reaches
abbrev pub is_near : Area → Vertex → Bool
is_near area v = nat_le (distance (nearest_point area.rect v.point) v.point) area.reach

-- the near vertices on a line at these positions
abbrev pub near_on_line : Tech → Area → List ℤ → ℤ → List Vertex
near_on_line tech area positions line = filter (is_near area) (map (vertex_at tech area.level line) positions)

-- and on these lines
abbrev pub near_on_lines : Tech → Area → List ℤ → List ℤ → List Vertex
near_on_lines tech area lines positions = flat_map (near_on_line tech area positions) lines

-- a range made larger by the reach, as far as the die goes
abbrev pub range_near : ℤ → ℤ → ℕ → ℤ → ℤ → Span
range_near lo hi reach die_lo die_hi = record { lo = int_max die_lo (lo -ℤ pos reach); hi = int_min die_hi (hi +ℤ pos reach) }

-- the lines and the positions of the area's level that are near enough
abbrev pub across_of : Tech → Area → Sides → Span
across_of tech area die =
    if is_horizontal tech area.level then range_near area.rect.yl area.rect.yh area.reach die.yl die.yh else range_near area.rect.xl area.rect.xh area.reach die.xl die.xh

abbrev pub along_of : Tech → Area → Sides → Span
along_of tech area die =
    if is_horizontal tech area.level then range_near area.rect.xl area.rect.xh area.reach die.xl die.xh else range_near area.rect.yl area.rect.yh area.reach die.yl die.yh

-- a vertex of a level that is at most so far from a rectangle
pub record IsNear (g : TrackSystem) (at reach : ℕ) (s : Sides) (v : Vertex) : Type 0 where
  pub level : v.level ≡ at
  pub vertex : IsVertex g v
  pub near : distance (nearest_point s v.point) v.point ≤ reach

-- so many of a level's largest steps
abbrev pub steps_of : TrackSystem → ℕ → ℕ → ℕ
steps_of g steps level = steps * unsigned_abs (unwrap_or (slice_get g.tracks.largest_step level) (pos 0))

-- a vertex at most so many steps of its level from a rectangle on its layer
pub record IsNearMetal (g : TrackSystem) (steps : ℕ) (m : Metal) (v : Vertex) : Type 0 where
  pub vertex : IsVertex g v
  pub on_layer : m.0.0 ≡ layer_no g.tech v.level
  pub near : distance (nearest_point m.1 v.point) v.point ≤ steps_of g steps v.level

-- a rectangle of a pin, on a layer of the technology and in range
pub record IsPinMetal (tech : Tech) (m : Metal) : Type 0 where
  pub layer : IsLayerOf tech m.0
  pub sides : AreSidesWithin (2 ^ 61) m.1

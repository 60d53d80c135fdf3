-- Levels, tracks and vertices (DEF 5.8, TRACKS; the track graph of Gester and others 2013).
use Rattle.std.specs.Prelude.{ℕ, ◌+◌, ◌<◌, ℤ, ◌<ℤ◌, pos, AllPairs, List, [], ◌∷◌, ◌++◌, Bool, false, if◌then◌else◌, length, slice_get, option_map, unwrap_or, Contains, zero, suc}
use Rattle.rt_base.specs.declared.tech.Layer.{Layer}
use Rattle.rt_base.specs.declared.tech.Tech.{Tech}
use Rattle.rt_base.specs.declared.geometry.Point.{Point}
use Rattle.rt_base.specs.declared.walk.Vertex.{Vertex}
use Rattle.rt_base.specs.Sides.{Sides}
use Rattle.rt_base.specs.Geometry.{Holds}
use Rattle.track_graph.specs.declared.design.Design.{Design}
use Rattle.track_graph.specs.declared.design.Tracks.{Tracks}

-- what vertices stand on: a technology, the tracks of its levels and a die
pub record TrackSystem : Type 0 where
  pub tech : Tech
  pub tracks : Tracks
  pub die : Sides

abbrev pub track_system_of : Design → TrackSystem
track_system_of d = record { tech = d.tech; tracks = d.tracks; die = d.grid.die }

-- the routing layers, bottom up, with their numbers among all layers; the first of the list has number n
abbrev pub routing_from : ℕ → List Layer → List (ℕ × Layer)
routing_from n [] = []
routing_from n (l ∷ ls) = if l.routing then (n, l) ∷ routing_from (n + 1) ls else routing_from (n + 1) ls

-- level k is the routing layer with number k, counted from 0
abbrev pub levels : Tech → List (ℕ × Layer)
levels tech = routing_from 0 tech.layers

abbrev pub number_of : ℕ × Layer → ℕ
number_of l = l.0

abbrev pub layer_no : Tech → ℕ → ℕ
layer_no tech level = unwrap_or (option_map number_of (slice_get (levels tech) level)) 0

abbrev pub is_horizontal : Tech → ℕ → Bool
is_horizontal tech level = unwrap_or (option_map (λ (l : ℕ × Layer). l.1.horizontal) (slice_get (levels tech) level)) false

abbrev pub width_of : Tech → ℕ → ℤ
width_of tech level = unwrap_or (option_map (λ (l : ℕ × Layer). l.1.width) (slice_get (levels tech) level)) (pos 0)

-- the name of a level's layer, empty where there is no such level
abbrev pub layer_name_of : Tech → ℕ → List ℕ
layer_name_of tech level = unwrap_or (option_map (λ (l : ℕ × Layer). l.1.name) (slice_get (levels tech) level)) []

-- where a point stands along the tracks of a level, and which line it is on
abbrev pub along : Tech → ℕ → Point → ℤ
along tech level p = if is_horizontal tech level then p.x else p.y

abbrev pub line_of : Tech → ℕ → Point → ℤ
line_of tech level p = if is_horizontal tech level then p.y else p.x

-- the vertex at a position of a line of a level
abbrev pub vertex_at : Tech → ℕ → ℤ → ℤ → Vertex
vertex_at tech level line position =
    record { level = level; point = if is_horizontal tech level then record { x = position; y = line } else record { x = line; y = position } }

abbrev pub IsAscending : List ℤ → Type 0
IsAscending numbers = AllPairs (λ a b. a <ℤ b) numbers

-- no number of a list stands strictly between two
abbrev pub NoneBetween : List ℤ → ℤ → ℤ → Type 0
NoneBetween numbers low high = (z : ℤ) → Contains numbers z → low <ℤ z → z <ℤ high → ⊥

-- the track lines of a level
abbrev pub lines_of : Tracks → ℕ → List ℤ
lines_of tracks level = unwrap_or (slice_get tracks.lines level) []

-- the track lines of the level below
abbrev pub lines_below : Tracks → ℕ → List ℤ
lines_below tracks zero = []
lines_below tracks (suc level) = lines_of tracks level

-- the positions of a level: the track lines of the levels below and above
abbrev pub positions_of : Tracks → ℕ → List ℤ
positions_of tracks level = lines_below tracks level ++ lines_of tracks (level + 1)

-- a level and a point of the closed die, on a track of the level and at a position of the level
pub record IsVertex (g : TrackSystem) (v : Vertex) : Type 0 where
  pub level : v.level < length (levels g.tech)
  pub in_die : Holds g.die v.point
  pub on_track : Contains (lines_of g.tracks v.level) (line_of g.tech v.level v.point)
  pub at_position : Contains (positions_of g.tracks v.level) (along g.tech v.level v.point)

-- The vertices of a design, as a list.
use Rattle.std.specs.Prelude.{ℕ, ◌+◌, ◌^◌, zero, suc, ℤ, unsigned_abs, List, [], ◌++◌, map, flat_map, filter, length, Bool, ◌&&◌, nat_lt}
use Rattle.rt_base.specs.declared.tech.Tech.{Tech}
use Rattle.rt_base.specs.declared.walk.Vertex.{Vertex}
use Rattle.track_graph.specs.declared.design.Design.{Design}
use Rattle.track_graph.specs.Levels.{levels, lines_of, positions_of, vertex_at}

-- each line of a level with each of its positions
abbrev pub crossings : Tech → ℕ → List ℤ → List ℤ → List Vertex
crossings tech level lines positions = flat_map (λ line. map (vertex_at tech level line) positions) lines

-- those of the levels below a number
abbrev pub crossings_below : Design → ℕ → List Vertex
crossings_below d zero = []
crossings_below d (suc level) = crossings d.tech level (lines_of d.tracks level) (positions_of d.tracks level) ++ crossings_below d level

-- a coordinate of at most 2^32 in absolute value, on one of 256 levels
abbrev pub is_near : Vertex → Bool
is_near v = nat_lt v.level 256 && nat_lt (unsigned_abs v.point.x) (2 ^ 32 + 1) && nat_lt (unsigned_abs v.point.y) (2 ^ 32 + 1)

abbrev pub vertices_of : Design → List Vertex
vertices_of d = filter is_near (crossings_below d (length (levels d.tech)))

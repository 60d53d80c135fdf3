-- What the rectangles of a polygon are (LEF 5.8, POLYGON): its inside by the even-odd rule, cut at each height of its points.
use Rattle.std.specs.Prelude.{◌≡◌, ◌↔◌, ◌⊎◌, ◌%◌, ℤ, pos, ◌<ℤ◌, ◌≤ℤ◌, ◌-ℤ◌, ◌&&◌, int_le, List, Any, All, AllPairs, count_by}
use Rattle.rt_base.specs.Sides.{Sides}
use Rattle.rt_base.specs.declared.geometry.Point.{Point}
use Rattle.rt_shapes.specs.Polygons.{Edge, edges_of, passes}

-- the unit square with the lower left corner (x, y): an odd number of the edges that pass its row stand left of it
abbrev pub IsInside : List Edge → ℤ → ℤ → Type 0
IsInside edges x y = count_by (λ (e : Edge). passes y e && int_le e.from.x x) edges % 2 ≡ 1

-- a rectangle has the unit square with this lower left corner
pub record HasSquare (x y : ℤ) (s : Sides) : Type 0 where
  pub left : s.xl ≤ℤ x
  pub right : x <ℤ s.xh
  pub low : s.yl ≤ℤ y
  pub high : y <ℤ s.yh

-- the height of a point and the next height of a point
pub record AreNeighbours (points : List Point) (low high : ℤ) : Type 0 where
  pub lower : Any (λ (p : Point). p.y ≡ low) points
  pub upper : Any (λ (p : Point). p.y ≡ high) points
  pub rising : low <ℤ high
  pub none_between : All (λ (p : Point). (p.y ≤ℤ low) ⊎ (high ≤ℤ p.y)) points

-- in none of its rows is the square left of it inside, nor the one right of it
pub record IsWidest (edges : List Edge) (s : Sides) : Type 0 where
  pub wide : s.xl <ℤ s.xh
  pub left : (y : ℤ) → s.yl ≤ℤ y → y <ℤ s.yh → IsInside edges (s.xl -ℤ pos 1) y → ⊥
  pub right : (y : ℤ) → s.yl ≤ℤ y → y <ℤ s.yh → IsInside edges s.xh y → ⊥

-- further down, or further left at one height
abbrev pub IsBefore : Sides → Sides → Type 0
IsBefore s t = (s.yl <ℤ t.yl) ⊎ ((s.yl ≡ t.yl) × (s.xh <ℤ t.xl))

-- the rectangles of a polygon have the squares that are inside and no others, each reaches from a height of the points to the next one and is as wide as the inside is there, and they go bottom up and left to right
pub record AreSlabs (points : List Point) (rects : List Sides) : Type 0 where
  pub inside : (x y : ℤ) → Any (HasSquare x y) rects ↔ IsInside (edges_of points) x y
  pub between : All (λ (s : Sides). AreNeighbours points s.yl s.yh) rects
  pub widest : All (IsWidest (edges_of points)) rects
  pub ordered : AllPairs IsBefore rects

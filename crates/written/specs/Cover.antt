-- The points that rectangles cover, those between whole units among them.
use Rattle.std.specs.Prelude.{◌≡◌, ℕ, ◌<◌, pos, ◌≤ℤ◌, ◌*ℤ◌, List, Any, ◌↔◌}
use Rattle.rt_base.specs.Sides.{Sides}
use Rattle.rt_base.specs.declared.geometry.Point.{Point}
use Rattle.track_graph.specs.Metal.{Metal}

-- a closed rectangle holds a point that is told in parts of a unit, of which so many make one
pub record HoldsPart (parts : ℕ) (s : Sides) (p : Point) : Type 0 where
  pub left : (pos parts *ℤ s.xl) ≤ℤ p.x
  pub right : p.x ≤ℤ (pos parts *ℤ s.xh)
  pub low : (pos parts *ℤ s.yl) ≤ℤ p.y
  pub high : p.y ≤ℤ (pos parts *ℤ s.yh)

-- one of the rectangles on the layer of this number holds the point
abbrev pub Covers : List Metal → ℕ → ℕ → Point → Type 0
Covers metal layer parts p = Any (λ (m : Metal). (m.0.0 ≡ layer) × HoldsPart parts m.1 p) metal

-- on each layer the same points are covered
abbrev pub CoverSame : List Metal → List Metal → Type 0
CoverSame a b = (layer parts : ℕ) (p : Point) → 0 < parts → (Covers a layer parts p ↔ Covers b layer parts p)

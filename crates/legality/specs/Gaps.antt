-- Extents along a line, and gaps across it.
use Rattle.std.specs.Prelude.{ℕ, pos, Bool, if◌then◌else◌, ◌≤ℤ◌}
use Rattle.rt_base.specs.Geometry.{gap_x, gap_y, moved}
use Rattle.rt_base.specs.Sides.{Sides}
use Rattle.rt_base.specs.declared.geometry.Span.{Span}
use Rattle.regions.specs.Covered.{point_at}
use Rattle.legality.specs.declared.mover.Mover.{Mover}

-- the extent of a rectangle in x or in y
abbrev pub extent_of : Bool → Sides → Span
extent_of in_x s = if in_x then record { lo = s.xl; hi = s.xh } else record { lo = s.yl; hi = s.yh }

-- the gap across its line between a rectangle that moves and another, wherever it stands
abbrev pub gap_across : Mover → Sides → ℕ
gap_across m other =
    if m.line.in_x then gap_y (moved (point_at m.line (pos 0)) m.rect) other else gap_x (moved (point_at m.line (pos 0)) m.rect) other

-- a rectangle lies in another
pub record IsInside (outer inner : Sides) : Type 0 where
  pub left : outer.xl ≤ℤ inner.xl
  pub right : inner.xh ≤ℤ outer.xh
  pub low : outer.yl ≤ℤ inner.yl
  pub high : inner.yh ≤ℤ outer.yh

-- Where a rectangle that moves along a line is too near to another (the spacing rules of Conflict; for a wire, the square of its level's width round a point of its track line).
use Rattle.std.specs.Prelude.{◌≡◌, ℕ, ◌+◌, ◌^◌, ◌≤◌, ℤ, ◌≤ℤ◌, Bool, true, ◌&&◌, ◌==◌, ◌↔◌}
use Rattle.rt_base.specs.Conflict.{is_near_of, pair_spacing}
use Rattle.rt_base.specs.Geometry.{gap_x, gap_y, moved}
use Rattle.rt_base.specs.Ranges.{IsWithin, AreSidesWithin}
use Rattle.rt_base.specs.Sides.{Sides}
use Rattle.rt_base.specs.declared.geometry.Span.{Span}
use Rattle.rt_base.specs.declared.tech.Shape.{Shape}
use Rattle.rt_base.specs.declared.tech.Tech.{Tech}
use Rattle.track_graph.specs.Metal.{Metal, wire_metal, shape_of}
use Rattle.regions.specs.Covered.{line_on, point_at}
use Rattle.regions.specs.Spans.{InSpan}
use Rattle.legality.specs.declared.mover.Mover.{Mover}

-- a rectangle, moved along its line to z, is nearer to another than the spacing
abbrev pub is_near_at : Mover → Sides → ℤ → Bool
is_near_at m other z =
    is_near_of (gap_x (moved (point_at m.line z) m.rect) other) (gap_y (moved (point_at m.line z) m.rect) other) m.spacing

-- exactly the numbers that pass a test, of which there are some
pub record IsSpanOf (test : ℤ → Bool) (s : Span) : Type 0 where
  pub full : s.lo ≤ℤ s.hi
  pub exact : (z : ℤ) → InSpan s z ↔ (test z ≡ true)

-- in range
pub record IsMover (m : Mover) : Type 0 where
  pub line : IsWithin (2 ^ 61) m.line.at
  pub rect : AreSidesWithin (2 ^ 60 + 2 ^ 30) m.rect
  pub spacing : m.spacing ≤ 2 ^ 32

-- metal is too near to a shape, for another owner than the shape's
abbrev pub is_too_near : Tech → Metal → Shape → Bool
is_too_near tech m s =
    (m.0.0 == s.layer.0) && is_near_of (gap_x m.1 s.rect) (gap_y m.1 s.rect) (pair_spacing tech (shape_of 0 m) s)

-- the square of a wire at z on a track line
abbrev pub square_at : Tech → ℕ → ℤ → ℤ → Metal
square_at tech level line z = wire_metal tech level (point_at (line_on tech level line) z) (point_at (line_on tech level line) z)

-- the wire's square there is too near to the shape
abbrev pub is_forbidden : Tech → Shape → ℕ → ℤ → ℤ → Bool
is_forbidden tech s level line z = is_too_near tech (square_at tech level line z) s

-- The parts of a track line in a net's guide (ISPD 2018 contest, route guides).
use Rattle.std.specs.Prelude.{◌≡◌, ℕ, ℤ, ◌≤ℤ◌, ◌↔◌, if◌then◌else◌}
use Rattle.rt_base.specs.Geometry.{Holds}
use Rattle.rt_base.specs.Sides.{Sides}
use Rattle.rt_base.specs.declared.geometry.Span.{Span}
use Rattle.rt_base.specs.declared.geometry.Point.{Point}
use Rattle.rt_base.specs.declared.tech.Tech.{Tech}
use Rattle.track_graph.specs.declared.design.Design.{Design}
use Rattle.track_graph.specs.Guide.{InGuide}
use Rattle.track_graph.specs.Levels.{is_horizontal}
use Rattle.track_graph.specs.Searches.{guide_of}
use Rattle.regions.specs.declared.cover.Line.{Line}
use Rattle.regions.specs.Spans.{InSpan}

-- the point at z along a line, which runs in x or in y
abbrev pub point_at : Line → ℤ → Point
point_at line z = if line.in_x then record { x = z; y = line.at } else record { x = line.at; y = z }

-- a track line of a level
abbrev pub line_on : Tech → ℕ → ℤ → Line
line_on tech level at = record { in_x = is_horizontal tech level; at = at }

-- the point at z along a track line of a level lies in the net's guide
abbrev pub IsCovered : Design → ℕ → ℕ → ℤ → ℤ → Type 0
IsCovered d net level line z = InGuide (guide_of d net) level (point_at (line_on d.tech level line) z)

-- a box of the level holds the point
abbrev pub InBox : ℕ × Sides → ℕ → Point → Type 0
InBox box level p = (box.0 ≡ level) × Holds box.1 p

-- the part of a line in a box of the level, which isn't empty
pub record IsPart (line : Line) (level : ℕ) (box : ℕ × Sides) (s : Span) : Type 0 where
  pub full : s.lo ≤ℤ s.hi
  pub exact : (z : ℤ) → InSpan s z ↔ InBox box level (point_at line z)

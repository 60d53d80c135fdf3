-- Strokes that can be written and read again, and the designs whose strokes are such.
use Rattle.std.specs.Prelude.{◌≡◌, ◌≢◌, ◌⊎◌, ℕ, ◌+◌, ◌^◌, ◌<◌, ◌≤ℤ◌, length, slice_get, Some, IsTrue, All}
use Rattle.rt_base.specs.Sides.{Sides}
use Rattle.rt_base.specs.Ranges.{IsPointWithin, AreSidesWithin}
use Rattle.rt_base.specs.declared.geometry.Point.{Point}
use Rattle.rt_base.specs.declared.tech.Tech.{Tech}
use Rattle.rt_base.specs.declared.tech.Via.{Via}
use Rattle.rt_base.specs.Geometry.{distance}
use Rattle.track_graph.specs.declared.design.Design.{Design}
use Rattle.track_graph.specs.declared.history.Stroke.{Stroke}
use Rattle.track_graph.specs.declared.history.Stroke.TheVariants.{Run, Via as ViaAt}
use Rattle.track_graph.specs.Edges.{Joins}
use Rattle.track_graph.specs.Entries.{rects_of}
use Rattle.track_graph.specs.Levels.{levels}
use Rattle.track_graph.specs.Metal.{Metal}

-- a straight run on a level between two different points that are near enough
pub record IsGoodRun (tech : Tech) (level : ℕ) (a b : Point) : Type 0 where
  pub on_level : level < length (levels tech)
  pub straight : (a.x ≡ b.x) ⊎ (a.y ≡ b.y)
  pub apart : distance a b ≢ 0
  pub start : IsPointWithin (2 ^ 30) a
  pub end : IsPointWithin (2 ^ 30) b

-- a usable via between two levels, at a point that is near enough
pub record IsGoodVia (tech : Tech) (k : ℕ) (p : Point) : Type 0 where
  pub low : ℕ
  pub joins : Joins tech k low
  pub upper_level : low + 1 < length (levels tech)
  pub point : IsPointWithin (2 ^ 30) p

-- what makes a stroke one that can be written and read
abbrev pub IsGoodStroke : Tech → Stroke → Type 0
IsGoodStroke tech (Run level a b) = IsGoodRun tech level a b
IsGoodStroke tech (ViaAt k p) = IsGoodVia tech k p

-- what the readers and the limit on coordinates bring about beyond `IsDesign`: the die and the rectangles of pins are near enough
pub record IsNear (d : Design) : Type 0 where
  pub die : AreSidesWithin (2 ^ 30) d.grid.die
  pub pins : (n k : ℕ) → All (λ (m : Metal). AreSidesWithin (2 ^ 30) m.1) (rects_of d n k)

-- the lower left corner of a rectangle is nowhere above or to the right of the upper right one
abbrev pub IsOrdered : Sides → Type 0
IsOrdered s = (s.xl ≤ℤ s.xh) × (s.yl ≤ℤ s.yh)

-- the rectangles of usable vias are so, as those of every `Rect` are
abbrev pub AreViasOrdered : Tech → Type 0
AreViasOrdered tech = (k : ℕ) (v : Via) → slice_get tech.vias k ≡ Some v → IsTrue v.usable → All (λ (m : Metal). IsOrdered m.1) v.rects

-- the usable vias have the same numbers and rectangles in another technology
abbrev pub HasVias : Tech → Tech → Type 0
HasVias other tech = (k : ℕ) (v : Via) → slice_get tech.vias k ≡ Some v → IsTrue v.usable → (u : Via) × (slice_get other.vias k ≡ Some u) × (u.rects ≡ v.rects)

-- Guides: where the wires of a net may run (ISPD 2018 contest, route guides).
use Rattle.std.specs.Prelude.{◌≡◌, ℕ, List, Any}
use Rattle.rt_base.specs.declared.geometry.Point.{Point}
use Rattle.rt_base.specs.Sides.{Sides}
use Rattle.rt_base.specs.Geometry.{Holds, hull_of}

-- a list of closed boxes, each on a level
abbrev pub Guide : Type 0
Guide = List (ℕ × Sides)

-- a box of the level holds the point
abbrev pub InGuide : Guide → ℕ → Point → Type 0
InGuide guide level p = Any (λ (box : ℕ × Sides). (box.0 ≡ level) × Holds box.1 p) guide

-- each whole-number point from p to q lies in a box of the level
abbrev pub RunsInGuide : Guide → ℕ → Point → Point → Type 0
RunsInGuide guide level p q = (r : Point) → Holds (hull_of p q) r → InGuide guide level r

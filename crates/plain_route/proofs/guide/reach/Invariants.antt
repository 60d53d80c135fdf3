use Rattle.std.proofs.Common.{◌≡◌, ℕ, ◌<◌, get_or}
use Rattle.rt_base.specs.Geometry.{Holds}
use Rattle.rt_base.specs.Sides.{Sides}
use Rattle.plain_route.proofs.guide.reach.Given as goal

abbrev pub invariant-loop-b : goal.invariant-loop-b
invariant-loop-b l = (k : ℕ) (d : ℕ × Sides) → k < l.b-index → (get_or l.guide k d).0 ≡ l.level → Holds (get_or l.guide k d).1 l.p → ⊥

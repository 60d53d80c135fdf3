-- The shapes that stand in a state, in no order. Lists are compared by sums: where each sum over one is that over the other, each shape is as often in both.
use Rattle.std.specs.Prelude.{◌≡◌, ℕ, ◌+◌, ◌≤◌, List, ◌++◌, sum_by}
use Rattle.rt_base.specs.declared.tech.Shape.{Shape}
use Rattle.track_graph.specs.declared.design.Design.{Design}
use Rattle.track_graph.specs.declared.history.State.{State}
use Rattle.track_graph.specs.States.{standing}

-- the new shapes are the old ones and those added, each as often: whatever is counted of them, the sums agree
abbrev pub AreAdded : List Shape → List Shape → List Shape → Type 0
AreAdded added old new = (measure : Shape → ℕ) → sum_by measure new ≡ sum_by measure added + sum_by measure old

-- these shapes are among those, each at least as often: whatever is counted of them, the sum is at most that of those
abbrev pub AreAmong : List Shape → List Shape → Type 0
AreAmong some all = (measure : Shape → ℕ) → sum_by measure some ≤ sum_by measure all

-- the design's fixed shapes and those of the state's walks, each as often: whatever is counted of them, the sums agree
abbrev pub AreShapesOf : Design → State → List Shape → Type 0
AreShapesOf d s shapes = (measure : Shape → ℕ) → sum_by measure shapes ≡ sum_by measure (d.fixed ++ standing d s)

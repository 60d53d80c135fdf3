use Rattle.std.specs.Prelude.{◌≡◌, ◌⊎◌, ℕ, ◌+◌, ◌≤◌, ◌<◌, List, slice_get, Some, Option, Contains, length}
use Rattle.rt_base.specs.declared.walk.Vertex.{Vertex}
use Rattle.rt_base.specs.declared.walk.Edge.{Edge}
use Rattle.rt_base.specs.declared.walk.Walk.{Walk}
use Rattle.least_walk.specs.declared.graph.Stop.{Stop}
use Rattle.least_walk.specs.declared.label.Search.{Search}
use Rattle.least_walk.specs.declared.label.Best.{Best}
use Rattle.least_walk.specs.Known.{number_of}
use Rattle.least_walk.specs.Labels.{vertex_at, dist_at}
use Rattle.least_walk.specs.Routes.{IsRoute}
use Rattle.least_walk.specs.Search.{IsSettled, IsSound}

-- each vertex of the first i targets has the number of a cheapest of them
pub record IsEnds (targets : List Stop) (i : ℕ) (ends : List (Vertex × ℕ)) : Type 0 where
  pub is_end : (v : Vertex) (p : ℕ) → number_of ends v ≡ Some p → (t : Stop) × (slice_get targets p ≡ Some t) × (t.entry.vertex ≡ v)
  pub least : (k : ℕ) (t : Stop) → k < i → slice_get targets k ≡ Some t → (p : ℕ) × (u : Stop) × (number_of ends t.entry.vertex ≡ Some p) × (slice_get targets p ≡ Some u) × (u.cost ≤ t.cost)

-- a target at the vertex of a label, and what it costs to finish there
pub record IsFinish (s : Search) (targets : List Stop) (b : Best) : Type 0 where
  pub in_labels : b.number < length s.labels.items
  pub has : Contains targets b.target
  pub at_vertex : b.target.entry.vertex ≡ vertex_at s.labels.items b.number
  pub sum : b.cost ≡ dist_at s.labels.items b.number + b.target.cost

-- a best at this cost or less
abbrev pub IsAtMost : Option Best → ℕ → Type 0
IsAtMost best cost = (b : Best) × (best ≡ Some b) × (b.cost ≤ cost)

-- the best of the targets at settled vertices
pub record IsBest (s : Search) (targets : List Stop) (best : Option Best) : Type 0 where
  pub is_finish : (b : Best) → best ≡ Some b → IsFinish s targets b
  pub least : (k i : ℕ) (t : Stop) → slice_get targets i ≡ Some t → IsSettled s.settled.items k → t.entry.vertex ≡ vertex_at s.labels.items k → IsAtMost best (dist_at s.labels.items k + t.cost)

-- the better of a best and the targets at the vertex of label k
pub record IsImproved (s : Search) (targets : List Stop) (k : ℕ) (best result : Option Best) : Type 0 where
  pub from : (b : Best) → result ≡ Some b → (best ≡ Some b) ⊎ IsFinish s targets b
  pub kept : (b : Best) → best ≡ Some b → IsAtMost result b.cost
  pub least : (i : ℕ) (t : Stop) → slice_get targets i ≡ Some t → t.entry.vertex ≡ vertex_at s.labels.items k → IsAtMost result (dist_at s.labels.items k + t.cost)

-- a sound search, and the best finish that it has come to
pub record IsUnderway (vertices : List Vertex) (HasEdge : Vertex → Edge → ℕ → Type 0) (bound_of : Vertex → ℕ) (sources targets : List Stop) (s : Search) (best : Option Best) : Type 0 where
  pub sound : IsSound vertices HasEdge bound_of sources s
  pub is_best : IsBest s targets best

-- a finish, and no route costs less
pub record IsLeastFinish (HasEdge : Vertex → Edge → ℕ → Type 0) (sources targets : List Stop) (s : Search) (b : Best) : Type 0 where
  pub finish : IsFinish s targets b
  pub least : (w : Walk) (c : ℕ) → IsRoute HasEdge sources targets w c → b.cost ≤ c

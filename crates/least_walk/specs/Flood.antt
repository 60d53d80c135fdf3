-- Floods: the vertices that are reached from some targets.
use Rattle.std.specs.Prelude.{◌≡◌, ℕ, ◌≤◌, ◌<◌, List, Some, slice_get, Contains, length}
use Rattle.rt_base.specs.declared.walk.Vertex.{Vertex}
use Rattle.rt_base.specs.declared.walk.Edge.{Edge}
use Rattle.least_walk.specs.declared.graph.Stop.{Stop}
use Rattle.least_walk.specs.declared.flood.Flood.{Flood}
use Rattle.least_walk.specs.Known.{number_of}

-- v has a number
abbrev pub IsKnown : List (Vertex × ℕ) → Vertex → Type 0
IsKnown known v = (n : ℕ) × (number_of known v ≡ Some n)

-- the vertex of each stop has a number
abbrev pub AreKnown : List (Vertex × ℕ) → List Stop → Type 0
AreKnown known stops = (s : Stop) → Contains stops s → IsKnown known s.entry.vertex

-- what is reached is in the queue; what is there is a vertex, and none of those that others met
pub record IsFlood (vertices : List Vertex) (met : List (Vertex × ℕ)) (f : Flood) : Type 0 where
  pub listed : (v : Vertex) → IsKnown f.reached v → Contains f.queue.items v
  pub within : (v : Vertex) → Contains f.queue.items v → Contains vertices v
  pub apart : (v : Vertex) → Contains f.queue.items v → IsKnown met v → ⊥

-- new has what old has, at its places in the queue
pub record Grows (old new : Flood) : Type 0 where
  pub longer : length old.queue.items ≤ length new.queue.items
  pub same : (k : ℕ) → k < length old.queue.items → slice_get new.queue.items k ≡ slice_get old.queue.items k
  pub reached : (v : Vertex) → IsKnown old.reached v → IsKnown new.reached v

-- a flood that has grown
pub record IsGrown (vertices : List Vertex) (met : List (Vertex × ℕ)) (old new : Flood) : Type 0 where
  pub flood : IsFlood vertices met new
  pub grows : Grows old new

-- it has reached v
pub record Reaches (vertices : List Vertex) (met : List (Vertex × ℕ)) (v : Vertex) (old new : Flood) : Type 0 where
  pub grown : IsGrown vertices met old new
  pub has : IsKnown new.reached v

-- it has reached what these edges from v lead to
pub record Spreads (vertices : List Vertex) (HasEdge : Vertex → Edge → ℕ → Type 0) (met : List (Vertex × ℕ)) (v : Vertex) (edges : List Edge) (old new : Flood) : Type 0 where
  pub grown : IsGrown vertices met old new
  pub has : (e : Edge) (c : ℕ) → Contains edges e → HasEdge v e c → IsKnown new.reached e.to

-- it has reached the targets, and what edges from the first vertices of the queue lead to
pub record IsFloodFrom (vertices : List Vertex) (HasEdge : Vertex → Edge → ℕ → Type 0) (met : List (Vertex × ℕ)) (targets : List Stop) (done : ℕ) (f : Flood) : Type 0 where
  pub flood : IsFlood vertices met f
  pub targets_in : AreKnown f.reached targets
  pub in_queue : done ≤ length f.queue.items
  pub edges_in : (k : ℕ) (v : Vertex) (e : Edge) (c : ℕ) → k < done → slice_get f.queue.items k ≡ Some v → HasEdge v e c → IsKnown f.reached e.to

-- Routes of least cost in a graph that is given by a relation: edge e leads on from vertex v, at cost c.
use Rattle.std.specs.Prelude.{◌≡◌, ℕ, ◌+◌, ◌≤◌, List, [], ◌∷◌, Contains}
use Rattle.rt_base.specs.declared.walk.Vertex.{Vertex}
use Rattle.rt_base.specs.declared.walk.Edge.{Edge}
use Rattle.rt_base.specs.declared.walk.Walk.{Walk}
use Rattle.least_walk.specs.declared.graph.Stop.{Stop}

-- edges that follow each other from v on, with their costs' sum
abbrev pub IsPath : (Vertex → Edge → ℕ → Type 0) → Vertex → List Edge → ℕ → Type 0
IsPath HasEdge v [] cost = cost ≡ 0
IsPath HasEdge v (e ∷ es) cost = (first : ℕ) × (rest : ℕ) × HasEdge v e first × IsPath HasEdge e.to es rest × (cost ≡ first + rest)

-- where they end
abbrev pub end_of : Vertex → List Edge → Vertex
end_of v [] = v
end_of v (e ∷ es) = end_of e.to es

-- from a source over edges that lead on to a target, at the cost of the source, the edges and the target together
pub record IsRoute (HasEdge : Vertex → Edge → ℕ → Type 0) (sources targets : List Stop) (w : Walk) (cost : ℕ) : Type 0 where
  pub source : Stop
  pub is_source : Contains sources source
  pub starts : w.start ≡ source.entry
  pub target : Stop
  pub is_target : Contains targets target
  pub finishes : w.finish ≡ target.entry
  pub between : ℕ
  pub path : IsPath HasEdge w.start.vertex w.edges between
  pub arrives : end_of w.start.vertex w.edges ≡ w.finish.vertex
  pub sum : cost ≡ source.cost + between + target.cost

-- a route, and no route costs less
pub record IsLeastRoute (HasEdge : Vertex → Edge → ℕ → Type 0) (sources targets : List Stop) (w : Walk) : Type 0 where
  pub cost : ℕ
  pub route : IsRoute HasEdge sources targets w cost
  pub least : (v : Walk) (c : ℕ) → IsRoute HasEdge sources targets v c → cost ≤ c

-- there is no route
abbrev pub HasNoRoute : (Vertex → Edge → ℕ → Type 0) → List Stop → List Stop → Type 0
HasNoRoute HasEdge sources targets = (v : Walk) (c : ℕ) → IsRoute HasEdge sources targets v c → ⊥

-- edges lead from vertices to vertices, an edge has one cost, a bound falls along an edge by its cost at most, and some edge leads back
pub record IsGraph (vertices : List Vertex) (HasEdge : Vertex → Edge → ℕ → Type 0) (bound_of : Vertex → ℕ) : Type 0 where
  pub leads : (v : Vertex) (e : Edge) (c : ℕ) → Contains vertices v → HasEdge v e c → Contains vertices e.to
  pub single : (v : Vertex) (e : Edge) (c d : ℕ) → Contains vertices v → HasEdge v e c → HasEdge v e d → c ≡ d
  pub falls : (v : Vertex) (e : Edge) (c : ℕ) → Contains vertices v → HasEdge v e c → bound_of v ≤ c + bound_of e.to
  pub back : (v : Vertex) (e : Edge) (c : ℕ) → Contains vertices v → HasEdge v e c → (f : Edge) × (d : ℕ) × HasEdge e.to f d × (f.to ≡ v)

-- each stop is at a vertex
abbrev pub AreStarts : List Vertex → List Stop → Type 0
AreStarts vertices sources = (s : Stop) → Contains sources s → Contains vertices s.entry.vertex

-- each stop is at a vertex, whose bound is at most the stop's cost
pub record AreEnds (vertices : List Vertex) (bound_of : Vertex → ℕ) (targets : List Stop) : Type 0 where
  pub within : (t : Stop) → Contains targets t → Contains vertices t.entry.vertex
  pub bounded : (t : Stop) → Contains targets t → bound_of t.entry.vertex ≤ t.cost

-- each edge that leads on from v is listed
abbrev pub HoldsEdges : (Vertex → Edge → ℕ → Type 0) → Vertex → List Edge → Type 0
HoldsEdges HasEdge v edges = (e : Edge) (c : ℕ) → HasEdge v e c → Contains edges e

-- What makes a walk legal, edge by edge, and what it costs.
use Rattle.std.specs.Prelude.{◌≡◌, ℕ, ⊤, List, [], ◌∷◌, sum_by}
use Rattle.rt_base.specs.declared.walk.Edge.{Edge}
use Rattle.rt_base.specs.declared.walk.Vertex.{Vertex}
use Rattle.rt_base.specs.declared.walk.Walk.{Walk}
use Rattle.track_graph.specs.declared.design.Design.{Design}
use Rattle.track_graph.specs.declared.history.NetState.{NetState}
use Rattle.track_graph.specs.Searches.{Reading, IsLegal, part_cost, walk_cost}
use Rattle.track_graph.specs.Walks.{end_of, path_parts}
use Rattle.plain_route.specs.Ground.{IsLegalEdge}

-- edges that a legal walk may take, each from the end of the one before, from v on
abbrev pub AreLegalEdges : Design → ℕ → Reading → Vertex → List Edge → Type 0
AreLegalEdges d n r v [] = ⊤
AreLegalEdges d n r v (e ∷ es) = IsLegalEdge d n r v e × AreLegalEdges d n r e.to es

-- the sum over these edges
abbrev pub path_cost : Design → ℕ → Reading → Vertex → List Edge → ℕ
path_cost d n r v es = sum_by (part_cost d n r) (path_parts d v es)

-- such edges, at this cost and with this end
pub record IsLegalPath (d : Design) (n : ℕ) (r : Reading) (v : Vertex) (es : List Edge) (found : ℕ × Vertex) : Type 0 where
  pub legal : AreLegalEdges d n r v es
  pub cost : found.0 ≡ path_cost d n r v es
  pub end : found.1 ≡ end_of v es

-- a legal walk, at this cost
pub record IsLegalAt (d : Design) (n : ℕ) (own : NetState) (r : Reading) (w : Walk) (cost : ℕ) : Type 0 where
  pub legal : IsLegal d n own r w
  pub sum : cost ≡ walk_cost d n r w

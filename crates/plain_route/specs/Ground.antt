-- What a search of a net looks at, and the edges and entries that a legal walk may take there.
use Rattle.std.specs.Prelude.{◌≡◌, ℕ, false, length, All, Contains}
use Rattle.rt_base.specs.Sides.{Sides}
use Rattle.rt_base.specs.Geometry.{Holds, high_of}
use Rattle.rt_base.specs.declared.geometry.Point.{Point}
use Rattle.rt_base.specs.declared.walk.Edge.{Edge}
use Rattle.rt_base.specs.declared.walk.Entry.{Entry}
use Rattle.rt_base.specs.declared.walk.Vertex.{Vertex}
use Rattle.track_graph.specs.declared.design.Design.{Design}
use Rattle.track_graph.specs.declared.history.NetState.{NetState}
use Rattle.track_graph.specs.Designs.{IsDesign}
use Rattle.track_graph.specs.Edges.{IsEdge, EdgeInGuide, edge_metal, edge_cost_of}
use Rattle.track_graph.specs.Entries.{entry_part, pins_of}
use Rattle.track_graph.specs.NetWalks.{IsWalkOf}
use Rattle.track_graph.specs.Guide.{Guide, InGuide}
use Rattle.track_graph.specs.Histories.{IsRoutable}
use Rattle.track_graph.specs.Levels.{track_system_of}
use Rattle.track_graph.specs.Metal.{shapes_of}
use Rattle.track_graph.specs.Searches.{Reading, guide_of, some_conflict, part_cost}

-- a box of the level that holds p has this upper right corner
pub record Reaches (guide : Guide) (level : ℕ) (p far : Point) : Type 0 where
  pub box : Sides
  pub in_guide : Contains guide (level, box)
  pub holds : Holds box p
  pub corner : far ≡ high_of box

-- each point of a rectangle lies in a box of the level
abbrev pub CoversAll : Guide → ℕ → Sides → Type 0
CoversAll guide level s = (r : Point) → Holds s r → InGuide guide level r

-- a state of net n: it tells of each of its pins whether it is joined, and has no walk but of the net
pub record IsNetStateOf (d : Design) (n : ℕ) (own : NetState) : Type 0 where
  pub pins : length own.joined ≡ length (pins_of d n)
  pub walks : All (IsWalkOf d n) own.walks

-- a design, a net of it that is to be routed, and what stands of the net
pub record IsGround (d : Design) (n : ℕ) (own : NetState) : Type 0 where
  pub design : IsDesign d
  pub net : IsRoutable d n
  pub of_net : IsNetStateOf d n own

-- an edge from v that a legal walk may take
pub record IsLegalEdge (d : Design) (n : ℕ) (r : Reading) (v : Vertex) (e : Edge) : Type 0 where
  pub edge : IsEdge (track_system_of d) v e
  pub inside : EdgeInGuide (guide_of d n) v e
  pub clear : some_conflict d.tech (shapes_of n (edge_metal d v e)) r.forbidding ≡ false

-- what an edge costs in a walk
abbrev pub read_edge_cost : Design → ℕ → Reading → Vertex → Edge → ℕ
read_edge_cost d n r v e = part_cost d n r (edge_cost_of d v e, edge_metal d v e)

-- such an edge, at its cost
pub record IsStep (d : Design) (n : ℕ) (r : Reading) (v : Vertex) (e : Edge) (cost : ℕ) : Type 0 where
  pub legal : IsLegalEdge d n r v e
  pub sum : cost ≡ read_edge_cost d n r v e

-- an entry at which a legal walk may start or finish
pub record IsOpen (d : Design) (n : ℕ) (r : Reading) (e : Entry) : Type 0 where
  pub inside : InGuide (guide_of d n) e.vertex.level e.vertex.point
  pub clear : some_conflict d.tech (shapes_of n (entry_part d n e).1) r.forbidding ≡ false

-- such an entry, at its cost
pub record IsStopAt (d : Design) (n : ℕ) (r : Reading) (e : Entry) (cost : ℕ) : Type 0 where
  pub open_entry : IsOpen d n r e
  pub sum : cost ≡ part_cost d n r (entry_part d n e)

-- Edges of the track graph: along a track, and by a via (LEF 5.8, VIA DEFAULT; Gester and others 2013).
use Rattle.std.specs.Prelude.{◌≡◌, ◌≢◌, ◌⊎◌, ℕ, ◌+◌, ℤ, List, [], ◌∷◌, IsTrue, slice_get, Some}
use Rattle.std.specs.Int.{int_min, int_max}
use Rattle.rt_base.specs.declared.tech.Tech.{Tech}
use Rattle.rt_base.specs.declared.tech.Via.{Via}
use Rattle.rt_base.specs.declared.walk.Vertex.{Vertex}
use Rattle.rt_base.specs.declared.walk.Edge.{Edge}
use Rattle.rt_base.specs.declared.walk.EdgeKind.{EdgeKind}
use Rattle.rt_base.specs.declared.walk.EdgeKind.TheVariants.{Along, Via as ByVia}
use Rattle.track_graph.specs.declared.design.Design.{Design}
use Rattle.track_graph.specs.Levels.{TrackSystem, IsVertex, NoneBetween, along, line_of, positions_of}
use Rattle.track_graph.specs.Guide.{Guide, InGuide, RunsInGuide}
use Rattle.track_graph.specs.Metal.{Metal, wire_metal, via_metal, JoinsLevels}
use Rattle.rt_base.specs.Geometry.{distance}

-- two different numbers with no position strictly between them
abbrev pub AreNeighbours : List ℤ → ℤ → ℤ → Type 0
AreNeighbours positions a b = (a ≢ b) × NoneBetween positions (int_min a b) (int_max a b)

-- neighbouring positions of one track
pub record IsAlong (g : TrackSystem) (v w : Vertex) : Type 0 where
  pub level : v.level ≡ w.level
  pub line : line_of g.tech v.level v.point ≡ line_of g.tech v.level w.point
  pub neighbours : AreNeighbours (positions_of g.tracks v.level) (along g.tech v.level v.point) (along g.tech v.level w.point)

-- via k is usable, and joins a level and the next one up
pub record Joins (tech : Tech) (k level : ℕ) : Type 0 where
  pub via : Via
  pub is_via : slice_get tech.vias k ≡ Some via
  pub usable : IsTrue via.usable
  pub levels : JoinsLevels tech via.rects level

-- two neighbouring levels at one point, joined by via k
pub record IsVia (tech : Tech) (k : ℕ) (v w : Vertex) : Type 0 where
  pub point : v.point ≡ w.point
  pub levels : ((w.level ≡ v.level + 1) × Joins tech k v.level) ⊎ ((v.level ≡ w.level + 1) × Joins tech k w.level)

abbrev pub FitsKind : TrackSystem → EdgeKind → Vertex → Vertex → Type 0
FitsKind g Along v w = IsAlong g v w
FitsKind g (ByVia k) v w = IsVia g.tech k v w

-- an edge from v
pub record IsEdge (g : TrackSystem) (v : Vertex) (e : Edge) : Type 0 where
  pub start : IsVertex g v
  pub end : IsVertex g e.to
  pub kind : FitsKind g e.kind v e.to

abbrev pub kind_cost : Design → EdgeKind → Vertex → Vertex → ℕ
kind_cost d Along v w = distance v.point w.point
kind_cost d (ByVia k) v w = d.options.via

-- 1 for each unit along a track, and what the user chose for a via
abbrev pub edge_cost_of : Design → Vertex → Edge → ℕ
edge_cost_of d v e = kind_cost d e.kind v e.to

abbrev pub kind_metal : Design → EdgeKind → Vertex → Vertex → List Metal
kind_metal d Along v w = wire_metal d.tech v.level v.point w.point ∷ []
kind_metal d (ByVia k) v w = via_metal d.tech k v.point

-- the hull of the squares round both ends, or the via's rectangles there
abbrev pub edge_metal : Design → Vertex → Edge → List Metal
edge_metal d v e = kind_metal d e.kind v e.to

abbrev pub KindInGuide : Guide → EdgeKind → Vertex → Vertex → Type 0
KindInGuide guide Along v w = RunsInGuide guide v.level v.point w.point
KindInGuide guide (ByVia k) v w = InGuide guide v.level v.point × InGuide guide w.level w.point

-- an edge inside the guide
abbrev pub EdgeInGuide : Guide → Vertex → Edge → Type 0
EdgeInGuide guide v e = KindInGuide guide e.kind v e.to

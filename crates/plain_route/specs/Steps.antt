-- The edges that may lead on from a vertex.
use Rattle.std.specs.Prelude.{◌≡◌, ◌<◌, ℕ, ◌+◌, ℤ, List, Any, Contains, IsTrue}
use Rattle.rt_base.specs.declared.tech.Tech.{Tech}
use Rattle.rt_base.specs.declared.tech.Via.{Via}
use Rattle.rt_base.specs.declared.walk.Edge.{Edge}
use Rattle.rt_base.specs.declared.walk.EdgeKind.TheVariants.{Along, Via as ByVia}
use Rattle.rt_base.specs.declared.walk.Vertex.{Vertex}
use Rattle.track_graph.specs.Edges.{AreNeighbours, Joins}
use Rattle.track_graph.specs.Levels.{along, line_of, layer_no, vertex_at}
use Rattle.track_graph.specs.Metal.{Metal}
use Rattle.plain_route.specs.declared.steps.NearLayers.{NearLayers}

-- along the track of v to a position
abbrev pub along_edge : Tech → Vertex → ℤ → Edge
along_edge tech v z = record { kind = Along; to = vertex_at tech v.level (line_of tech v.level v.point) (z) }

-- by via k to a level
abbrev pub by_via : Vertex → ℕ → ℕ → Edge
by_via v k level = record { kind = ByVia k; to = record { level = level; point = v.point } }

-- what was listed still is
abbrev pub Keeps : List Edge → List Edge → Type 0
Keeps old new = (e : Edge) → Contains old e → Contains new e

-- new has what old has, and the edge to each neighbour among these positions
pub record HasNeighbours (tech : Tech) (v : Vertex) (positions : List ℤ) (old new : List Edge) : Type 0 where
  pub keeps : Keeps old new
  pub has : (z : ℤ) → Contains positions z → AreNeighbours positions (along tech v.level v.point) z → Contains new (along_edge tech v z)

-- these are the layers of a level and of those next to it
pub record AreNear (tech : Tech) (level : ℕ) (layers : NearLayers) : Type 0 where
  pub here : layers.here ≡ layer_no tech level
  pub below : (low : ℕ) → level ≡ low + 1 → layers.below ≡ layer_no tech low
  pub above : level < 255 → layers.above ≡ layer_no tech (level + 1)

-- a rectangle of a via stands on the layer with this number
abbrev pub StandsOn : Via → ℕ → Type 0
StandsOn via layer = Any (λ (r : Metal). r.0.0 ≡ layer) via.rects

-- new has what old has, and the edge by via k to the level above, if it stands on the layer
pub record HasAbove (v : Vertex) (k : ℕ) (via : Via) (layer : ℕ) (old new : List Edge) : Type 0 where
  pub keeps : Keeps old new
  pub has : v.level < 255 → StandsOn via layer → Contains new (by_via v k (v.level + 1))

-- new has what old has, and the edge by via k to the level below, if it stands on the layer
pub record HasBelow (v : Vertex) (k : ℕ) (via : Via) (layer : ℕ) (old new : List Edge) : Type 0 where
  pub keeps : Keeps old new
  pub has : (level : ℕ) → v.level ≡ level + 1 → StandsOn via layer → Contains new (by_via v k level)

-- new has what old has, and the edges by via k to the levels above and below, if it is usable and stands on their layers
pub record HasVia (v : Vertex) (k : ℕ) (via : Via) (layers : NearLayers) (old new : List Edge) : Type 0 where
  pub keeps : Keeps old new
  pub above : IsTrue via.usable → StandsOn via layers.here → v.level < 255 → StandsOn via layers.above → Contains new (by_via v k (v.level + 1))
  pub below : (level : ℕ) → IsTrue via.usable → StandsOn via layers.here → v.level ≡ level + 1 → StandsOn via layers.below → Contains new (by_via v k level)

-- new has what old has, and the edges by each of the first vias that is usable and joins the levels
pub record HasVias (tech : Tech) (v : Vertex) (past : ℕ) (old new : List Edge) : Type 0 where
  pub keeps : Keeps old new
  pub above : (k : ℕ) → k < past → v.level < 255 → Joins tech k v.level → Contains new (by_via v k (v.level + 1))
  pub below : (k level : ℕ) → k < past → v.level ≡ level + 1 → Joins tech k level → Contains new (by_via v k level)

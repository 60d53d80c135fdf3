-- The shapes of a walk stand on layers that there are, in range.
use Rattle.std.proofs.Common.{◌≡◌, ℕ, List, [], ◌∷◌, All, refl}
use Rattle.std.proofs.lemmas.List.Elements.{All-nil, All-cons, All-append}
use Rattle.rt_base.specs.declared.tech.Tech.{Tech}
use Rattle.rt_base.specs.declared.walk.Edge.{Edge}
use Rattle.rt_base.specs.declared.walk.EdgeKind.{EdgeKind}
use Rattle.rt_base.specs.declared.walk.EdgeKind.TheVariants.{Along, Via as ByVia}
use Rattle.rt_base.specs.declared.walk.Vertex.{Vertex}
use Rattle.rt_base.specs.declared.walk.Walk.{Walk}
use Rattle.track_graph.specs.declared.design.Design.{Design}
use Rattle.track_graph.specs.Designs.{IsDesign}
use Rattle.track_graph.specs.Edges.{IsEdge, edge_cost_of, edge_metal, kind_metal}
use Rattle.track_graph.specs.Entries.{entry_part}
use Rattle.track_graph.specs.Levels.{track_system_of}
use Rattle.track_graph.specs.Metal.{Metal, shape_of, shapes_of, wire_metal}
use Rattle.track_graph.specs.NetWalks.{IsNetWalk}
use Rattle.track_graph.specs.Walks.{IsPath, parts_shapes, path_parts, walk_shapes_of}
use Rattle.track_graph.proofs.ShapeLemmas.{vertex_within}
use Rattle.plain_route.specs.Fitting.{IsFitting}
use Rattle.plain_route.proofs.FitLemmas.{wire_fits, via_fits, edge_via, entry_fits}

edge_fits : (d : Design) (n : ℕ) (v : Vertex) (e : Edge) → IsDesign d → IsEdge (track_system_of d) v e → All (IsFitting d.tech n) (shapes_of n (edge_metal d v e))
edge_fits d n v e ok is = by_kind e.kind refl
  where
    by_kind : (k : EdgeKind) → e.kind ≡ k → All (IsFitting d.tech n) (shapes_of n (kind_metal d k v e.to))
    by_kind Along same = All-cons (IsFitting d.tech n) (shape_of n (wire_metal d.tech v.level v.point e.to.point)) [] (wire_fits d.tech n v.level v.point e.to.point ok.tech is.start.level (vertex_within d v ok is.start) (vertex_within d e.to ok is.end)) (All-nil (IsFitting d.tech n))
    by_kind (ByVia k) same = via_fits d n k v.point ok (edge_via d v e k is same) (vertex_within d v ok is.start)

part_fits : (tech : Tech) (n : ℕ) (part : ℕ × List Metal) (parts : List (ℕ × List Metal)) → All (IsFitting tech n) (shapes_of n part.1) → All (IsFitting tech n) (parts_shapes n parts) → All (IsFitting tech n) (parts_shapes n (part ∷ parts))
part_fits tech n part parts a b = All-append (IsFitting tech n) (shapes_of n part.1) (parts_shapes n parts) a b

path_fits : (d : Design) (n : ℕ) (v : Vertex) (es : List Edge) → IsDesign d → IsPath (track_system_of d) v es → All (IsFitting d.tech n) (parts_shapes n (path_parts d v es))
path_fits d n v [] ok path = All-nil (IsFitting d.tech n)
path_fits d n v (e ∷ es) ok path = part_fits d.tech n (edge_cost_of d v e, edge_metal d v e) (path_parts d e.to es) (edge_fits d n v e ok path.0) (path_fits d n e.to es ok path.1)

-- the shapes of a walk
pub walk_fits : (d : Design) (n : ℕ) (w : Walk) → IsDesign d → IsNetWalk d n w → All (IsFitting d.tech n) (walk_shapes_of d n w)
walk_fits d n w ok h =
    part_fits d.tech n (entry_part d n w.start) (entry_part d n w.finish ∷ path_parts d w.start.vertex w.edges) (entry_fits d n w.start ok h.start)
    (part_fits d.tech n (entry_part d n w.finish) (path_parts d w.start.vertex w.edges) (entry_fits d n w.finish ok h.finish)
    (path_fits d n w.start.vertex w.edges ok h.path))

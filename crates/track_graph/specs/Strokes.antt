-- Strokes: a walk as straight runs and vias, as DEF writes regular wiring (DEF 5.8, NETS: regularWiring).
use Rattle.std.specs.Prelude.{ℕ, Bool, true, false, ◌||◌, ◌==◌, ◌&&◌, not, List, [], ◌∷◌, ◌++◌, if◌then◌else◌, int_lt}
use Rattle.rt_base.specs.Sides.{Sides}
use Rattle.rt_base.specs.declared.geometry.Point.{Point}
use Rattle.rt_base.specs.declared.walk.Vertex.{Vertex}
use Rattle.rt_base.specs.declared.walk.Edge.{Edge}
use Rattle.rt_base.specs.declared.walk.EdgeKind.{EdgeKind}
use Rattle.rt_base.specs.declared.walk.EdgeKind.TheVariants.{Along, Via as ByVia}
use Rattle.rt_base.specs.declared.walk.Entry.{Entry}
use Rattle.rt_base.specs.declared.walk.EntryKind.{EntryKind}
use Rattle.rt_base.specs.declared.walk.EntryKind.TheVariants.{Pin as AtPin, Stub, Wire as OnWire}
use Rattle.rt_base.specs.declared.walk.Walk.{Walk}
use Rattle.track_graph.specs.declared.design.Design.{Design}
use Rattle.track_graph.specs.declared.history.Stroke.{Stroke}
use Rattle.track_graph.specs.declared.history.Stroke.TheVariants.{Run, Via as ViaAt}
use Rattle.rt_base.specs.Geometry.{distance, nearest_point}
use Rattle.track_graph.specs.Entries.{corner_of, rect_of}

-- a run, or nothing where its ends are one point
abbrev pub run_between : ℕ → Point → Point → List Stroke
run_between level a b = if distance a b == 0 then [] else Run level a b ∷ []

-- from the rectangle's nearest point in x and then in y
abbrev pub stub_strokes : Sides → Vertex → List Stroke
stub_strokes s v =
    let p = nearest_point s v.point in
    run_between v.level p (corner_of p v) ++ run_between v.level (corner_of p v) v.point

abbrev pub entry_kind_strokes : Design → ℕ → EntryKind → Vertex → List Stroke
entry_kind_strokes d n (AtPin pin) v = []
entry_kind_strokes d n (Stub pin k) v = stub_strokes (rect_of d n pin k) v
entry_kind_strokes d n OnWire v = []

abbrev pub entry_strokes : Design → ℕ → Entry → List Stroke
entry_strokes d n e = entry_kind_strokes d n e.kind e.vertex

-- to the right or upwards
abbrev pub is_up : Point → Point → Bool
is_up a b = int_lt a.x b.x || int_lt a.y b.y

abbrev pub is_along : EdgeKind → Bool
is_along Along = true
is_along (ByVia k) = false

-- from a to b and from b to c is one way
abbrev pub is_same_direction : Point → Point → Point → Bool
is_same_direction a b c = if is_up a b then is_up b c else not (is_up b c)

-- the run from a to b goes on with the first of these edges
abbrev pub goes_on : Point → Point → List Edge → Bool
goes_on a b [] = false
goes_on a b (e ∷ es) = is_along e.kind && is_same_direction a b e.to.point

-- the first run begins at a
abbrev pub begun_at : Point → List Stroke → List Stroke
begun_at a [] = []
begun_at a (Run level p b ∷ ss) = Run level a b ∷ ss
begun_at a (ViaAt k p ∷ ss) = ViaAt k p ∷ ss

-- each maximal group of edges along one track in one direction is one run, and each via is one via
abbrev pub path_strokes : Vertex → List Edge → List Stroke
path_strokes v [] = []
path_strokes v (e ∷ es) = edge_strokes v e.kind e.to es (path_strokes e.to es)
  where
    edge_strokes : Vertex → EdgeKind → Vertex → List Edge → List Stroke → List Stroke
    edge_strokes v Along w es ss = if goes_on v.point w.point es then begun_at v.point ss else Run v.level v.point w.point ∷ ss
    edge_strokes v (ByVia k) w es ss = ViaAt k v.point ∷ ss

-- those of the start, of the edges and of the finish
abbrev pub walk_strokes : Design → ℕ → Walk → List Stroke
walk_strokes d n w = entry_strokes d n w.start ++ path_strokes w.start.vertex w.edges ++ entry_strokes d n w.finish

-- The strokes of a net's walk can be written and read again.
use Rattle.std.proofs.Common.{Bool, true, false, cond, ◌≡◌, ◌≢◌, ◌⊎◌, inl, inr, ⊎_elim, ℕ, ◌+◌, ◌^◌, ◌<◌, ◌==◌, List, [], ◌∷◌, ◌++◌, length, flat_map, Option, Some, None, slice_get, unwrap_or, All, refl, sym, subst, ◌∙◌, arith}
use Rattle.std.proofs.lemmas.Bool.{false≢true}
use Rattle.std.proofs.lemmas.Bool.Decides.{Decides-eqb}
use Rattle.std.proofs.lemmas.List.Elements.{All-nil, All-cons, All-append, All-head, All-tail}
use Rattle.rt_base.specs.Sides.{Sides}
use Rattle.rt_base.specs.Ranges.{IsPointWithin, AreSidesWithin}
use Rattle.rt_base.specs.declared.geometry.Point.{Point}
use Rattle.rt_base.specs.declared.tech.Tech.{Tech}
use Rattle.rt_base.specs.declared.walk.Edge.{Edge}
use Rattle.rt_base.specs.declared.walk.EdgeKind.{EdgeKind}
use Rattle.rt_base.specs.declared.walk.EdgeKind.TheVariants.{Along, Via as ByVia}
use Rattle.rt_base.specs.declared.walk.Entry.{Entry}
use Rattle.rt_base.specs.declared.walk.EntryKind.{EntryKind}
use Rattle.rt_base.specs.declared.walk.EntryKind.TheVariants.{Pin as AtPin, Stub, Wire as OnWire}
use Rattle.rt_base.specs.declared.walk.Vertex.{Vertex}
use Rattle.rt_base.specs.declared.walk.Walk.{Walk}
use Rattle.rt_base.proofs.Ranges.{within-between}
use Rattle.rt_base.specs.Geometry.{distance, nearest_point}
use Rattle.track_graph.specs.declared.design.Design.{Design}
use Rattle.track_graph.specs.declared.history.Stroke.TheVariants.{Run, Via as ViaAt}
use Rattle.track_graph.specs.Designs.{IsDesign}
use Rattle.track_graph.specs.Edges.{IsEdge, FitsKind, IsAlong, IsVia, Joins}
use Rattle.track_graph.specs.Entries.{corner_of, rects_of, rect_of, no_metal}
use Rattle.track_graph.specs.Levels.{track_system_of, IsVertex, levels, is_horizontal}
use Rattle.track_graph.specs.Metal.{Metal}
use Rattle.track_graph.specs.NetWalks.{IsNetEntry, IsNetWalk}
use Rattle.track_graph.specs.Strokes.{run_between, stub_strokes, entry_kind_strokes, entry_strokes, goes_on, begun_at, path_strokes, walk_strokes}
use Rattle.track_graph.specs.Walks.{IsPath}
use Rattle.track_graph.proofs.EntryLemmas.{entry_vertex, nearest_point_within}
use Rattle.track_graph.proofs.PathLemmas.{strokes-on, strokes-end, strokes-via, strokes-begun}
use Rattle.wire_cover.specs.GoodStrokes.{IsGoodRun, IsGoodVia, IsGoodStroke, IsNear}
use Rattle.rt_base.proofs.Lists.{All-at}
use Rattle.wire_cover.proofs.Directions.{AreInLine, in_line, in_line-straight, in_line-apart, Begins, GoesTo, goes_to}

-- ---- points near enough

vertex_near : (d : Design) (v : Vertex) → IsNear d → IsVertex (track_system_of d) v → IsPointWithin (2 ^ 30) v.point
vertex_near d v near h =
    let die = near.die in
    (within-between _ d.grid.die.xl v.point.x d.grid.die.xh die.0 die.2 h.in_die.left h.in_die.right, within-between _ d.grid.die.yl v.point.y d.grid.die.yh die.1 die.3 h.in_die.low h.in_die.high)

rect_near : (d : Design) (n pin k : ℕ) → IsNear d → AreSidesWithin (2 ^ 30) (rect_of d n pin k)
rect_near d n pin k near = by_rect (slice_get (rects_of d n pin) k) refl
  where
    by_rect : (o : Option Metal) → slice_get (rects_of d n pin) k ≡ o → AreSidesWithin (2 ^ 30) (unwrap_or o no_metal).1
    by_rect None at = (omega arith, omega arith, omega arith, omega arith)
    by_rect (Some m) at = All-at (λ (m : Metal). AreSidesWithin (2 ^ 30) m.1) (rects_of d n pin) k m (near.pins n pin) at

-- ---- entries

run_good : (tech : Tech) (level : ℕ) (a b : Point) → level < length (levels tech) → (a.x ≡ b.x) ⊎ (a.y ≡ b.y) → IsPointWithin (2 ^ 30) a → IsPointWithin (2 ^ 30) b → All (IsGoodStroke tech) (run_between level a b)
run_good tech level a b on straight start end = by_test (distance a b == 0) refl
  where
    by_test : (t : Bool) → (distance a b == 0) ≡ t → All (IsGoodStroke tech) (cond t [] (Run level a b ∷ []))
    by_test true is = All-nil (IsGoodStroke tech)
    by_test false is =
        let apart : distance a b ≢ 0 = λ (none : distance a b ≡ 0). false≢true (sym is ∙ (Decides-eqb (distance a b) 0).1 none) in
        All-cons (IsGoodStroke tech) (Run level a b) [] (record { on_level = on; straight = straight; apart = apart; start = start; end = end }) (All-nil (IsGoodStroke tech))

stub_good : (tech : Tech) (s : Sides) (v : Vertex) → v.level < length (levels tech) → AreSidesWithin (2 ^ 30) s → IsPointWithin (2 ^ 30) v.point → All (IsGoodStroke tech) (stub_strokes s v)
stub_good tech s v on sides at =
    let p : Point = nearest_point s v.point in
    let start : IsPointWithin (2 ^ 30) p = nearest_point_within (2 ^ 30) s v.point sides at in
    let corner : IsPointWithin (2 ^ 30) (corner_of p v) = (at.0, start.1) in
    All-append (IsGoodStroke tech) (run_between v.level p (corner_of p v)) (run_between v.level (corner_of p v) v.point)
    (run_good tech v.level p (corner_of p v) on (inr refl) start corner)
    (run_good tech v.level (corner_of p v) v.point on (inl refl) corner at)

entry_good : (d : Design) (n : ℕ) (e : Entry) → IsDesign d → IsNear d → IsNetEntry d n e → All (IsGoodStroke d.tech) (entry_strokes d n e)
entry_good d n e ok near h = by_kind e.kind
  where
    by_kind : (kind : EntryKind) → All (IsGoodStroke d.tech) (entry_kind_strokes d n kind e.vertex)
    by_kind (AtPin pin) = All-nil (IsGoodStroke d.tech)
    by_kind OnWire = All-nil (IsGoodStroke d.tech)
    by_kind (Stub pin k) = let at : IsVertex (track_system_of d) e.vertex = entry_vertex d n e ok h in stub_good d.tech (rect_of d n pin k) e.vertex at.level (rect_near d n pin k near) (vertex_near d e.vertex near at)

-- ---- paths

via_good : (tech : Tech) (k : ℕ) (v w : Vertex) → v.level < length (levels tech) → w.level < length (levels tech) → IsPointWithin (2 ^ 30) v.point → IsVia tech k v w → IsGoodVia tech k v.point
via_good tech k v w lower upper at h = ⊎_elim
    (λ (up : (w.level ≡ v.level + 1) × Joins tech k v.level). record { low = v.level; joins = up.1; upper_level = subst (λ (l : ℕ). l < length (levels tech)) up.0 upper; point = at })
    (λ (down : (v.level ≡ w.level + 1) × Joins tech k w.level). record { low = w.level; joins = down.1; upper_level = subst (λ (l : ℕ). l < length (levels tech)) down.0 lower; point = at })
    h.levels

-- the strokes of a path are such, wherever its first run began
abbrev PathIsGood : (d : Design) (v : Vertex) (es : List Edge) → Type 0
PathIsGood d v es = (from : Point) → IsPointWithin (2 ^ 30) from → Begins (is_horizontal d.tech v.level) from v.point es → All (IsGoodStroke d.tech) (begun_at from (path_strokes v es))

step_along : (d : Design) (v : Vertex) (e : Edge) (es : List Edge) → IsNear d → IsEdge (track_system_of d) v e → e.kind ≡ Along → IsAlong (track_system_of d) v e.to → PathIsGood d e.to es → PathIsGood d v (e ∷ es)
step_along d v e es near edge kind along later from at begun = by_end (goes_on v.point e.to.point es) refl
  where
    so_far : GoesTo (is_horizontal d.tech v.level) from v.point e.to.point es
    so_far = goes_to (is_horizontal d.tech v.level) from v.point e es kind (in_line (track_system_of d) v e.to along) begun

    by_end : (t : Bool) → goes_on v.point e.to.point es ≡ t → All (IsGoodStroke d.tech) (begun_at from (path_strokes v (e ∷ es)))
    by_end true on =
        let lies : AreInLine (is_horizontal d.tech e.to.level) from e.to.point = subst (λ (l : ℕ). AreInLine (is_horizontal d.tech l) from e.to.point) along.level so_far.in_line in
        rw (strokes-on v e es from kind on) (later from at (inr (lies, so_far.goes_on ∙ on)))
    by_end false off =
        let end_near : IsPointWithin (2 ^ 30) e.to.point = vertex_near d e.to near edge.end in
        let run : IsGoodRun d.tech v.level from e.to.point = record { on_level = edge.start.level; straight = in_line-straight (is_horizontal d.tech v.level) from e.to.point so_far.in_line; apart = in_line-apart (is_horizontal d.tech v.level) from e.to.point so_far.in_line; start = at; end = end_near } in
        rw (strokes-end v e es from kind off) (All-cons (IsGoodStroke d.tech) (Run v.level from e.to.point) (begun_at e.to.point (path_strokes e.to es)) run (later e.to.point end_near (inl refl)))

step_through : (d : Design) (v : Vertex) (e : Edge) (es : List Edge) (k : ℕ) → IsNear d → IsEdge (track_system_of d) v e → e.kind ≡ ByVia k → IsVia d.tech k v e.to → PathIsGood d e.to es → PathIsGood d v (e ∷ es)
step_through d v e es k near edge kind through later from at begun =
    let via : IsGoodVia d.tech k v.point = via_good d.tech k v e.to edge.start.level edge.end.level (vertex_near d v near edge.start) through in
    rw (strokes-via v e es from k kind) (All-cons (IsGoodStroke d.tech) (ViaAt k v.point) (begun_at e.to.point (path_strokes e.to es)) via (later e.to.point (vertex_near d e.to near edge.end) (inl refl)))

path_good : (d : Design) (v : Vertex) (es : List Edge) → IsNear d → IsPath (track_system_of d) v es → PathIsGood d v es
path_good d v [] near path from at begun = All-nil (IsGoodStroke d.tech)
path_good d v (e ∷ es) near path from at begun = by_kind e.kind refl path.0.kind (path_good d e.to es near path.1) from at begun
  where
    by_kind : (kind : EdgeKind) → e.kind ≡ kind → FitsKind (track_system_of d) kind v e.to → PathIsGood d e.to es → PathIsGood d v (e ∷ es)
    by_kind Along kind fits later = step_along d v e es near path.0 kind fits later
    by_kind (ByVia k) kind fits later = step_through d v e es k near path.0 kind fits later

-- each stroke of a net's walk can be written and read again
pub good_strokes : (d : Design) (n : ℕ) (w : Walk) → IsDesign d → IsNear d → IsNetWalk d n w → All (IsGoodStroke d.tech) (walk_strokes d n w)
good_strokes d n w ok near h =
    let at : IsVertex (track_system_of d) w.start.vertex = entry_vertex d n w.start ok h.start in
    let path : All (IsGoodStroke d.tech) (path_strokes w.start.vertex w.edges) = subst (All (IsGoodStroke d.tech)) (strokes-begun w.start.vertex w.edges) (path_good d w.start.vertex w.edges near h.path w.start.vertex.point (vertex_near d w.start.vertex near at) (inl refl)) in
    All-append (IsGoodStroke d.tech) (entry_strokes d n w.start ++ path_strokes w.start.vertex w.edges) (entry_strokes d n w.finish)
    (All-append (IsGoodStroke d.tech) (entry_strokes d n w.start) (path_strokes w.start.vertex w.edges) (entry_good d n w.start ok near h.start) path)
    (entry_good d n w.finish ok near h.finish)

-- and of all its walks
pub net_strokes_good : (d : Design) (n : ℕ) (walks : List Walk) → IsDesign d → IsNear d → All (IsNetWalk d n) walks → All (IsGoodStroke d.tech) (flat_map (walk_strokes d n) walks)
net_strokes_good d n [] ok near all = All-nil (IsGoodStroke d.tech)
net_strokes_good d n (w ∷ walks) ok near all = All-append (IsGoodStroke d.tech) (walk_strokes d n w) (flat_map (walk_strokes d n) walks)
    (good_strokes d n w ok near (All-head (IsNetWalk d n) w walks all))
    (net_strokes_good d n walks ok near (All-tail (IsNetWalk d n) w walks all))

-- The strokes of a net's walk cover what the rectangles of its parts cover.
use Rattle.std.proofs.Common.{Bool, true, false, cond, ◌≡◌, inl, inr, ℕ, ◌==◌, List, [], ◌∷◌, ◌++◌, map, flat_map, append_assoc, All, refl, sym, subst, ap, ◌∙◌}
use Rattle.std.proofs.lemmas.Bool.{false≢true}
use Rattle.std.proofs.lemmas.List.{map-append}
use Rattle.std.proofs.lemmas.List.Concat.{flat_map-append}
use Rattle.std.proofs.lemmas.List.Elements.{All-head, All-tail}
use Rattle.rt_base.specs.declared.geometry.Point.{Point}
use Rattle.rt_base.specs.declared.tech.Shape.{Shape}
use Rattle.rt_base.specs.declared.tech.Tech.{Tech}
use Rattle.rt_base.specs.declared.walk.Edge.{Edge}
use Rattle.rt_base.specs.declared.walk.EdgeKind.{EdgeKind}
use Rattle.rt_base.specs.declared.walk.EdgeKind.TheVariants.{Along, Via as ByVia}
use Rattle.rt_base.specs.declared.walk.Entry.{Entry}
use Rattle.rt_base.specs.declared.walk.EntryKind.{EntryKind}
use Rattle.rt_base.specs.declared.walk.EntryKind.TheVariants.{Pin as AtPin, Stub, Wire as OnWire}
use Rattle.rt_base.specs.declared.walk.Vertex.{Vertex}
use Rattle.rt_base.specs.declared.walk.Walk.{Walk}
use Rattle.rt_base.specs.Geometry.{distance, nearest_point}
use Rattle.track_graph.specs.declared.design.Design.{Design}
use Rattle.track_graph.specs.declared.history.Stroke.TheVariants.{Run}
use Rattle.track_graph.specs.Designs.{IsDesign}
use Rattle.track_graph.specs.Edges.{FitsKind, IsAlong, edge_metal}
use Rattle.track_graph.specs.Entries.{corner_of, rect_of, piece_metal, entry_kind_part, entry_part}
use Rattle.track_graph.specs.Levels.{track_system_of, is_horizontal}
use Rattle.track_graph.specs.Metal.{Metal, wire_metal, via_metal, shapes_of}
use Rattle.track_graph.specs.NetWalks.{IsNetWalk}
use Rattle.track_graph.specs.Strokes.{run_between, entry_kind_strokes, entry_strokes, goes_on, begun_at, path_strokes, walk_strokes}
use Rattle.track_graph.specs.Walks.{IsPath, path_parts, walk_parts, parts_shapes, walk_shapes_of}
use Rattle.track_graph.proofs.PathLemmas.{strokes-on, strokes-end, strokes-via, strokes-begun}
use Rattle.written.specs.Cover.{CoverSame}
use Rattle.written.specs.Wires.{stroke_metal, strokes_metal}
use Rattle.wire_cover.proofs.Covering.{cover_same, cover_between, cover_trans, cover_append, cover_swap}
use Rattle.wire_cover.proofs.Directions.{AreInLine, in_line, AreOneRun, one_run, Begins, GoesTo, goes_to}
use Rattle.wire_cover.proofs.Joining.{wires_joined}

-- the rectangles of a walk's parts
abbrev parts_metal : List (ℕ × List Metal) → List Metal
parts_metal parts = flat_map (λ (part : ℕ × List Metal). part.1) parts

-- ---- entries

piece_is : (tech : Tech) (level : ℕ) (a b : Point) → strokes_metal tech (run_between level a b) ≡ piece_metal tech level a b
piece_is tech level a b = by_test (distance a b == 0)
  where
    by_test : (t : Bool) → strokes_metal tech (cond t [] (Run level a b ∷ [])) ≡ cond t [] (wire_metal tech level a b ∷ [])
    by_test true = refl
    by_test false = refl

entry_is : (d : Design) (n : ℕ) (e : Entry) → strokes_metal d.tech (entry_strokes d n e) ≡ (entry_part d n e).1
entry_is d n e = by_kind e.kind
  where
    by_kind : (kind : EntryKind) → strokes_metal d.tech (entry_kind_strokes d n kind e.vertex) ≡ (entry_kind_part d n kind e.vertex).1
    by_kind (AtPin pin) = refl
    by_kind OnWire = refl
    by_kind (Stub pin k) =
        let p : Point = nearest_point (rect_of d n pin k) e.vertex.point in
        let level : ℕ = e.vertex.level in
        rw (flat_map-append (stroke_metal d.tech) (run_between level p (corner_of p e.vertex)) (run_between level (corner_of p e.vertex) e.vertex.point), piece_is d.tech level p (corner_of p e.vertex), piece_is d.tech level (corner_of p e.vertex) e.vertex.point) refl

-- ---- paths

-- what a run has covered before the first of these edges
abbrev lead : (tech : Tech) (h : Bool) (level : ℕ) (from at : Point) (es : List Edge) → Begins h from at es → List Metal
lead tech h level from at es (inl same) = []
lead tech h level from at es (inr begun) = wire_metal tech level from at ∷ []

-- the run so far with the next step along the track
run_grows : (tech : Tech) (h : Bool) (level : ℕ) (from at : Point) (e : Edge) (es : List Edge) (begun : Begins h from at (e ∷ es)) → e.kind ≡ Along → AreInLine h at e.to.point → CoverSame (wire_metal tech level from e.to.point ∷ []) (lead tech h level from at (e ∷ es) begun ++ wire_metal tech level at e.to.point ∷ [])
run_grows tech h level from at e es (inl same) kind step = cover_same (wire_metal tech level from e.to.point ∷ []) (wire_metal tech level at e.to.point ∷ []) (rw same refl)
run_grows tech h level from at e es (inr begun) kind step =
    let run : AreOneRun h from at e.to.point = one_run h from at e.to.point begun.0 step (rw kind at begun.1) in
    wires_joined tech level from at e.to.point run.between

-- no run is begun before a via
no_lead : (tech : Tech) (h : Bool) (level : ℕ) (from at : Point) (e : Edge) (es : List Edge) (k : ℕ) (begun : Begins h from at (e ∷ es)) → e.kind ≡ ByVia k → lead tech h level from at (e ∷ es) begun ≡ []
no_lead tech h level from at e es k (inl same) kind = refl
no_lead tech h level from at e es k (inr begun) kind = absurd (false≢true (rw kind at begun.1))

-- what the strokes of a path cover, wherever its first run began
abbrev PathCovers : (d : Design) (v : Vertex) (es : List Edge) → Type 0
PathCovers d v es = (from : Point) (begun : Begins (is_horizontal d.tech v.level) from v.point es) → CoverSame (strokes_metal d.tech (begun_at from (path_strokes v es))) (lead d.tech (is_horizontal d.tech v.level) v.level from v.point es begun ++ parts_metal (path_parts d v es))

-- a run that goes on, and one that ends
grows_on : (s l rest : List Metal) (run step : Metal) → CoverSame s (run ∷ rest) → CoverSame (run ∷ []) (l ++ step ∷ []) → CoverSame s (l ++ ((step ∷ []) ++ rest))
grows_on s l rest run step later grown = cover_trans s (run ∷ rest) (l ++ ((step ∷ []) ++ rest)) later
    (cover_between (run ∷ rest) (run ∷ rest) ((l ++ step ∷ []) ++ rest) (l ++ ((step ∷ []) ++ rest)) refl (sym (append_assoc l (step ∷ []) rest))
    (cover_append (run ∷ []) (l ++ step ∷ []) rest rest grown (cover_same rest rest refl)))

ends_here : (s l rest : List Metal) (run step : Metal) → CoverSame s rest → CoverSame (run ∷ []) (l ++ step ∷ []) → CoverSame (run ∷ s) (l ++ ((step ∷ []) ++ rest))
ends_here s l rest run step later grown = cover_between (run ∷ s) (run ∷ s) ((l ++ step ∷ []) ++ rest) (l ++ ((step ∷ []) ++ rest)) refl (sym (append_assoc l (step ∷ []) rest))
    (cover_append (run ∷ []) (l ++ step ∷ []) s rest grown later)

along_metal : (d : Design) (v : Vertex) (e : Edge) → e.kind ≡ Along → edge_metal d v e ≡ wire_metal d.tech v.level v.point e.to.point ∷ []
along_metal d v e kind = rw kind refl

through_metal : (d : Design) (v : Vertex) (e : Edge) (k : ℕ) → e.kind ≡ ByVia k → edge_metal d v e ≡ via_metal d.tech k v.point
through_metal d v e k kind = rw kind refl

step_along : (d : Design) (v : Vertex) (e : Edge) (es : List Edge) → e.kind ≡ Along → IsAlong (track_system_of d) v e.to → PathCovers d e.to es → PathCovers d v (e ∷ es)
step_along d v e es kind along later from begun = by_end (goes_on v.point e.to.point es) refl
  where
    so_far : GoesTo (is_horizontal d.tech v.level) from v.point e.to.point es
    so_far = goes_to (is_horizontal d.tech v.level) from v.point e es kind (in_line (track_system_of d) v e.to along) begun

    lies : AreInLine (is_horizontal d.tech e.to.level) from e.to.point
    lies = subst (λ (l : ℕ). AreInLine (is_horizontal d.tech l) from e.to.point) along.level so_far.in_line

    grown : CoverSame (wire_metal d.tech v.level from e.to.point ∷ []) (lead d.tech (is_horizontal d.tech v.level) v.level from v.point (e ∷ es) begun ++ wire_metal d.tech v.level v.point e.to.point ∷ [])
    grown = run_grows d.tech (is_horizontal d.tech v.level) v.level from v.point e es begun kind (in_line (track_system_of d) v e.to along)

    by_end : (t : Bool) → goes_on v.point e.to.point es ≡ t → CoverSame (strokes_metal d.tech (begun_at from (path_strokes v (e ∷ es)))) (lead d.tech (is_horizontal d.tech v.level) v.level from v.point (e ∷ es) begun ++ (edge_metal d v e ++ parts_metal (path_parts d e.to es)))
    by_end true on =
        let strokes : List Metal = strokes_metal d.tech (begun_at from (path_strokes e.to es)) in
        let before : List Metal = lead d.tech (is_horizontal d.tech v.level) v.level from v.point (e ∷ es) begun in
        let rest : List Metal = parts_metal (path_parts d e.to es) in
        let step : Metal = wire_metal d.tech v.level v.point e.to.point in
        let run : Metal = wire_metal d.tech e.to.level from e.to.point in
        cover_between (strokes_metal d.tech (begun_at from (path_strokes v (e ∷ es)))) strokes (before ++ ((step ∷ []) ++ rest)) (before ++ (edge_metal d v e ++ rest))
        (ap (strokes_metal d.tech) (strokes-on v e es from kind on))
        (ap (λ (ms : List Metal). before ++ (ms ++ rest)) (along_metal d v e kind))
        (grows_on strokes before rest run step (later from (inr (lies, so_far.goes_on ∙ on)))
        (cover_between (run ∷ []) (wire_metal d.tech v.level from e.to.point ∷ []) (before ++ step ∷ []) (before ++ step ∷ []) (ap (λ (l : ℕ). wire_metal d.tech l from e.to.point ∷ []) (sym along.level)) refl grown))
    by_end false off =
        let strokes : List Metal = strokes_metal d.tech (begun_at e.to.point (path_strokes e.to es)) in
        let before : List Metal = lead d.tech (is_horizontal d.tech v.level) v.level from v.point (e ∷ es) begun in
        let rest : List Metal = parts_metal (path_parts d e.to es) in
        let step : Metal = wire_metal d.tech v.level v.point e.to.point in
        let run : Metal = wire_metal d.tech v.level from e.to.point in
        cover_between (strokes_metal d.tech (begun_at from (path_strokes v (e ∷ es)))) (run ∷ strokes) (before ++ ((step ∷ []) ++ rest)) (before ++ (edge_metal d v e ++ rest))
        (ap (strokes_metal d.tech) (strokes-end v e es from kind off))
        (ap (λ (ms : List Metal). before ++ (ms ++ rest)) (along_metal d v e kind))
        (ends_here strokes before rest run step (later e.to.point (inl refl)) grown)

step_through : (d : Design) (v : Vertex) (e : Edge) (es : List Edge) (k : ℕ) → e.kind ≡ ByVia k → PathCovers d e.to es → PathCovers d v (e ∷ es)
step_through d v e es k kind later from begun =
    let strokes : List Metal = strokes_metal d.tech (begun_at e.to.point (path_strokes e.to es)) in
    let before : List Metal = lead d.tech (is_horizontal d.tech v.level) v.level from v.point (e ∷ es) begun in
    let rest : List Metal = parts_metal (path_parts d e.to es) in
    let via : List Metal = via_metal d.tech k v.point in
    cover_between (strokes_metal d.tech (begun_at from (path_strokes v (e ∷ es)))) (via ++ strokes) (via ++ rest) (before ++ (edge_metal d v e ++ rest))
    (ap (strokes_metal d.tech) (strokes-via v e es from k kind))
    (ap (λ (ms : List Metal). ms ++ (edge_metal d v e ++ rest)) (no_lead d.tech (is_horizontal d.tech v.level) v.level from v.point e es k begun kind) ∙ ap (λ (ms : List Metal). ms ++ rest) (through_metal d v e k kind))
    (cover_append via via strokes rest (cover_same via via refl) (later e.to.point (inl refl)))

path_cover : (d : Design) (v : Vertex) (es : List Edge) → IsPath (track_system_of d) v es → PathCovers d v es
path_cover d v [] path from (inl same) = cover_same [] [] refl
path_cover d v [] path from (inr begun) = absurd (false≢true begun.1)
path_cover d v (e ∷ es) path from begun = by_kind e.kind refl path.0.kind (path_cover d e.to es path.1) from begun
  where
    by_kind : (kind : EdgeKind) → e.kind ≡ kind → FitsKind (track_system_of d) kind v e.to → PathCovers d e.to es → PathCovers d v (e ∷ es)
    by_kind Along kind fits later = step_along d v e es kind fits later
    by_kind (ByVia k) kind fits later = step_through d v e es k kind later

-- ---- walks

-- the finish comes before the path in a walk's parts
swapped : (start path finish parts : List Metal) → CoverSame path parts → CoverSame ((start ++ path) ++ finish) (start ++ (finish ++ parts))
swapped start path finish parts h = cover_between ((start ++ path) ++ finish) (start ++ (path ++ finish)) (start ++ (finish ++ parts)) (start ++ (finish ++ parts)) (append_assoc start path finish) refl
    (cover_append start start (path ++ finish) (finish ++ parts) (cover_same start start refl)
    (cover_trans (path ++ finish) (parts ++ finish) (finish ++ parts) (cover_append path parts finish finish h (cover_same finish finish refl)) (cover_swap parts finish)))

-- the strokes of a net's walk cover the same points as the rectangles of its parts
pub strokes_cover : (d : Design) (n : ℕ) (w : Walk) → IsDesign d → IsNetWalk d n w → CoverSame (strokes_metal d.tech (walk_strokes d n w)) (flat_map (λ (part : ℕ × List Metal). part.1) (walk_parts d n w))
strokes_cover d n w ok h =
    let start : List Metal = strokes_metal d.tech (entry_strokes d n w.start) in
    let path : List Metal = strokes_metal d.tech (path_strokes w.start.vertex w.edges) in
    let finish : List Metal = strokes_metal d.tech (entry_strokes d n w.finish) in
    let parts : List Metal = parts_metal (path_parts d w.start.vertex w.edges) in
    let covers : CoverSame path parts = cover_between path (strokes_metal d.tech (begun_at w.start.vertex.point (path_strokes w.start.vertex w.edges))) parts parts (ap (strokes_metal d.tech) (sym (strokes-begun w.start.vertex w.edges))) refl (path_cover d w.start.vertex w.edges h.path w.start.vertex.point (inl refl)) in
    cover_between (strokes_metal d.tech (walk_strokes d n w)) ((start ++ path) ++ finish) (start ++ (finish ++ parts)) (parts_metal (walk_parts d n w))
    (flat_map-append (stroke_metal d.tech) (entry_strokes d n w.start ++ path_strokes w.start.vertex w.edges) (entry_strokes d n w.finish) ∙ ap (λ (ms : List Metal). ms ++ finish) (flat_map-append (stroke_metal d.tech) (entry_strokes d n w.start) (path_strokes w.start.vertex w.edges)))
    (ap (λ (ms : List Metal). ms ++ ((entry_part d n w.finish).1 ++ parts)) (sym (entry_is d n w.start)) ∙ ap (λ (ms : List Metal). start ++ (ms ++ parts)) (sym (entry_is d n w.finish)))
    (swapped start path finish parts covers)

-- ---- nets

-- the rectangle of a shape
abbrev metal_of : Shape → Metal
metal_of s = (s.layer, s.rect)

shapes_back : (n : ℕ) (ms : List Metal) → map metal_of (shapes_of n ms) ≡ ms
shapes_back n [] = refl
shapes_back n (m ∷ ms) = ap (λ (rest : List Metal). m ∷ rest) (shapes_back n ms)

parts_back : (n : ℕ) (parts : List (ℕ × List Metal)) → map metal_of (parts_shapes n parts) ≡ parts_metal parts
parts_back n [] = refl
parts_back n (part ∷ parts) = map-append metal_of (shapes_of n part.1) (parts_shapes n parts) ∙ ap (λ (ms : List Metal). ms ++ map metal_of (parts_shapes n parts)) (shapes_back n part.1) ∙ ap (λ (ms : List Metal). part.1 ++ ms) (parts_back n parts)

-- the strokes of a net's walks cover the same points as the walks' shapes
pub net_cover : (d : Design) (n : ℕ) (walks : List Walk) → IsDesign d → All (IsNetWalk d n) walks → CoverSame (strokes_metal d.tech (flat_map (walk_strokes d n) walks)) (map (λ (s : Shape). (s.layer, s.rect)) (flat_map (walk_shapes_of d n) walks))
net_cover d n [] ok all = cover_same [] [] refl
net_cover d n (w ∷ walks) ok all =
    let first : List Metal = strokes_metal d.tech (walk_strokes d n w) in
    let later : List Metal = strokes_metal d.tech (flat_map (walk_strokes d n) walks) in
    let shapes : List Metal = map metal_of (flat_map (walk_shapes_of d n) walks) in
    cover_between (strokes_metal d.tech (flat_map (walk_strokes d n) (w ∷ walks))) (first ++ later) (parts_metal (walk_parts d n w) ++ shapes) (map metal_of (flat_map (walk_shapes_of d n) (w ∷ walks)))
    (flat_map-append (stroke_metal d.tech) (walk_strokes d n w) (flat_map (walk_strokes d n) walks))
    (map-append metal_of (walk_shapes_of d n w) (flat_map (walk_shapes_of d n) walks) ∙ ap (λ (ms : List Metal). ms ++ shapes) (parts_back n (walk_parts d n w)))
    (cover_append first (parts_metal (walk_parts d n w)) later shapes
    (strokes_cover d n w ok (All-head (IsNetWalk d n) w walks all))
    (net_cover d n walks ok (All-tail (IsNetWalk d n) w walks all)))

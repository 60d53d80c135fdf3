-- The shapes of the edges and entries of a net stand on layers that there are, in range.
use Rattle.std.proofs.Common.{◌≡◌, ⊎_elim, ℕ, ◌+◌, ◌^◌, ◌<◌, ◌≤◌, ◌/◌, ℤ, pos, ◌+ℤ◌, ◌-ℤ◌, unsigned_abs, List, [], ◌∷◌, ◌++◌, Bool, true, false, cond, ◌==◌, length, map, Option, Some, None, option_map, slice_get, unwrap_or, get_or, All, refl, sym, subst, ap, ◌∙◌, filter, not, ◌&&◌, arith}
use Rattle.std.specs.Int.{int_min, int_max}
use Rattle.std.proofs.lemmas.Int.{ints}
use Rattle.std.proofs.lemmas.List.Elements.{All-nil, All-cons, All-head, All-tail, All-append}
use Rattle.std.proofs.lemmas.Option.{slice_get_cases}
use Rattle.std.proofs.lemmas.List.{get_or-map, length-map}
use Rattle.rt_base.proofs.Lists.{All-at}
use Rattle.rt_base.specs.Geometry.{moved, distance, nearest_point}
use Rattle.rt_base.specs.Ranges.{IsWithin, IsPointWithin, AreSidesWithin, IsWidth}
use Rattle.rt_base.specs.declared.geometry.Point.{Point}
use Rattle.rt_base.specs.declared.tech.Layer.{Layer}
use Rattle.rt_base.specs.declared.tech.Owner.{Owner}
use Rattle.rt_base.specs.declared.tech.Owner.TheVariants.{Net as OfNet, Nobody}
use Rattle.rt_base.specs.declared.tech.Shape.{Shape}
use Rattle.rt_base.specs.declared.tech.Tech.{Tech}
use Rattle.rt_base.specs.declared.tech.Via.{Via}
use Rattle.rt_base.specs.declared.walk.Edge.{Edge}
use Rattle.rt_base.specs.declared.walk.EdgeKind.{EdgeKind}
use Rattle.rt_base.specs.declared.walk.EdgeKind.TheVariants.{Along, Via as ByVia}
use Rattle.rt_base.specs.declared.walk.Entry.{Entry}
use Rattle.rt_base.specs.declared.walk.EntryKind.{EntryKind}
use Rattle.rt_base.specs.declared.walk.EntryKind.TheVariants.{Pin as AtPin, Stub, Wire as OnWire}
use Rattle.rt_base.specs.declared.walk.Vertex.{Vertex}
use Rattle.track_graph.specs.declared.design.Design.{Design}
use Rattle.track_graph.specs.Designs.{IsDesign, IsTech, IsViaOf, IsLayerOf}
use Rattle.track_graph.specs.Edges.{IsEdge, IsVia, Joins, FitsKind, edge_cost_of, kind_cost}
use Rattle.track_graph.specs.Searches.{some_conflict}
use Rattle.track_graph.specs.Entries.{entry_part, entry_kind_part, piece_metal, stub_metal, corner_of, rect_of}
use Rattle.track_graph.specs.Levels.{track_system_of, levels, number_of, layer_no, width_of}
use Rattle.track_graph.specs.Metal.{Metal, shape_of, shapes_of, wire_metal, via_rects, via_metal, half_width}
use Rattle.track_graph.specs.NetWalks.{IsNetEntry}
use Rattle.track_graph.proofs.EntryLemmas.{entry_vertex, rect_within, nearest_point_within, stub_rect-exists, stub_distance}
use Rattle.track_graph.proofs.ShapeLemmas.{routing_number-below, vertex_within, distance_within}
use Rattle.plain_route.specs.Fitting.{IsFitting, IsUsableVia, has_dear}
use Rattle.plain_route.specs.Stocks.{stock_reading}
use Rattle.plain_route.specs.Roles.{is_dear, is_dear_net, is_net_with}
use Rattle.plain_route.specs.declared.sense.Sense.{Sense}
use Rattle.plain_route.specs.declared.sense.Sense.TheVariants.{Hard, Soft, Without}

pub layer_below : (tech : Tech) (level : ℕ) → level < length (levels tech) → layer_no tech level < length tech.layers
layer_below tech level within = ⊎_elim
    (λ (x : (l : ℕ × Layer) × (level < length (levels tech)) × (slice_get (levels tech) level ≡ Some l) × (get_or (levels tech) level l ≡ l)).
    let below : x.0.0 < 0 + length tech.layers = routing_number-below 0 tech.layers level x.0.0 x.0.1 x.2 in
    subst (λ (o : Option (ℕ × Layer)). unwrap_or (option_map number_of o) 0 < length tech.layers) (sym x.2) (omega arith))
    (λ (x : (length (levels tech) ≤ level) × (slice_get (levels tech) level ≡ None)). absurd (omega arith))
    (slice_get_cases (levels tech) level).1

-- no level is wide
half_small : (tech : Tech) (level : ℕ) → IsTech tech → unsigned_abs (width_of tech level) ≤ 2 ^ 32
half_small tech level ok = by_case (slice_get (levels tech) level) refl
  where
    by_case : (o : Option (ℕ × Layer)) → slice_get (levels tech) level ≡ o → unsigned_abs (unwrap_or (option_map (λ (l : ℕ × Layer). l.1.width) o) (pos 0)) ≤ 2 ^ 32
    by_case None e = omega arith
    by_case (Some l) e = let h : IsWidth l.1.width = All-at (λ (x : ℕ × Layer). IsWidth x.1.width) (levels tech) level l ok.widths e in let a = h.0 in let b = h.1 in grind (arith, ints)

low_end : (a b h : ℤ) → IsWithin (2 ^ 32) a → IsWithin (2 ^ 32) b → unsigned_abs h ≤ 2 ^ 32 → IsWithin (2 ^ 61) (int_min a b -ℤ h)
low_end a b h p q r = grind (arith, ints)

high_end : (a b h : ℤ) → IsWithin (2 ^ 32) a → IsWithin (2 ^ 32) b → unsigned_abs h ≤ 2 ^ 32 → IsWithin (2 ^ 61) (int_max a b +ℤ h)
high_end a b h p q r = grind (arith, ints)

-- a straight wire
pub wire_fits : (tech : Tech) (n level : ℕ) (p q : Point) → IsTech tech → level < length (levels tech) → IsPointWithin (2 ^ 32) p → IsPointWithin (2 ^ 32) q → IsFitting tech n (shape_of n (wire_metal tech level p q))
wire_fits tech n level p q ok within a b =
    let w : unsigned_abs (width_of tech level) ≤ 2 ^ 32 = half_small tech level ok in
    let h : unsigned_abs (half_width tech level) ≤ 2 ^ 32 = small (unsigned_abs (width_of tech level)) w in
    record {
      layer = layer_below tech level within;
      sides = (low_end p.x q.x (half_width tech level) a.0 b.0 h, low_end p.y q.y (half_width tech level) a.1 b.1 h, high_end p.x q.x (half_width tech level) a.0 b.0 h, high_end p.y q.y (half_width tech level) a.1 b.1 h);
      own = refl;
    }
  where
    small : (k : ℕ) → k ≤ 2 ^ 32 → unsigned_abs (pos (k / 2)) ≤ 2 ^ 32
    small k h = omega arith

-- a rectangle of a via that may be used
record IsViaRect (tech : Tech) (m : Metal) : Type 0 where
  pub layer : IsLayerOf tech m.0
  pub sides : AreSidesWithin (2 ^ 60 + 2 ^ 30) m.1

via_rects_fit : (tech : Tech) (ms : List Metal) → All (λ (m : Metal). IsLayerOf tech m.0) ms → All (λ (m : Metal). AreSidesWithin (2 ^ 60 + 2 ^ 30) m.1) ms → All (IsViaRect tech) ms
via_rects_fit tech ms layers sides = λ i m lt. record { layer = layers i m lt; sides = sides i m lt }

usable_rects : (d : Design) (k : ℕ) → IsDesign d → IsUsableVia d.tech k → All (IsViaRect d.tech) (via_rects d.tech k)
usable_rects d k ok u =
    let is : IsViaOf d.tech u.via = All-at (IsViaOf d.tech) d.tech.vias k u.via ok.tech.vias u.is_via in
    let at : via_rects d.tech k ≡ u.via.rects = ap (λ (o : Option Via). unwrap_or (option_map (λ (v : Via). v.rects) o) []) u.is_via in
    subst (All (IsViaRect d.tech)) (sym at) (via_rects_fit d.tech u.via.rects is.layers (is.usable_sides u.usable))

moved_end : (a b : ℤ) → IsWithin (2 ^ 60 + 2 ^ 30) a → IsWithin (2 ^ 32) b → IsWithin (2 ^ 61) (a +ℤ b)
moved_end a b p q = grind (arith, ints)

moved_fits : (tech : Tech) (n : ℕ) (p : Point) (m : Metal) → IsPointWithin (2 ^ 32) p → IsViaRect tech m → IsFitting tech n (shape_of n (m.0, moved p m.1))
moved_fits tech n p m a h = record {
  layer = h.layer;
  sides = (moved_end m.1.xl p.x h.sides.0 a.0, moved_end m.1.yl p.y h.sides.1 a.1, moved_end m.1.xh p.x h.sides.2 a.0, moved_end m.1.yh p.y h.sides.3 a.1);
  own = refl;
}

-- the rectangles of a via at a point
pub via_fits : (d : Design) (n k : ℕ) (p : Point) → IsDesign d → IsUsableVia d.tech k → IsPointWithin (2 ^ 32) p → All (IsFitting d.tech n) (shapes_of n (via_metal d.tech k p))
via_fits d n k p ok u a = by_rects (via_rects d.tech k) (usable_rects d k ok u)
  where
    by_rects : (ms : List Metal) → All (IsViaRect d.tech) ms → All (IsFitting d.tech n) (shapes_of n (map (λ (r : Metal). (r.0, moved p r.1)) ms))
    by_rects [] h = All-nil (IsFitting d.tech n)
    by_rects (m ∷ ms) h = All-cons (IsFitting d.tech n) (shape_of n (m.0, moved p m.1)) (shapes_of n (map (λ (r : Metal). (r.0, moved p r.1)) ms)) (moved_fits d.tech n p m a (All-head (IsViaRect d.tech) m ms h)) (by_rects ms (All-tail (IsViaRect d.tech) m ms h))

-- one of them
pub via_rect_fits : (d : Design) (n k : ℕ) (p : Point) (i : ℕ) (m : Metal) → IsDesign d → IsUsableVia d.tech k → IsPointWithin (2 ^ 32) p → i < length (via_rects d.tech k) → m ≡ get_or (via_rects d.tech k) i m → IsFitting d.tech n (shape_of n (m.0, moved p m.1))
via_rect_fits d n k p i m ok u a lt is = moved_fits d.tech n p m a (subst (IsViaRect d.tech) (sym is) (usable_rects d k ok u i m lt))

pub via_shape_at : (tech : Tech) (n k : ℕ) (p : Point) (i : ℕ) (m : Metal) (s : Shape) → i < length (via_rects tech k) → m ≡ get_or (via_rects tech k) i m → get_or (shapes_of n (via_metal tech k p)) i s ≡ shape_of n (m.0, moved p m.1)
via_shape_at tech n k p i m s lt is =
    let f : Metal → Metal = λ r. (r.0, moved p r.1) in
    get_or-map (shape_of n) (map f (via_rects tech k)) i (f m) s (omega (arith, lt, length-map (via_rects tech k) f))
    ∙ ap (shape_of n) (get_or-map f (via_rects tech k) i m (f m) lt ∙ ap f (sym is))

pub via_shape_count : (tech : Tech) (n k : ℕ) (p : Point) → length (shapes_of n (via_metal tech k p)) ≡ length (via_rects tech k)
via_shape_count tech n k p = length-map (via_metal tech k p) (shape_of n) ∙ length-map (via_rects tech k) (λ (r : Metal). (r.0, moved p r.1))

-- a rectangle of it by itself may be moved
pub via_rect_within : (d : Design) (k i : ℕ) (m : Metal) → IsDesign d → IsUsableVia d.tech k → i < length (via_rects d.tech k) → m ≡ get_or (via_rects d.tech k) i m → AreSidesWithin (2 ^ 61) m.1
via_rect_within d k i m ok u lt is =
    let h : IsViaRect d.tech m = subst (IsViaRect d.tech) (sym is) (usable_rects d k ok u i m lt) in
    (more m.1.xl h.sides.0, more m.1.yl h.sides.1, more m.1.xh h.sides.2, more m.1.yh h.sides.3)
  where
    more : (a : ℤ) → IsWithin (2 ^ 60 + 2 ^ 30) a → IsWithin (2 ^ 61) a
    more a p = omega (arith, p)

-- the via of an edge may be used
pub edge_via : (d : Design) (v : Vertex) (e : Edge) (k : ℕ) → IsEdge (track_system_of d) v e → e.kind ≡ ByVia k → IsUsableVia d.tech k
edge_via d v e k is same =
    let fits : IsVia d.tech k v e.to = subst (λ (x : EdgeKind). FitsKind (track_system_of d) x v e.to) same is.kind in
    ⊎_elim
    (λ (up : (e.to.level ≡ v.level + 1) × Joins d.tech k v.level). record { via = up.1.via; is_via = up.1.is_via; usable = up.1.usable })
    (λ (down : (v.level ≡ e.to.level + 1) × Joins d.tech k e.to.level). record { via = down.1.via; is_via = down.1.is_via; usable = down.1.usable })
    fits.levels

piece_fits : (tech : Tech) (n level : ℕ) (p q : Point) → IsTech tech → level < length (levels tech) → IsPointWithin (2 ^ 32) p → IsPointWithin (2 ^ 32) q → All (IsFitting tech n) (shapes_of n (piece_metal tech level p q))
piece_fits tech n level p q ok within a b = by_test (distance p q == 0)
  where
    by_test : (t : Bool) → All (IsFitting tech n) (shapes_of n (cond t [] (wire_metal tech level p q ∷ [])))
    by_test true = All-nil (IsFitting tech n)
    by_test false = All-cons (IsFitting tech n) (shape_of n (wire_metal tech level p q)) [] (wire_fits tech n level p q ok within a b) (All-nil (IsFitting tech n))

shapes_of-append : (n : ℕ) (xs ys : List Metal) → shapes_of n (xs ++ ys) ≡ shapes_of n xs ++ shapes_of n ys
shapes_of-append n [] ys = refl
shapes_of-append n (x ∷ xs) ys = ap (λ (r : List Shape). shape_of n x ∷ r) (shapes_of-append n xs ys)

stub_fits : (tech : Tech) (n : ℕ) (p : Point) (v : Vertex) → IsTech tech → v.level < length (levels tech) → IsPointWithin (2 ^ 32) p → IsPointWithin (2 ^ 32) v.point → All (IsFitting tech n) (shapes_of n (stub_metal tech p v))
stub_fits tech n p v ok within a b =
    let turn : IsPointWithin (2 ^ 32) (corner_of p v) = (b.0, a.1) in
    let first = piece_fits tech n v.level p (corner_of p v) ok within a turn in
    let second = piece_fits tech n v.level (corner_of p v) v.point ok within turn b in
    subst (All (IsFitting tech n)) (sym (shapes_of-append n (piece_metal tech v.level p (corner_of p v)) (piece_metal tech v.level (corner_of p v) v.point)))
    (All-append (IsFitting tech n) (shapes_of n (piece_metal tech v.level p (corner_of p v))) (shapes_of n (piece_metal tech v.level (corner_of p v) v.point)) first second)

-- the pieces of an entry's stub
pub entry_fits : (d : Design) (n : ℕ) (e : Entry) → IsDesign d → IsNetEntry d n e → All (IsFitting d.tech n) (shapes_of n (entry_part d n e).1)
entry_fits d n e ok h = by_kind e.kind refl
  where
    by_kind : (k : EntryKind) → e.kind ≡ k → All (IsFitting d.tech n) (shapes_of n (entry_kind_part d n k e.vertex).1)
    by_kind (AtPin pin) same = All-nil (IsFitting d.tech n)
    by_kind (Stub pin k) same =
        let is = entry_vertex d n e ok h in
        let at : IsPointWithin (2 ^ 32) e.vertex.point = vertex_within d e.vertex ok is in
        let rect : AreSidesWithin (2 ^ 32) (rect_of d n pin k) = rect_within d n pin k ok (stub_rect-exists d n e pin k ok h same) in
        stub_fits d.tech n (nearest_point (rect_of d n pin k) e.vertex.point) e.vertex ok.tech is.level (nearest_point_within (2 ^ 32) (rect_of d n pin k) e.vertex.point rect at) at
    by_kind OnWire same = All-nil (IsFitting d.tech n)

-- no edge and no entry costs much by itself
pub edge_small : (d : Design) (v : Vertex) (e : Edge) → IsDesign d → IsEdge (track_system_of d) v e → edge_cost_of d v e < 2 ^ 60
edge_small d v e ok is = by_kind e.kind
  where
    by_kind : (k : EdgeKind) → kind_cost d k v e.to < 2 ^ 60
    by_kind Along = omega (arith, distance_within v.point e.to.point (vertex_within d v ok is.start) (vertex_within d e.to ok is.end))
    by_kind (ByVia k) = omega (arith, ok.options.via)

pub entry_small : (d : Design) (n : ℕ) (e : Entry) → IsDesign d → IsNetEntry d n e → (entry_part d n e).0 < 2 ^ 60
entry_small d n e ok h = by_kind e.kind refl
  where
    by_kind : (k : EntryKind) → e.kind ≡ k → (entry_kind_part d n k e.vertex).0 < 2 ^ 60
    by_kind (AtPin pin) same = omega arith
    by_kind (Stub pin k) same = omega (arith, stub_distance d n e pin k ok h same)
    by_kind OnWire same = omega arith

no_conflict : (tech : Tech) (mine : List Shape) → some_conflict tech mine [] ≡ false
no_conflict tech [] = refl
no_conflict tech (a ∷ mine) = no_conflict tech mine

none_pass : (test : Shape → Bool) (shapes : List Shape) → ((b : Shape) → test b ≡ false) → filter test shapes ≡ []
none_pass test [] h = refl
none_pass test (b ∷ shapes) h = ap (λ (t : Bool). cond t (b ∷ filter test shapes) (filter test shapes)) (h b) ∙ none_pass test shapes h

-- only the soft reading has dear shapes
pub none_dear : (d : Design) (rips : ℕ → ℕ) (n : ℕ) (sense : Sense) (shapes mine : List Shape) → has_dear sense ≡ false → some_conflict d.tech mine (stock_reading d rips n sense shapes).dear ≡ false
none_dear d rips n sense shapes mine h =
    ap (λ (others : List Shape). some_conflict d.tech mine others) (none_pass (is_dear d rips n sense) shapes (λ b. never sense h b.fixed b.owner)) ∙ no_conflict d.tech mine
  where
    never : (sense : Sense) → has_dear sense ≡ false → (fixed : Bool) (o : Owner) → (not fixed && is_net_with (is_dear_net d rips n sense) o) ≡ false
    never Soft h fixed o = cc
    never Hard h true o = refl
    never Hard h false (OfNet m) = refl
    never Hard h false Nobody = refl
    never (Without absent) h true o = refl
    never (Without absent) h false (OfNet m) = refl
    never (Without absent) h false Nobody = refl

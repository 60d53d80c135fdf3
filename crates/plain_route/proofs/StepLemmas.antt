-- The edges that lead on from a vertex are among its steps.
use Rattle.std.proofs.Common.{◌≡◌, ⊎_elim, ℕ, ◌+◌, ◌<◌, ℤ, ◌<ℤ◌, ◌≤ℤ◌, List, [], ◌∷◌, ◌++◌, Bool, length, map, Option, Some, slice_get, Contains, IsTrue, refl, sym, subst, ap, ◌∙◌, arith, cond, true, false}
use Rattle.std.specs.Int.{int_min, int_max}
use Rattle.std.specs.Option.{option_to_list}
use Rattle.std.proofs.lemmas.Bool.{cases_eq}
use Rattle.std.proofs.lemmas.Int.{ints, clamps, by_lt_z}
use Rattle.std.proofs.lemmas.List.Elements.{Contains-append_left, Contains-append_right, Contains-push}
use Rattle.std.proofs.lemmas.Option.{slice_get_within, same_Some}
use Rattle.rt_base.specs.declared.geometry.Point.{Point}
use Rattle.rt_base.specs.declared.tech.Tech.{Tech}
use Rattle.rt_base.specs.declared.tech.Via.{Via}
use Rattle.rt_base.specs.declared.walk.Edge.{Edge}
use Rattle.rt_base.specs.declared.walk.EdgeKind.{EdgeKind}
use Rattle.rt_base.specs.declared.walk.EdgeKind.TheVariants.{Along, Via as ByVia}
use Rattle.rt_base.specs.declared.walk.Vertex.{Vertex}
use Rattle.track_graph.specs.declared.design.Design.{Design}
use Rattle.track_graph.specs.Designs.{IsDesign}
use Rattle.track_graph.specs.Edges.{AreNeighbours, IsAlong, IsVia, Joins, FitsKind, IsEdge}
use Rattle.track_graph.specs.Levels.{track_system_of, IsVertex, along, line_of, layer_no, positions_of, NoneBetween, vertex_at, is_horizontal}
use Rattle.plain_route.specs.Steps.{along_edge, by_via, Keeps, AreNear, StandsOn, HasNeighbours, HasAbove, HasBelow, HasVia, HasVias}
use Rattle.plain_route.specs.declared.steps.NearLayers.{NearLayers}

-- a vertex is the one at its own line and position
pub vertex_at_place : (tech : Tech) (v : Vertex) → vertex_at tech v.level (line_of tech v.level v.point) (along tech v.level v.point) ≡ v
vertex_at_place tech v = by_direction (is_horizontal tech v.level)
  where
    by_direction : (b : Bool) → (let it : Vertex = record { level = v.level; point = cond b (record { x = cond b v.point.x v.point.y; y = cond b v.point.y v.point.x }) (record { x = cond b v.point.y v.point.x; y = cond b v.point.x v.point.y }) } in it) ≡ v
    by_direction true = refl
    by_direction false = refl

vertex_is : (tech : Tech) (v : Vertex) (level : ℕ) (line position : ℤ) → v.level ≡ level → line_of tech v.level v.point ≡ line → along tech v.level v.point ≡ position → vertex_at tech level line position ≡ v
vertex_is tech v level line position a b c = rw (sym a, sym b, sym c) (vertex_at_place tech v)

pub keeps_push : (old : List Edge) (e : Edge) (new : List Edge) → new ≡ old ++ e ∷ [] → Keeps old new
keeps_push old e new is f h = subst (λ es. Contains es f) (sym is) (Contains-append_left old (e ∷ []) f h)

pub has_push : (old : List Edge) (e : Edge) (new : List Edge) → new ≡ old ++ e ∷ [] → Contains new e
has_push old e new is = subst (λ es. Contains es e) (sym is) (Contains-push old e)

pub above-push : (v : Vertex) (k : ℕ) (via : Via) (layer : ℕ) (old new : List Edge) → new ≡ old ++ by_via v k (v.level + 1) ∷ [] → HasAbove v k via layer old new
above-push v k via layer old new is = record { keeps = keeps_push old (by_via v k (v.level + 1)) new is; has = λ lt on. has_push old (by_via v k (v.level + 1)) new is }

pub below-push : (v : Vertex) (k : ℕ) (via : Via) (layer low : ℕ) (old new : List Edge) → low + 1 ≡ v.level → new ≡ old ++ by_via v k low ∷ [] → HasBelow v k via layer old new
below-push v k via layer low old new one is = record {
  keeps = keeps_push old (by_via v k low) new is;
  has = λ level e on. let same : low ≡ level = omega arith in subst (λ (n : ℕ). Contains new (by_via v k n)) same (has_push old (by_via v k low) new is);
}

pub via-both : (v : Vertex) (k : ℕ) (via : Via) (layers : NearLayers) (old mid new : List Edge) → HasAbove v k via layers.above old mid → HasBelow v k via layers.below mid new → HasVia v k via layers old new
via-both v k via layers old mid new a b = record {
  keeps = λ e h. b.keeps e (a.keeps e h);
  above = λ u here lt on. b.keeps (by_via v k (v.level + 1)) (a.has lt on);
  below = λ level u here e on. b.has level e on;
}

pub vias-none : (tech : Tech) (v : Vertex) (old : List Edge) → HasVias tech v 0 old old
vias-none tech v old = record { keeps = λ e h. h; above = λ k lt l j. absurd (omega arith); below = λ k level lt e j. absurd (omega arith) }

module _ (tech : Tech) (v : Vertex) (past : ℕ) (via : Via) (layers : NearLayers) (is : slice_get tech.vias past ≡ Some via) (near : AreNear tech v.level layers) where
  via_is : (k level : ℕ) → k ≡ past → (joins : Joins tech k level) → joins.via ≡ via
  via_is k level e joins = same_Some joins.via via (sym joins.is_via ∙ ap (slice_get tech.vias) e ∙ is)

  usable_here : (k level : ℕ) → k ≡ past → Joins tech k level → IsTrue via.usable
  usable_here k level e joins = subst (λ (x : Via). IsTrue x.usable) (via_is k level e joins) joins.usable

  on_lower : (k level layer : ℕ) → k ≡ past → layer ≡ layer_no tech level → Joins tech k level → StandsOn via layer
  on_lower k level layer e l joins = subst (λ (n : ℕ). StandsOn via n) (sym l) (subst (λ (x : Via). StandsOn x (layer_no tech level)) (via_is k level e joins) joins.levels.lower)

  on_upper : (k level layer : ℕ) → k ≡ past → layer ≡ layer_no tech (level + 1) → Joins tech k level → StandsOn via layer
  on_upper k level layer e l joins = subst (λ (n : ℕ). StandsOn via n) (sym l) (subst (λ (x : Via). StandsOn x (layer_no tech (level + 1))) (via_is k level e joins) joins.levels.upper)

  pub vias-more : (old mid new : List Edge) → HasVias tech v past old mid → HasVia v past via layers mid new → HasVias tech v (past + 1) old new
  vias-more old mid new h f = record {
    keeps = λ e c. f.keeps e (h.keeps e c);
    above = λ k lt l joins. ⊎_elim
        (λ (e : k ≡ past). subst (λ (n : ℕ). Contains new (by_via v n (v.level + 1))) (sym e) (f.above (usable_here k v.level e joins) (on_lower k v.level layers.here e near.here joins) l (on_upper k v.level layers.above e (near.above l) joins)))
        (λ (other : k ≡ past → ⊥). f.keeps (by_via v k (v.level + 1)) (h.above k (omega arith) l joins))
        (cases_eq k past);
    below = λ k level lt s joins. ⊎_elim
        (λ (e : k ≡ past).
        let here : layers.here ≡ layer_no tech (level + 1) = near.here ∙ ap (λ (n : ℕ). layer_no tech n) s in
        subst (λ (n : ℕ). Contains new (by_via v n level)) (sym e) (f.below level (usable_here k level e joins) (on_upper k level layers.here e here joins) s (on_lower k level layers.below e (near.below level s) joins)))
        (λ (other : k ≡ past → ⊥). f.keeps (by_via v k level) (h.below k level (omega arith) s joins))
        (cases_eq k past);
  }

-- both neighbours of a vertex among positions
pub neighbours-both : (tech : Tech) (v : Vertex) (positions : List ℤ) (up down : Option ℤ) (old mid new : List Edge) →
    mid ≡ old ++ map (along_edge tech v) (option_to_list up) →
    new ≡ mid ++ map (along_edge tech v) (option_to_list down) →
    ((z : ℤ) → Contains positions z → along tech v.level v.point <ℤ z → NoneBetween positions (along tech v.level v.point) z → up ≡ Some z) →
    ((z : ℤ) → Contains positions z → z <ℤ along tech v.level v.point → NoneBetween positions z (along tech v.level v.point) → down ≡ Some z) →
    HasNeighbours tech v positions old new
neighbours-both tech v positions up down old mid new first second above below = record {
  keeps = λ e h. after e (subst (λ es. Contains es e) (sym first) (Contains-append_left old (map (along_edge tech v) (option_to_list up)) e h));
  has = λ z c near. by_side z c near;
}
  where
    after : (e : Edge) → Contains mid e → Contains new e
    after e h = subst (λ es. Contains es e) (sym second) (Contains-append_left mid (map (along_edge tech v) (option_to_list down)) e h)

    only : (z : ℤ) → Contains (map (along_edge tech v) (option_to_list (Some z))) (along_edge tech v z)
    only z = (0, omega arith, refl)

    by_side : (z : ℤ) → Contains positions z → AreNeighbours positions (along tech v.level v.point) z → Contains new (along_edge tech v z)
    by_side z c near = by_lt_z (along tech v.level v.point) z
        (λ lt.
        let lo : int_min (along tech v.level v.point) z ≡ along tech v.level v.point = omega (arith, ints, clamps) in
        let hi : int_max (along tech v.level v.point) z ≡ z = omega (arith, ints, clamps) in
        let none : NoneBetween positions (along tech v.level v.point) z = subst (λ (b : ℤ). NoneBetween positions (along tech v.level v.point) b) hi (subst (λ (a : ℤ). NoneBetween positions a (int_max (along tech v.level v.point) z)) lo near.1) in
        after (along_edge tech v z) (subst (λ es. Contains es (along_edge tech v z)) (sym first) (Contains-append_right old (map (along_edge tech v) (option_to_list up)) (along_edge tech v z)
        (subst (λ (o : Option ℤ). Contains (map (along_edge tech v) (option_to_list o)) (along_edge tech v z)) (sym (above z c lt none)) (only z)))))
        (λ le. by_lt_z z (along tech v.level v.point)
        (λ lt.
        let lo : int_min (along tech v.level v.point) z ≡ z = omega (arith, ints, clamps) in
        let hi : int_max (along tech v.level v.point) z ≡ along tech v.level v.point = omega (arith, ints, clamps) in
        let none : NoneBetween positions z (along tech v.level v.point) = subst (λ (b : ℤ). NoneBetween positions z b) hi (subst (λ (a : ℤ). NoneBetween positions a (int_max (along tech v.level v.point) z)) lo near.1) in
        subst (λ es. Contains es (along_edge tech v z)) (sym second) (Contains-append_right mid (map (along_edge tech v) (option_to_list down)) (along_edge tech v z)
        (subst (λ (o : Option ℤ). Contains (map (along_edge tech v) (option_to_list o)) (along_edge tech v z)) (sym (below z c lt none)) (only z))))
        (λ ge. absurd (near.0 (same (along tech v.level v.point) z le ge))))
      where
        same : (a b : ℤ) → b ≤ℤ a → a ≤ℤ b → a ≡ b
        same a b h k = omega (arith, ints)

-- the edge of a kind to a vertex
abbrev edge_to : EdgeKind → Vertex → Edge
edge_to kind w = record { kind = kind; to = w }

along_covered : (d : Design) (v w : Vertex) (e0 e1 e2 : List Edge) → IsVertex (track_system_of d) w → IsAlong (track_system_of d) v w → HasNeighbours d.tech v (positions_of d.tracks v.level) e0 e1 → Keeps e1 e2 → Contains e2 (edge_to Along w)
along_covered d v w e0 e1 e2 is_vertex is near keeps =
    let level : w.level ≡ v.level = sym is.level in
    let line : line_of d.tech w.level w.point ≡ line_of d.tech v.level v.point = ap (λ (k : ℕ). line_of d.tech k w.point) level ∙ sym is.line in
    let at : along d.tech w.level w.point ≡ along d.tech v.level w.point = ap (λ (k : ℕ). along d.tech k w.point) level in
    let same : vertex_at d.tech v.level (line_of d.tech v.level v.point) (along d.tech v.level w.point) ≡ w = vertex_is d.tech w v.level (line_of d.tech v.level v.point) (along d.tech v.level w.point) level line at in
    let positions : Contains (positions_of d.tracks v.level) (along d.tech v.level w.point) = subst (λ (k : ℕ). Contains (positions_of d.tracks k) (along d.tech k w.point)) level is_vertex.at_position in
    subst (λ (u : Vertex). Contains e2 (edge_to Along u)) same (keeps (along_edge d.tech v (along d.tech v.level w.point)) (near.has (along d.tech v.level w.point) positions is.neighbours))

via_covered : (d : Design) (v w : Vertex) (k : ℕ) (e2 e3 : List Edge) → v.level < 255 → IsVia d.tech k v w → HasVias d.tech v (length d.tech.vias) e2 e3 → Contains e3 (edge_to (ByVia k) w)
via_covered d v w k e2 e3 small is vias = ⊎_elim
    (λ (up : (w.level ≡ v.level + 1) × Joins d.tech k v.level).
    subst (λ (u : Vertex). Contains e3 (edge_to (ByVia k) u)) (at_level (v.level + 1) up.0) (vias.above k (slice_get_within d.tech.vias k up.1.via up.1.is_via) small up.1))
    (λ (down : (v.level ≡ w.level + 1) × Joins d.tech k w.level).
    subst (λ (u : Vertex). Contains e3 (edge_to (ByVia k) u)) (at_level w.level refl) (vias.below k w.level (slice_get_within d.tech.vias k down.1.via down.1.is_via) down.0 down.1))
    is.levels
  where
    placed : ℕ → Point → Vertex
    placed level p = record { level = level; point = p }

    at_level : (level : ℕ) → w.level ≡ level → (let u : Vertex = record { level = level; point = v.point } in u) ≡ w
    at_level level e = let P : (n : ℕ) → (p : Point) → Vertex = λ n p. record { level = n; point = p } in ap (λ (n : ℕ). P n v.point) (sym e) ∙ ap (λ (p : Point). P w.level p) is.point

-- each edge from a vertex is among its steps
pub steps_cover : (d : Design) (v : Vertex) (e0 e1 e2 : List Edge) → IsDesign d → HasNeighbours d.tech v (positions_of d.tracks v.level) e0 e1 → HasVias d.tech v (length d.tech.vias) e1 e2 → (e : Edge) → IsEdge (track_system_of d) v e → Contains e2 e
steps_cover d v e0 e1 e2 ok near vias e is = by_kind e.kind is.kind
  where
    by_kind : (kind : EdgeKind) → FitsKind (track_system_of d) kind v e.to → Contains e2 (edge_to kind e.to)
    by_kind Along fits = along_covered d v e.to e0 e1 e2 is.end fits near vias.keeps
    by_kind (ByVia k) fits = via_covered d v e.to k e1 e2 (omega (arith, is.start.level, ok.tech.level_count)) fits vias

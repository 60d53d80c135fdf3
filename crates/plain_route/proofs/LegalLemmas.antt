-- Routes between the stops of a net are its legal walks, at their costs.
use Rattle.std.proofs.Common.{◌≡◌, ⊎_elim, inl, inr, ℕ, ◌+◌, ◌*◌, ◌≤◌, List, [], ◌∷◌, Bool, true, false, cond, ◌||◌, sum_by, Contains, refl, sym, subst, ap, ◌∙◌, arith}
use Rattle.std.proofs.lemmas.List.Folds.{list_any-append}
use Rattle.std.proofs.lemmas.List.Sums.{sum_by-cons}
use Rattle.std.specs.List.{list_any}
use Rattle.rt_base.proofs.Lists.{none_in}
use Rattle.rt_base.specs.Conflict.{conflict_of}
use Rattle.rt_base.specs.declared.tech.Shape.{Shape}
use Rattle.rt_base.specs.declared.walk.Edge.{Edge}
use Rattle.rt_base.specs.declared.walk.EdgeKind.{EdgeKind}
use Rattle.rt_base.specs.declared.walk.EdgeKind.TheVariants.{Along, Via as ByVia}
use Rattle.rt_base.specs.declared.walk.Entry.{Entry}
use Rattle.rt_base.specs.declared.walk.Vertex.{Vertex}
use Rattle.rt_base.specs.declared.walk.Walk.{Walk}
use Rattle.future_cost.specs.declared.bound.Bound.{Bound}
use Rattle.plain_route.specs.Guided.{to_hull, to_stops, IsFairBound}
use Rattle.plain_route.proofs.BackLemmas.{step_back}
use Rattle.plain_route.proofs.TurnLemmas.{along_falls, via_falls}
use Rattle.least_walk.specs.declared.graph.Stop.{Stop}
use Rattle.least_walk.specs.Routes as route
use Rattle.track_graph.specs.declared.design.Design.{Design}
use Rattle.track_graph.specs.declared.history.NetState.{NetState}
use Rattle.track_graph.specs.Designs.{IsDesign}
use Rattle.track_graph.specs.Edges.{FitsKind, edge_metal, edge_cost_of, kind_cost}
use Rattle.track_graph.specs.Entries.{entry_part}
use Rattle.track_graph.specs.Levels.{track_system_of}
use Rattle.track_graph.specs.Metal.{Metal, shapes_of}
use Rattle.track_graph.specs.Searches.{Reading, some_conflict, IsStart, IsFinish, IsLegal, IsLeast, NoneLegal, part_cost, walk_cost, guide_of}
use Rattle.track_graph.specs.Walks.{IsPath, PathInGuide, path_parts, parts_shapes, end_of}
use Rattle.track_graph.proofs.EntryLemmas.{entry_vertex}
use Rattle.plain_route.specs.Ground.{IsStep, IsStopAt}
use Rattle.plain_route.specs.Stops.{AreEntries, AreStops, AreNetEntries}
use Rattle.plain_route.specs.Vertices.{vertices_of}
use Rattle.plain_route.proofs.VertexLemmas.{vertex_listed}
use Rattle.plain_route.proofs.BoundLemmas.{stops_fall}

or_false : (a b : Bool) → (a || b) ≡ false → (a ≡ false) × (b ≡ false)
or_false true b h = cc
or_false false b h = (refl, h)

false_or : (a b : Bool) → a ≡ false → b ≡ false → (a || b) ≡ false
false_or a b h k = rw h k

ends_same : (v : Vertex) (es : List Edge) → route.end_of v es ≡ end_of v es
ends_same v [] = refl
ends_same v (e ∷ es) = ends_same e.to es

-- a part costs at least what it costs by itself
pub at_least : (d : Design) (n : ℕ) (r : Reading) (part : ℕ × List Metal) → part.0 ≤ part_cost d n r part
at_least d n r part = by_test (some_conflict d.tech (shapes_of n part.1) r.dear)
  where
    by_test : (b : Bool) → part.0 ≤ cond b (8 * part.0) part.0
    by_test true = omega arith
    by_test false = omega arith

module _ (d : Design) (n : ℕ) (r : Reading) where
  abbrev Hits : List Metal → Bool
  Hits ms = some_conflict d.tech (shapes_of n ms) r.forbidding

  abbrev PartsClear : List (ℕ × List Metal) → Type 0
  PartsClear parts = some_conflict d.tech (parts_shapes n parts) r.forbidding ≡ false

  split : (p : ℕ × List Metal) (ps : List (ℕ × List Metal)) → PartsClear (p ∷ ps) → (Hits p.1 ≡ false) × PartsClear ps
  split p ps h = or_false _ _ (sym (list_any-append (λ (a : Shape). list_any (conflict_of d.tech a) r.forbidding) (shapes_of n p.1) (parts_shapes n ps)) ∙ h)

  join : (p : ℕ × List Metal) (ps : List (ℕ × List Metal)) → Hits p.1 ≡ false → PartsClear ps → PartsClear (p ∷ ps)
  join p ps a b = list_any-append (λ (a : Shape). list_any (conflict_of d.tech a) r.forbidding) (shapes_of n p.1) (parts_shapes n ps) ∙ false_or _ _ a b

  abbrev sum_of : List (ℕ × List Metal) → ℕ
  sum_of parts = sum_by (part_cost d n r) parts

  route_path : (v : Vertex) (es : List Edge) → IsPath (track_system_of d) v es → PathInGuide (guide_of d n) v es → PartsClear (path_parts d v es) → route.IsPath (IsStep d n r) v es (sum_of (path_parts d v es))
  route_path v [] p i c = refl
  route_path v (e ∷ es) p i c =
      let part : ℕ × List Metal = (edge_cost_of d v e, edge_metal d v e) in
      let both = split part (path_parts d e.to es) c in
      (part_cost d n r part, sum_of (path_parts d e.to es), record { legal = record { edge = p.0; inside = i.0; clear = both.0 }; sum = refl }, route_path e.to es p.1 i.1 both.1, sum_by-cons (part_cost d n r) part (path_parts d e.to es))

  record IsClearPath (v : Vertex) (es : List Edge) (cost : ℕ) : Type 0 where
    pub path : IsPath (track_system_of d) v es
    pub inside : PathInGuide (guide_of d n) v es
    pub clear : PartsClear (path_parts d v es)
    pub sum : cost ≡ sum_of (path_parts d v es)

  clear_path : (v : Vertex) (es : List Edge) (cost : ℕ) → route.IsPath (IsStep d n r) v es cost → IsClearPath v es cost
  clear_path v [] cost h = record { path = tt; inside = tt; clear = refl; sum = h }
  clear_path v (e ∷ es) cost h =
      let part : ℕ × List Metal = (edge_cost_of d v e, edge_metal d v e) in
      let step : IsStep d n r v e h.0 = h.2 in
      let rest : IsClearPath e.to es h.1 = clear_path e.to es h.1 h.3 in
      record {
        path = (step.legal.edge, rest.path);
        inside = (step.legal.inside, rest.inside);
        clear = join part (path_parts d e.to es) step.legal.clear rest.clear;
        sum = h.4 ∙ omega (arith, step.sum, rest.sum, sum_by-cons (part_cost d n r) part (path_parts d e.to es));
      }

  walk_sum : (w : Walk) → walk_cost d n r w ≡ part_cost d n r (entry_part d n w.start) + (part_cost d n r (entry_part d n w.finish) + sum_of (path_parts d w.start.vertex w.edges))
  walk_sum w =
      let a = sum_by-cons (part_cost d n r) (entry_part d n w.start) (entry_part d n w.finish ∷ path_parts d w.start.vertex w.edges) in
      let b = sum_by-cons (part_cost d n r) (entry_part d n w.finish) (path_parts d w.start.vertex w.edges) in
      a ∙ ap (λ (k : ℕ). part_cost d n r (entry_part d n w.start) + k) b

  module _ (own : NetState) (starts finishes : List Entry) (sources targets : List Stop) (from : AreEntries d n (IsStart d n own) starts) (to : AreEntries d n (IsFinish d n own) finishes) (at : AreStops d n r starts sources) (till : AreStops d n r finishes targets) where
    route_from_legal : (w : Walk) → IsLegal d n own r w → route.IsRoute (IsStep d n r) sources targets w (walk_cost d n r w)
    route_from_legal w h =
        let a = split (entry_part d n w.start) (entry_part d n w.finish ∷ path_parts d w.start.vertex w.edges) h.clear in
        let b = split (entry_part d n w.finish) (path_parts d w.start.vertex w.edges) a.1 in
        record {
          source = record { entry = w.start; cost = part_cost d n r (entry_part d n w.start) };
          is_source = at.has w.start (part_cost d n r (entry_part d n w.start)) (from.has w.start h.walk.start) (record { open_entry = record { inside = h.inside.start; clear = a.0 }; sum = refl });
          starts = refl;
          target = record { entry = w.finish; cost = part_cost d n r (entry_part d n w.finish) };
          is_target = till.has w.finish (part_cost d n r (entry_part d n w.finish)) (to.has w.finish h.walk.finish) (record { open_entry = record { inside = h.inside.finish; clear = b.0 }; sum = refl });
          finishes = refl;
          between = sum_of (path_parts d w.start.vertex w.edges);
          path = route_path w.start.vertex w.edges h.walk.path h.inside.path b.1;
          arrives = ends_same w.start.vertex w.edges ∙ h.walk.arrives;
          sum = walk_sum w ∙ omega arith;
        }

    record IsLegalAt (w : Walk) (cost : ℕ) : Type 0 where
      pub legal : IsLegal d n own r w
      pub sum : cost ≡ walk_cost d n r w

    legal_from_route : (w : Walk) (cost : ℕ) → route.IsRoute (IsStep d n r) sources targets w cost → IsLegalAt w cost
    legal_from_route w cost h =
        let p : IsClearPath w.start.vertex w.edges h.between = clear_path w.start.vertex w.edges h.between h.path in
        let s = at.only h.source h.is_source in
        let t = till.only h.target h.is_target in
        let first : IsStopAt d n r w.start h.source.cost = subst (λ (e : Entry). IsStopAt d n r e h.source.cost) (sym h.starts) s.1 in
        let last : IsStopAt d n r w.finish h.target.cost = subst (λ (e : Entry). IsStopAt d n r e h.target.cost) (sym h.finishes) t.1 in
        record {
          legal = record {
            walk = record {
              start = from.only w.start (subst (Contains starts) (sym h.starts) s.0);
              path = p.path;
              arrives = sym (ends_same w.start.vertex w.edges) ∙ h.arrives;
              finish = to.only w.finish (subst (Contains finishes) (sym h.finishes) t.0);
            };
            inside = record { start = first.open_entry.inside; finish = last.open_entry.inside; path = p.inside };
            clear = join (entry_part d n w.start) (entry_part d n w.finish ∷ path_parts d w.start.vertex w.edges) first.open_entry.clear (join (entry_part d n w.finish) (path_parts d w.start.vertex w.edges) last.open_entry.clear p.clear);
          };
          sum = omega (arith, h.sum, first.sum, last.sum, p.sum, walk_sum w);
        }

    -- a least route is a least walk
    pub least_from_route : (w : Walk) → route.IsLeastRoute (IsStep d n r) sources targets w → IsLeast d n own r w
    least_from_route w h =
        let it : IsLegalAt w h.cost = legal_from_route w h.cost h.route in
        record { legal = it.legal; least = λ v legal. omega (arith, it.sum, h.least v (walk_cost d n r v) (route_from_legal v legal)) }

    -- where there is no route no walk is legal
    pub none_from_routes : route.HasNoRoute (IsStep d n r) sources targets → NoneLegal d n own r
    none_from_routes none w legal = none w (walk_cost d n r w) (route_from_legal w legal)

  -- without a target no walk is legal
  pub none_without : (own : NetState) (finishes : List Entry) (targets : List Stop) → AreEntries d n (IsFinish d n own) finishes → AreStops d n r finishes targets → targets ≡ [] → NoneLegal d n own r
  none_without own finishes targets to till e w h =
      let a = split (entry_part d n w.start) (entry_part d n w.finish ∷ path_parts d w.start.vertex w.edges) h.clear in
      let b = split (entry_part d n w.finish) (path_parts d w.start.vertex w.edges) a.1 in
      let target : Stop = record { entry = w.finish; cost = part_cost d n r (entry_part d n w.finish) } in
      let found : Contains targets target = till.has w.finish (part_cost d n r (entry_part d n w.finish)) (to.has w.finish h.walk.finish) (record { open_entry = record { inside = h.inside.finish; clear = b.0 }; sum = refl }) in
      none_in target (subst (λ (ts : List Stop). Contains ts target) e found)

  -- over a step the bound of a hull falls by the step's cost at most
  step_falls : (b : Bound) → IsFairBound d.options.via b → (v : Vertex) (e : Edge) (c : ℕ) → IsStep d n r v e c → to_hull d b v ≤ c + to_hull d b e.to
  step_falls b fair v e c step = by_kind e.kind step.legal.edge.kind (omega (arith, at_least d n r (edge_cost_of d v e, edge_metal d v e), step.sum))
    where
      by_kind : (k : EdgeKind) → FitsKind (track_system_of d) k v e.to → kind_cost d k v e.to ≤ c → to_hull d b v ≤ c + to_hull d b e.to
      by_kind Along fits le = along_falls d b v e.to c fits.level fits.line (fair.falls v e.to c (inl (record { level = fits.level; cost = le })))
      by_kind (ByVia k) fits le = via_falls d b v e.to c fair.via_is (record {
        point = fits.point;
        levels = ⊎_elim (λ up. inr up.0) (λ down. inl down.0) fits.levels;
        cost = le;
      })

  -- the graph of the steps
  pub is_graph : (bounds : List Bound) → IsDesign d → ((b : Bound) → Contains bounds b → IsFairBound d.options.via b) → route.IsGraph (vertices_of d) (IsStep d n r) (to_stops d bounds)
  is_graph bounds ok fair = record {
    leads = λ v e c in_list step. vertex_listed d e.to ok step.legal.edge.end;
    single = λ v e c k in_list x y. x.sum ∙ sym y.sum;
    falls = λ v e c in_list step. stops_fall d bounds v e.to c (λ b listed. step_falls b (fair b listed) v e c step);
    back = λ v e c in_list step. step_back d n r v e c step;
  }

-- the vertices of stops are listed
pub stops_listed : (d : Design) (n : ℕ) (r : Reading) (entries : List Entry) (stops : List Stop) → IsDesign d → AreNetEntries d n entries → AreStops d n r entries stops → (s : Stop) → Contains stops s → Contains (vertices_of d) s.entry.vertex
stops_listed d n r entries stops ok fit are s c = vertex_listed d s.entry.vertex ok (entry_vertex d n s.entry ok (fit s.entry (are.only s c).0))

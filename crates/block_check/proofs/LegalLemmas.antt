-- A walk is legal where its entries and edges are, and costs what they cost.
use Rattle.std.proofs.Common.{◌≡◌, ◌∙◌, ⊎_elim, inl, inr, ℕ, ◌+◌, List, [], ◌∷◌, Bool, true, false, ◌||◌, refl, sym, Any, Contains, slice_get, Some, arith}
use Rattle.std.specs.List.{list_any, sum_by}
use Rattle.std.proofs.lemmas.List.Folds.{list_any-append}
use Rattle.std.proofs.lemmas.List.Sums.{sum_by-cons}
use Rattle.rt_base.specs.Conflict.{conflict_of}
use Rattle.rt_base.specs.declared.tech.Shape.{Shape}
use Rattle.rt_base.specs.declared.walk.Edge.{Edge}
use Rattle.rt_base.specs.declared.walk.Entry.{Entry}
use Rattle.rt_base.specs.declared.walk.EntryKind.TheVariants.{Wire as OnWire}
use Rattle.rt_base.specs.declared.walk.Vertex.{Vertex}
use Rattle.rt_base.specs.declared.walk.Walk.{Walk}
use Rattle.track_graph.specs.declared.design.Design.{Design}
use Rattle.track_graph.specs.declared.history.NetState.{NetState}
use Rattle.track_graph.specs.Designs.{IsDesign}
use Rattle.track_graph.specs.Edges.{edge_cost_of, edge_metal}
use Rattle.track_graph.specs.Entries.{entries_of, entry_part}
use Rattle.track_graph.specs.Levels.{track_system_of}
use Rattle.track_graph.specs.Metal.{Metal, shapes_of}
use Rattle.track_graph.specs.NetWalks.{IsNetEntry}
use Rattle.track_graph.specs.Searches.{Reading, IsFinish, IsLegal, IsStart, guide_of, part_cost, some_conflict, walk_cost}
use Rattle.track_graph.specs.Walks.{IsPath, PathInGuide, parts_shapes, path_parts, vertices_of}
use Rattle.track_graph.proofs.WalkLemmas.{walks-vertex}
use Rattle.plain_route.specs.Ground.{IsNetStateOf, IsOpen, IsStopAt}
use Rattle.block_check.specs.Legal.{AreLegalEdges, IsLegalAt, IsLegalPath, path_cost}

-- where a walk of a net may start there is an entry of the net
pub start-net_entry : (d : Design) (n : ℕ) (own : NetState) (e : Entry) → IsDesign d → IsNetStateOf d n own → IsStart d n own e → IsNetEntry d n e
start-net_entry d n own e ok of_net h = ⊎_elim
    (λ (p : (pin : ℕ) × (slice_get own.joined pin ≡ Some true) × Contains (entries_of d n pin) e). inl (p.0, p.2))
    (λ (p : (e.kind ≡ OnWire) × Any (λ (w : Walk). Contains (vertices_of w.start.vertex w.edges) e.vertex) own.walks). inr (p.0, walks-vertex d n own.walks e.vertex ok of_net.walks p.1))
    h

-- and where it may finish
pub finish-net_entry : (d : Design) (n : ℕ) (own : NetState) (e : Entry) → IsFinish d n own e → IsNetEntry d n e
finish-net_entry d n own e h = inl (h.0, h.2)

or_false : (a b : Bool) → (a || b) ≡ false → (a ≡ false) × (b ≡ false)
or_false true b h = absurd cc
or_false false b h = (refl, h)

false_or : (a b : Bool) → a ≡ false → b ≡ false → (a || b) ≡ false
false_or a b h k = rw h k

module _ (d : Design) (n : ℕ) (r : Reading) where
  -- none of these shapes conflicts with a forbidding one
  abbrev IsClear : List Shape → Type 0
  IsClear shapes = some_conflict d.tech shapes r.forbidding ≡ false

  abbrev meets : Shape → Bool
  meets a = list_any (conflict_of d.tech a) r.forbidding

  clear-split : (part : ℕ × List Metal) (parts : List (ℕ × List Metal)) → IsClear (parts_shapes n (part ∷ parts)) → IsClear (shapes_of n part.1) × IsClear (parts_shapes n parts)
  clear-split part parts h = or_false (list_any meets (shapes_of n part.1)) (list_any meets (parts_shapes n parts)) (sym (list_any-append meets (shapes_of n part.1) (parts_shapes n parts)) ∙ h)

  clear-join : (part : ℕ × List Metal) (parts : List (ℕ × List Metal)) → IsClear (shapes_of n part.1) → IsClear (parts_shapes n parts) → IsClear (parts_shapes n (part ∷ parts))
  clear-join part parts a b = list_any-append meets (shapes_of n part.1) (parts_shapes n parts) ∙ false_or (list_any meets (shapes_of n part.1)) (list_any meets (parts_shapes n parts)) a b

  legal_edges : (v : Vertex) (es : List Edge) → IsPath (track_system_of d) v es → PathInGuide (guide_of d n) v es → IsClear (parts_shapes n (path_parts d v es)) → AreLegalEdges d n r v es
  legal_edges v [] path inside clear = tt
  legal_edges v (e ∷ es) path inside clear =
      let both : IsClear (shapes_of n (edge_metal d v e)) × IsClear (parts_shapes n (path_parts d e.to es)) = clear-split (edge_cost_of d v e, edge_metal d v e) (path_parts d e.to es) clear in
      (record { edge = path.0; inside = inside.0; clear = both.0 }, legal_edges e.to es path.1 inside.1 both.1)

  record IsClearPath (v : Vertex) (es : List Edge) : Type 0 where
    pub path : IsPath (track_system_of d) v es
    pub inside : PathInGuide (guide_of d n) v es
    pub clear : IsClear (parts_shapes n (path_parts d v es))

  clear_path : (v : Vertex) (es : List Edge) → AreLegalEdges d n r v es → IsClearPath v es
  clear_path v [] h = record { path = tt; inside = tt; clear = refl }
  clear_path v (e ∷ es) h =
      let rest : IsClearPath e.to es = clear_path e.to es h.1 in
      record {
        path = (h.0.edge, rest.path);
        inside = (h.0.inside, rest.inside);
        clear = clear-join (edge_cost_of d v e, edge_metal d v e) (path_parts d e.to es) h.0.clear rest.clear;
      }

  -- what a legal walk has
  pub record HasLegalParts (w : Walk) : Type 0 where
    pub start : IsOpen d n r w.start
    pub finish : IsOpen d n r w.finish
    pub edges : AreLegalEdges d n r w.start.vertex w.edges

  pub legal-parts : (own : NetState) (w : Walk) → IsLegal d n own r w → HasLegalParts w
  legal-parts own w h =
      let a : IsClear (shapes_of n (entry_part d n w.start).1) × IsClear (parts_shapes n (entry_part d n w.finish ∷ path_parts d w.start.vertex w.edges)) =
      clear-split (entry_part d n w.start) (entry_part d n w.finish ∷ path_parts d w.start.vertex w.edges) h.clear in
      let b : IsClear (shapes_of n (entry_part d n w.finish).1) × IsClear (parts_shapes n (path_parts d w.start.vertex w.edges)) =
      clear-split (entry_part d n w.finish) (path_parts d w.start.vertex w.edges) a.1 in
      record {
        start = record { inside = h.inside.start; clear = a.0 };
        finish = record { inside = h.inside.finish; clear = b.0 };
        edges = legal_edges w.start.vertex w.edges h.walk.path h.inside.path b.1;
      }

  -- a walk with these is legal, and costs what they cost
  pub legal-from_parts : (own : NetState) (w : Walk) (start finish : ℕ) (found : ℕ × Vertex) → IsStart d n own w.start → IsFinish d n own w.finish → IsStopAt d n r w.start start → IsStopAt d n r w.finish finish
      → IsLegalPath d n r w.start.vertex w.edges found → found.1 ≡ w.finish.vertex → IsLegalAt d n own r w (start + finish + found.0)
  legal-from_parts own w start finish found from to at_start at_finish path ends =
      let rest : IsClearPath w.start.vertex w.edges = clear_path w.start.vertex w.edges path.legal in
      let both : walk_cost d n r w ≡ part_cost d n r (entry_part d n w.start) + sum_by (part_cost d n r) (entry_part d n w.finish ∷ path_parts d w.start.vertex w.edges) =
      sum_by-cons (part_cost d n r) (entry_part d n w.start) (entry_part d n w.finish ∷ path_parts d w.start.vertex w.edges) in
      let one : sum_by (part_cost d n r) (entry_part d n w.finish ∷ path_parts d w.start.vertex w.edges) ≡ part_cost d n r (entry_part d n w.finish) + path_cost d n r w.start.vertex w.edges =
      sum_by-cons (part_cost d n r) (entry_part d n w.finish) (path_parts d w.start.vertex w.edges) in
      let a : start ≡ part_cost d n r (entry_part d n w.start) = at_start.sum in
      let b : finish ≡ part_cost d n r (entry_part d n w.finish) = at_finish.sum in
      let c : found.0 ≡ path_cost d n r w.start.vertex w.edges = path.cost in
      record {
        legal = record {
          walk = record { start = from; path = rest.path; arrives = sym path.end ∙ ends; finish = to };
          inside = record { start = at_start.open_entry.inside; finish = at_finish.open_entry.inside; path = rest.inside };
          clear = clear-join (entry_part d n w.start) (entry_part d n w.finish ∷ path_parts d w.start.vertex w.edges) at_start.open_entry.clear
              (clear-join (entry_part d n w.finish) (path_parts d w.start.vertex w.edges) at_finish.open_entry.clear rest.clear);
        };
        sum = omega arith;
      }

-- A walk of a search is a walk of its net.
use Rattle.std.proofs.Common.{◌≡◌, ⊎_elim, inl, inr, ℕ, ◌<◌, ◌≤◌, List, [], ◌∷◌, Option, Some, None, true, false, sym, ap, ◌∙◌, subst, length, slice_get, option_map, All, Any, Contains, arith}
use Rattle.std.proofs.lemmas.Bool.{cases_lt}
use Rattle.std.proofs.lemmas.Option.{slice_get_past, slice_get_within}
use Rattle.rt_base.specs.declared.walk.Edge.{Edge}
use Rattle.rt_base.specs.declared.walk.Entry.{Entry}
use Rattle.rt_base.specs.declared.walk.EntryKind.{EntryKind}
use Rattle.rt_base.specs.declared.walk.EntryKind.TheVariants.{Pin as AtPin, Stub, Wire as OnWire}
use Rattle.rt_base.specs.declared.walk.Vertex.{Vertex}
use Rattle.rt_base.specs.declared.walk.Walk.{Walk}
use Rattle.rt_base.proofs.Lists.{in_cons}
use Rattle.track_graph.specs.declared.design.Design.{Design}
use Rattle.track_graph.specs.declared.design.Net.{Net}
use Rattle.track_graph.specs.declared.design.NetKind.{NetKind}
use Rattle.track_graph.specs.declared.design.NetKind.TheVariants.{Routable}
use Rattle.track_graph.specs.declared.history.NetState.{NetState}
use Rattle.track_graph.specs.declared.history.State.{State}
use Rattle.track_graph.specs.Conditions.{IsNetOf, IsStateOf}
use Rattle.track_graph.specs.Designs.{IsDesign}
use Rattle.track_graph.specs.Entries.{entries_of, pins_of, rects_of, pin_of}
use Rattle.track_graph.specs.Histories.{IsRoutable}
use Rattle.track_graph.specs.Levels.{TrackSystem, track_system_of, IsVertex}
use Rattle.track_graph.specs.Metal.{Metal}
use Rattle.track_graph.specs.NetWalks.{IsNetWalk, IsWalkOf}
use Rattle.track_graph.specs.Searches.{IsWalk}
use Rattle.track_graph.specs.States.{net_state}
use Rattle.track_graph.specs.Walks.{IsPath, vertices_of}
use Rattle.track_graph.proofs.EntryLemmas.{KindFits, entry_vertex, pin_entry-fits}

-- a net that can be routed is one of the design's
pub routable_within : (d : Design) (n : ℕ) → IsRoutable d n → IsNetOf d n
routable_within d n h = ⊎_elim
    (λ (l : n < length d.nets). l)
    (λ (past : length d.nets ≤ n). absurd (none_some (ap (λ (o : Option Net). option_map (λ (net : Net). net.kind) o) (sym (slice_get_past d.nets n past)) ∙ h)))
    (cases_lt n (length d.nets))
  where
    none_some : (let o : Option NetKind = None in o ≡ Some Routable) → ⊥
    none_some h = cc

-- a path goes from vertex to vertex
pub path-vertices : (g : TrackSystem) (v : Vertex) (es : List Edge) (x : Vertex) → IsVertex g v → IsPath g v es → Contains (vertices_of v es) x → IsVertex g x
path-vertices g v [] x at path has = ⊎_elim
    (λ (e : x ≡ v). subst (IsVertex g) (sym e) at)
    (λ (c : Contains [] x). absurd (omega (arith, c.1)))
    (in_cons v [] x has)
path-vertices g v (e ∷ es) x at path has = ⊎_elim
    (λ (same : x ≡ v). subst (IsVertex g) (sym same) at)
    (λ (c : Contains (vertices_of e.to es) x). path-vertices g e.to es x path.0.end path.1 c)
    (in_cons v (vertices_of e.to es) x has)

-- a vertex of a standing walk
pub walks-vertex : (d : Design) (n : ℕ) (ws : List Walk) (v : Vertex) → IsDesign d → All (IsWalkOf d n) ws → Any (λ (w : Walk). Contains (vertices_of w.start.vertex w.edges) v) ws → IsVertex (track_system_of d) v
walks-vertex d n ws v ok all (k, w, within, is, has) =
    let walk : IsNetWalk d n w = (subst (IsWalkOf d n) is (all k w within)).net_walk in
    path-vertices (track_system_of d) w.start.vertex w.edges v (entry_vertex d n w.start ok walk.start) walk.path has

-- an entry of a pin names it
kind-pin : (pin : ℕ) (rects : List Metal) (kind : EntryKind) → KindFits pin rects kind → pin_of kind ≡ Some pin
kind-pin pin rects (AtPin p) h = ap (λ (k : ℕ). Some k) h
kind-pin pin rects (Stub p k) h = ap (λ (k : ℕ). Some k) h.0
kind-pin pin rects OnWire h = absurd h

pub entry-named : (d : Design) (n pin : ℕ) (e : Entry) → IsDesign d → Contains (entries_of d n pin) e → pin_of e.kind ≡ Some pin
entry-named d n pin e ok has = kind-pin pin (rects_of d n pin) e.kind (pin_entry-fits d n pin e ok has).kind

-- where a walk finishes, and what it starts at, is known of the net's own walks and pins alone
pub walk-walk_of : (d : Design) (n : ℕ) (own : NetState) (w : Walk) → IsDesign d → IsNetOf d n → length own.joined ≡ length (pins_of d n) → All (IsWalkOf d n) own.walks → IsWalk d n own w → IsWalkOf d n w
walk-walk_of d n own w ok net pins standing h = record {
  net_walk = record {
    net = net;
    start = ⊎_elim
        (λ (p : (pin : ℕ) × (slice_get own.joined pin ≡ Some true) × Contains (entries_of d n pin) w.start). inl (p.0, p.2))
        (λ (p : (w.start.kind ≡ OnWire) × Any (λ (v : Walk). Contains (vertices_of v.start.vertex v.edges) w.start.vertex) own.walks). inr (p.0, walks-vertex d n own.walks w.start.vertex ok standing p.1))
        h.start;
    path = h.path;
    finish = inl (h.finish.0, h.finish.2);
  };
  arrives = h.arrives;
  at_pin =
      let pin : ℕ = h.finish.0 in
      let inside : pin < length own.joined = slice_get_within own.joined pin false h.finish.1 in
      (pin, record { named = entry-named d n pin w.finish ok h.finish.2; is_pin = subst (λ (k : ℕ). pin < k) pins inside; entry = h.finish.2 });
}

-- so it is in a state of the design
pub walk_in_state : (d : Design) (s : State) (n : ℕ) (w : Walk) → IsDesign d → IsStateOf d s → IsRoutable d n → IsWalk d n (net_state s n) w → IsWalkOf d n w
walk_in_state d s n w ok of_design routable h = walk-walk_of d n (net_state s n) w ok (routable_within d n routable) (of_design.pins n) (of_design.walks n) h

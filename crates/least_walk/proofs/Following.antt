use Rattle.std.proofs.Common.{◌≡◌, ◌≢◌, ℕ, ◌+◌, ◌*◌, ◌<◌, ◌≤◌, Bool, true, false, sym, refl, ap, ◌∙◌, subst, List, [], ◌∷◌, ◌++◌, length, Option, Some, Contains, arith, None, IfSome, ⊎_elim}
use Rattle.std.proofs.lemmas.Bool.{cases_eq}
use Rattle.std.proofs.lemmas.Option.{slice_get_within, same_Some}
use Rattle.rt_base.specs.declared.walk.Vertex.{Vertex}
use Rattle.rt_base.specs.declared.walk.Edge.{Edge}
use Rattle.least_walk.specs.declared.graph.Stop.{Stop}
use Rattle.least_walk.specs.declared.label.Label.{Label}
use Rattle.least_walk.specs.declared.label.Origin.TheVariants.{After}
use Rattle.least_walk.specs.Known.{number_of, Sets}
use Rattle.least_walk.specs.Queue.{IsWithOneMore}
use Rattle.least_walk.specs.Routes.{IsGraph, HoldsEdges}
use Rattle.least_walk.specs.Labels.{label_at, vertex_at, dist_at, key_at, most_cost, IsLabel}
use Rattle.least_walk.specs.Search.{IsSettled, IsCovered, AreFiled, Extends, AreSound, AreMid}
use Rattle.least_walk.proofs.Lists.{contains_cases, vertex_left, dist_left, key_left}
use Rattle.least_walk.proofs.Adding.{labels_more, settled_before, settled_after, filed_more, covered_here, covered_more}

-- a label that was met is there
pub met_in : (ls : List Label) (flags : List Bool) (known : List (Vertex × ℕ)) (q : List (ℕ × ℕ)) → AreFiled ls flags known q → (v : Vertex) (met : Option ℕ) → met ≡ number_of known v → IfSome met (λ n. n < length ls)
met_in ls flags known q filed v None e = tt
met_in ls flags known q filed v (Some n) e = (filed.mapped v n (sym e)).0

pub met_in_flags : (ls : List Label) (flags : List Bool) (known : List (Vertex × ℕ)) (q : List (ℕ × ℕ)) → AreFiled ls flags known q → (v : Vertex) (met : Option ℕ) → met ≡ number_of known v → IfSome met (λ n. n < length flags)
met_in_flags ls flags known q filed v None e = tt
met_in_flags ls flags known q filed v (Some n) e = omega (arith, (filed.mapped v n (sym e)).0, filed.count)

-- of what is nearer than a label that was met
pub nearer_met : (ls : List Label) (met o : Option ℕ) (d : ℕ) → met ≡ o → IfSome met (λ n. d < dist_at ls n) → (n : ℕ) → o ≡ Some n → d ≤ dist_at ls n
nearer_met ls met o d e h n i = less met (e ∙ i) h
  where
    less : (m : Option ℕ) → m ≡ Some n → IfSome m (λ k. d < dist_at ls k) → d ≤ dist_at ls n
    less None e h = cc
    less (Some k) e h = let j : k ≡ n = same_Some k n e in rw (← j) (omega (arith, h))

module _ (vertices : List Vertex) (HasEdge : Vertex → Edge → ℕ → Type 0) (bound_of : Vertex → ℕ) (sources : List Stop) (ls : List Label) (flags : List Bool) (known : List (Vertex × ℕ)) (q : List (ℕ × ℕ)) (k : ℕ) where
  -- the label that was settled last
  pub number_in : (done : List Edge) → AreMid vertices HasEdge bound_of sources ls flags known q k done → k < length ls
  number_in done mid = omega (arith, slice_get_within flags k true mid.settled, mid.filed.count)

  pub label_in : (done : List Edge) → AreMid vertices HasEdge bound_of sources ls flags known q k done → IsLabel vertices HasEdge bound_of sources ls k (label_at ls k)
  label_in done mid = mid.labels k (number_in done mid)

  -- the label, as it is read
  module _ (mid : AreMid vertices HasEdge bound_of sources ls flags known q k []) (x : Label) (got : label_at ls k ≡ x) where
    pub within_got : Contains vertices x.vertex
    within_got = subst (λ (y : Label). Contains vertices y.vertex) got (label_in [] mid).within

    pub dist_got : x.dist ≡ dist_at ls k
    dist_got = sym (ap (λ (y : Label). y.dist) got)

    pub small_got : x.dist ≤ most_cost * (k + 1)
    small_got = omega (arith, (label_in [] mid).small, dist_got)

    pub leads_got : (e : Edge) (c : ℕ) → HasEdge x.vertex e c → HasEdge (vertex_at ls k) e c
    leads_got e c h = subst (λ (y : Label). HasEdge y.vertex e c) (sym got) h

    pub least_got : (e : Edge) (least : ℕ) → ((c : ℕ) → HasEdge x.vertex e c → least ≤ c) → (c : ℕ) → HasEdge (vertex_at ls k) e c → least ≤ c
    least_got e least at_most c h = at_most c (subst (λ (y : Label). HasEdge y.vertex e c) got h)

    pub no_edge_got : (e : Edge) → ((c : ℕ) → HasEdge x.vertex e c → ⊥) → (c : ℕ) → HasEdge (vertex_at ls k) e c → IsCovered ls known e.to (dist_at ls k + c)
    no_edge_got e none c h = absurd (none c (subst (λ (y : Label). HasEdge y.vertex e c) got h))

  -- one more edge is done
  pub mid_more : (done : List Edge) (e : Edge) → AreMid vertices HasEdge bound_of sources ls flags known q k done → ((c : ℕ) → HasEdge (vertex_at ls k) e c → IsCovered ls known e.to (dist_at ls k + c)) → AreMid vertices HasEdge bound_of sources ls flags known q k (done ++ e ∷ [])
  mid_more done e mid covers = record {
    filed = mid.filed;
    labels = mid.labels;
    sources_in = mid.sources_in;
    settled = mid.settled;
    first = mid.first;
    top = mid.top;
    edges_in = mid.edges_in;
    done_in = λ f c h r. ⊎_elim
        (λ (d : Contains done f). mid.done_in f c d r)
        (λ (i : f ≡ e). subst (λ (g : Edge). IsCovered ls known g.to (dist_at ls k + c)) (sym i) (covers c (subst (λ (g : Edge). HasEdge (vertex_at ls k) g c) i r)))
        (contains_cases done e f h);
  }

  pub mid_none : (done : List Edge) → AreMid vertices HasEdge bound_of sources ls flags known q k done → AreMid vertices HasEdge bound_of sources ls flags known q k []
  mid_none done mid = record {
    filed = mid.filed;
    labels = mid.labels;
    sources_in = mid.sources_in;
    settled = mid.settled;
    first = mid.first;
    top = mid.top;
    edges_in = mid.edges_in;
    done_in = λ f c h r. absurd (omega (arith, h.1));
  }

  -- all edges are done
  pub sound_from_mid : (edges : List Edge) → AreMid vertices HasEdge bound_of sources ls flags known q k edges → HoldsEdges HasEdge (vertex_at ls k) edges → AreSound vertices HasEdge bound_of sources ls flags known q
  sound_from_mid edges mid all = record {
    filed = mid.filed;
    labels = mid.labels;
    sources_in = mid.sources_in;
    edges_in = λ j e c s h. ⊎_elim
        (λ (i : j ≡ k). subst (λ (n : ℕ). IsCovered ls known e.to (dist_at ls n + c)) (sym i)
        (let r : HasEdge (vertex_at ls k) e c = subst (λ (n : ℕ). HasEdge (vertex_at ls n) e c) i h in mid.done_in e c (all e c r) r))
        (λ (n : j ≢ k). mid.edges_in j e c s n h)
        (cases_eq j k);
  }

  module _ (graph : IsGraph vertices HasEdge bound_of) (mid : AreMid vertices HasEdge bound_of sources ls flags known q k []) (e : Edge) where
    -- what the edge leads to is settled
    pub covers_settled : (n : ℕ) → number_of known e.to ≡ Some n → IsSettled flags n → (c : ℕ) → HasEdge (vertex_at ls k) e c → IsCovered ls known e.to (dist_at ls k + c)
    covers_settled n is s c h =
        let lk : IsLabel vertices HasEdge bound_of sources ls k (label_at ls k) = label_in [] mid in
        let t : (n < length ls) × (vertex_at ls n ≡ e.to) × _ = mid.filed.mapped e.to n is in
        let ln : IsLabel vertices HasEdge bound_of sources ls n (label_at ls n) = mid.labels n t.0 in
        let b : bound_of (vertex_at ls n) ≡ bound_of e.to = ap bound_of t.1 in
        record {
          number = n;
          is_number = is;
          cheap = omega (arith, mid.top n s, lk.is_key, ln.is_key, b, graph.falls (vertex_at ls k) e c lk.within h);
        }

    -- it has a label that is as near as a number that is at most the edge's cost
    pub covers_least : (n least : ℕ) → number_of known e.to ≡ Some n → ((c : ℕ) → HasEdge (vertex_at ls k) e c → least ≤ c) → dist_at ls n ≤ dist_at ls k + least → (d : ℕ) → HasEdge (vertex_at ls k) e d → IsCovered ls known e.to (dist_at ls k + d)
    covers_least n least is at_most near d r = record { number = n; is_number = is; cheap = omega (arith, near, at_most d r) }

    -- it has a label that is as near
    pub covers_near : (n c : ℕ) → number_of known e.to ≡ Some n → HasEdge (vertex_at ls k) e c → dist_at ls n ≤ dist_at ls k + c → (d : ℕ) → HasEdge (vertex_at ls k) e d → IsCovered ls known e.to (dist_at ls k + d)
    covers_near n c is h near d r =
        let lk : IsLabel vertices HasEdge bound_of sources ls k (label_at ls k) = label_in [] mid in
        record { number = n; is_number = is; cheap = omega (arith, near, graph.single (vertex_at ls k) e c d lk.within h r) }

    -- it gets a new label
    module _ (c : ℕ) (leads : HasEdge (vertex_at ls k) e c) (cost : c ≤ most_cost) (x : Label) (at : x.vertex ≡ e.to) (dist : x.dist ≡ dist_at ls k + c) (key : x.key ≡ x.dist + bound_of e.to) (origin : x.origin ≡ After k e.kind) where
      label_new : IsLabel vertices HasEdge bound_of sources ls (length ls) x
      label_new =
          let lk : IsLabel vertices HasEdge bound_of sources ls k (label_at ls k) = label_in [] mid in
          let l : k < length ls = number_in [] mid in
          record {
            source = rw (at, dist, origin) (c, l, leads, refl);
            within = rw at (graph.leads (vertex_at ls k) e c lk.within leads);
            is_key = key ∙ ap (λ (v : Vertex). x.dist + bound_of v) (sym at);
            small = omega (arith, lk.small, dist, l, cost);
          }

      module _ (known2 : List (Vertex × ℕ)) (r : List (ℕ × ℕ)) (sets : Sets x.vertex (length ls) known known2) (m : IsWithOneMore (x.key, length ls) q r) (unsettled : (n : ℕ) → number_of known e.to ≡ Some n → IsSettled flags n → ⊥) (nearer : (n : ℕ) → number_of known e.to ≡ Some n → x.dist ≤ dist_at ls n) (done : List Edge) (was : AreMid vertices HasEdge bound_of sources ls flags known q k done) where
        above_key : key_at ls k ≤ x.key
        above_key =
            let lk : IsLabel vertices HasEdge bound_of sources ls k (label_at ls k) = label_in [] mid in
            omega (arith, lk.is_key, key, dist, graph.falls (vertex_at ls k) e c lk.within leads)

        kept : (v : Vertex) (d : ℕ) → IsCovered ls known v d → IsCovered (ls ++ x ∷ []) known2 v d
        kept = covered_more ls flags x known known2 q r sets m mid.filed (λ n h. nearer n (ap (number_of known) (sym at) ∙ h))

        same_vertex : vertex_at (ls ++ x ∷ []) k ≡ vertex_at ls k
        same_vertex = vertex_left ls x k (number_in [] mid)

        same_dist : dist_at (ls ++ x ∷ []) k ≡ dist_at ls k
        same_dist = dist_left ls x k (number_in [] mid)

        same_key : key_at (ls ++ x ∷ []) k ≡ key_at ls k
        same_key = key_left ls x k (number_in [] mid)

        settled_in : (j : ℕ) → IsSettled flags j → j < length ls
        settled_in j s = omega (arith, slice_get_within flags j true s, mid.filed.count)

        mid_added : AreMid vertices HasEdge bound_of sources (ls ++ x ∷ []) (flags ++ false ∷ []) known2 r k done
        mid_added = record {
          filed = filed_more ls flags x known known2 q r sets m mid.filed (λ n h s. unsettled n (ap (number_of known) (sym at) ∙ h) s) (λ j s. omega (arith, mid.top j s, above_key));
          labels = labels_more vertices HasEdge bound_of sources ls x mid.labels label_new;
          sources_in = λ i s h. kept s.entry.vertex s.cost (mid.sources_in i s h);
          settled = settled_after ls flags x k mid.settled;
          first = λ d j h. rw same_key (⊎_elim
              (λ (i : (d, j) ≡ (x.key, length ls)). let id : d ≡ x.key = ap (λ (p : ℕ × ℕ). p.0) i in rw id above_key)
              (λ (c : Contains q (d, j)). mid.first d j c)
              (m.only (d, j) h));
          top = λ j h. let s : IsSettled flags j = settled_before ls flags x j h in rw (same_key, key_left ls x j (settled_in j s)) (mid.top j s);
          edges_in = λ j f d h n g.
              let s : IsSettled flags j = settled_before ls flags x j h in
              rw (dist_left ls x j (settled_in j s)) (kept f.to (dist_at ls j + d) (mid.edges_in j f d s n (rw (vertex_left ls x j (settled_in j s)) at g)));
          done_in = λ f d h g. rw same_dist (kept f.to (dist_at ls k + d) (was.done_in f d h (rw same_vertex at g)));
        }

        pub mid_new : AreMid vertices HasEdge bound_of sources (ls ++ x ∷ []) (flags ++ false ∷ []) known2 r k (done ++ e ∷ [])
        mid_new =
            let lk : IsLabel vertices HasEdge bound_of sources ls k (label_at ls k) = label_in [] mid in
            let here : IsCovered (ls ++ x ∷ []) known2 x.vertex x.dist = covered_here ls flags x known known2 q r sets m mid.filed in
            mid_all mid_added (λ d g.
            let i : c ≡ d = graph.single (vertex_at ls k) e c d lk.within leads (rw same_vertex at g) in
            rw (same_dist, ← i, ← dist, ← at) here)
          where
            mid_all : AreMid vertices HasEdge bound_of sources (ls ++ x ∷ []) (flags ++ false ∷ []) known2 r k done → ((d : ℕ) → HasEdge (vertex_at (ls ++ x ∷ []) k) e d → IsCovered (ls ++ x ∷ []) known2 e.to (dist_at (ls ++ x ∷ []) k + d)) → AreMid vertices HasEdge bound_of sources (ls ++ x ∷ []) (flags ++ false ∷ []) known2 r k (done ++ e ∷ [])
            mid_all a covers = record {
              filed = a.filed;
              labels = a.labels;
              sources_in = a.sources_in;
              settled = a.settled;
              first = a.first;
              top = a.top;
              edges_in = a.edges_in;
              done_in = λ f d h g. ⊎_elim
                  (λ (o : Contains done f). a.done_in f d o g)
                  (λ (i : f ≡ e). subst (λ (w : Edge). IsCovered (ls ++ x ∷ []) known2 w.to (dist_at (ls ++ x ∷ []) k + d)) (sym i) (covers d (subst (λ (w : Edge). HasEdge (vertex_at (ls ++ x ∷ []) k) w d) i g)))
                  (contains_cases done e f h);
            }

pub extends_self : (ls : List Label) (flags : List Bool) → Extends ls ls flags flags
extends_self ls flags = record { longer = omega arith; same = λ k h. refl; settled = λ k h. h; stays = λ k h. h }

pub extends_through : (ls ms ns : List Label) (flags later last : List Bool) → Extends ls ms flags later → Extends ms ns later last → Extends ls ns flags last
extends_through ls ms ns flags later last a b = record {
  longer = omega (arith, a.longer, b.longer);
  same = λ k h. b.same k (omega (arith, a.longer)) ∙ a.same k h;
  settled = λ k h. a.settled k (b.settled k h);
  stays = λ k h. b.stays k (a.stays k h);
}

-- all edges from the vertex that was settled last are done
pub expanded : (vertices : List Vertex) (HasEdge : Vertex → Edge → ℕ → Type 0) (bound_of : Vertex → ℕ) (sources : List Stop) (ls : List Label) (flags : List Bool) (known : List (Vertex × ℕ)) (q : List (ℕ × ℕ)) (k : ℕ) (edges slice : List Edge) (x : Label) → AreMid vertices HasEdge bound_of sources ls flags known q k slice → slice ≡ edges → label_at ls k ≡ x → HoldsEdges HasEdge x.vertex edges → AreSound vertices HasEdge bound_of sources ls flags known q
expanded vertices HasEdge bound_of sources ls flags known q k edges slice x mid e got all =
    sound_from_mid vertices HasEdge bound_of sources ls flags known q k slice mid
    (subst (λ (es : List Edge). HoldsEdges HasEdge (vertex_at ls k) es) (sym e) (subst (λ (y : Label). HoldsEdges HasEdge y.vertex edges) (sym got) all))

use Rattle.std.proofs.Common.{◌≡◌, ℕ, ◌+◌, ◌<◌, ◌≤◌, Bool, false, sym, refl, ap, ◌∙◌, subst, List, [], ◌∷◌, ◌++◌, length, Some, Contains, arith, slice_get, ⊎_elim}
use Rattle.std.proofs.lemmas.Bool.{cases_lt}
use Rattle.std.proofs.lemmas.Option.{same_Some}
use Rattle.rt_base.specs.declared.walk.Vertex.{Vertex}
use Rattle.rt_base.specs.declared.walk.Edge.{Edge}
use Rattle.least_walk.specs.declared.graph.Stop.{Stop}
use Rattle.least_walk.specs.declared.label.Label.{Label}
use Rattle.least_walk.specs.declared.label.Origin.TheVariants.{Source}
use Rattle.least_walk.specs.Known.{number_of, Sets}
use Rattle.least_walk.specs.Queue.{IsWithOneMore}
use Rattle.least_walk.specs.Labels.{dist_at, most_cost}
use Rattle.least_walk.specs.Search.{IsCovered, AreStarted}
use Rattle.least_walk.proofs.Adding.{labels_more, settled_before, filed_more, covered_here, covered_more}

module _ (vertices : List Vertex) (HasEdge : Vertex → Edge → ℕ → Type 0) (bound_of : Vertex → ℕ) (sources : List Stop) (ls : List Label) (flags : List Bool) (known : List (Vertex × ℕ)) (q : List (ℕ × ℕ)) (place : ℕ) (st : AreStarted vertices HasEdge bound_of sources place ls flags known q) (s : Stop) (is : slice_get sources place ≡ Some s) where
  -- one more source is in
  one_more : (ms : List Label) (later : List (Vertex × ℕ)) → ((j : ℕ) (y : Stop) → j < place → slice_get sources j ≡ Some y → IsCovered ms later y.entry.vertex y.cost) → IsCovered ms later s.entry.vertex s.cost → (j : ℕ) (y : Stop) → j < place + 1 → slice_get sources j ≡ Some y → IsCovered ms later y.entry.vertex y.cost
  one_more ms later before here j y l h = ⊎_elim
      (λ (b : j < place). before j y b h)
      (λ (b : place ≤ j).
      let i : j ≡ place = omega arith in
      let e : s ≡ y = same_Some s y (sym is ∙ ap (slice_get sources) (sym i) ∙ h) in
      subst (λ (z : Stop). IsCovered ms later z.entry.vertex z.cost) e here)
      (cases_lt j place)

  pub started_near : (n : ℕ) → number_of known s.entry.vertex ≡ Some n → dist_at ls n ≤ s.cost → AreStarted vertices HasEdge bound_of sources (place + 1) ls flags known q
  started_near n i near = record {
    filed = st.filed;
    labels = st.labels;
    none_settled = st.none_settled;
    sources_in = one_more ls known st.sources_in (record { number = n; is_number = i; cheap = near });
  }

  module _ (x : Label) (at : x.vertex ≡ s.entry.vertex) (dist : x.dist ≡ s.cost) (key : x.key ≡ x.dist + bound_of s.entry.vertex) (origin : x.origin ≡ Source place) (within : Contains vertices s.entry.vertex) (cost : s.cost ≤ most_cost) (later : List (Vertex × ℕ)) (r : List (ℕ × ℕ)) (sets : Sets x.vertex (length ls) known later) (m : IsWithOneMore (x.key, length ls) q r) (nearer : (n : ℕ) → number_of known s.entry.vertex ≡ Some n → x.dist ≤ dist_at ls n) where
    kept : (v : Vertex) (d : ℕ) → IsCovered ls known v d → IsCovered (ls ++ x ∷ []) later v d
    kept = covered_more ls flags x known later q r sets m st.filed (λ n h. nearer n (ap (number_of known) (sym at) ∙ h))

    here : IsCovered (ls ++ x ∷ []) later s.entry.vertex s.cost
    here = rw (← dist, ← at) (covered_here ls flags x known later q r sets m st.filed)

    pub started_more : AreStarted vertices HasEdge bound_of sources (place + 1) (ls ++ x ∷ []) (flags ++ false ∷ []) later r
    started_more = record {
      filed = filed_more ls flags x known later q r sets m st.filed (λ n h b. st.none_settled n b) (λ j b. absurd (st.none_settled j b));
      labels = labels_more vertices HasEdge bound_of sources ls x st.labels (record {
        source = rw (at, dist, origin) (s, is, refl, refl);
        within = rw at within;
        is_key = key ∙ ap (λ (v : Vertex). x.dist + bound_of v) (sym at);
        small = omega (arith, dist, cost);
      });
      none_settled = λ k h. st.none_settled k (settled_before ls flags x k h);
      sources_in = one_more (ls ++ x ∷ []) later (λ j y l h. kept y.entry.vertex y.cost (st.sources_in j y l h)) here;
    }

use Rattle.std.proofs.Common.{◌≡◌, inl, inr, ℕ, ◌+◌, ◌<◌, ◌≤◌, sym, refl, ap, ◌∙◌, subst, List, [], length, Option, Some, None, arith, slice_get, ⊎_elim}
use Rattle.std.proofs.lemmas.Bool.{cases_lt}
use Rattle.std.proofs.lemmas.Option.{slice_get_within, same_Some}
use Rattle.rt_base.specs.declared.walk.Vertex.{Vertex}
use Rattle.least_walk.specs.declared.graph.Stop.{Stop}
use Rattle.least_walk.specs.declared.label.Search.{Search}
use Rattle.least_walk.specs.declared.label.Best.{Best}
use Rattle.least_walk.specs.Known.{number_of, Sets}
use Rattle.least_walk.specs.Labels.{vertex_at, dist_at}
use Rattle.least_walk.specs.Ends.{IsEnds, IsFinish, IsImproved}
use Rattle.least_walk.proofs.Lists.{contains_at}

none_is_some : {p : ℕ} → None ≡ Some p → ⊥
none_is_some e = cc

-- no target is noted
pub ends_none : (targets : List Stop) → IsEnds targets 0 []
ends_none targets = record {
  is_end = λ v p h. absurd (none_is_some h);
  least = λ k t l h. absurd (omega arith);
}

-- what is noted of a vertex
pub noted : (targets : List Stop) (ends : List (Vertex × ℕ)) (i : ℕ) (v : Vertex) (p : ℕ) → IsEnds targets i ends → number_of ends v ≡ Some p → p < length targets
noted targets ends i v p e h = let t : (t : Stop) × (slice_get targets p ≡ Some t) × (t.entry.vertex ≡ v) = e.is_end v p h in slice_get_within targets p t.0 t.1

module _ (targets : List Stop) (i : ℕ) (known later : List (Vertex × ℕ)) (t : Stop) (ends : IsEnds targets i known) (is : slice_get targets i ≡ Some t) where
  -- a target at its vertex costs no more
  pub ends_near : (p : ℕ) (u : Stop) → number_of known t.entry.vertex ≡ Some p → slice_get targets p ≡ Some u → u.cost ≤ t.cost → IsEnds targets (i + 1) known
  ends_near p u n g le = record {
    is_end = ends.is_end;
    least = λ k y l h. ⊎_elim
        (λ (b : k < i). ends.least k y b h)
        (λ (b : i ≤ k).
        let j : k ≡ i = omega arith in
        let e : t ≡ y = same_Some t y (sym is ∙ ap (slice_get targets) (sym j) ∙ h) in
        (p, u, ap (λ (z : Stop). number_of known z.entry.vertex) (sym e) ∙ n, g, subst (λ (z : Stop). u.cost ≤ z.cost) e le))
        (cases_lt k i);
  }

  -- it is noted
  pub ends_more : Sets t.entry.vertex i known later → ((p : ℕ) (u : Stop) → number_of known t.entry.vertex ≡ Some p → slice_get targets p ≡ Some u → t.cost ≤ u.cost) → IsEnds targets (i + 1) later
  ends_more sets better = record {
    is_end = λ v p h. ⊎_elim
        (λ (e : v ≡ t.entry.vertex).
        let j : p ≡ i = same_Some p i (sym h ∙ ap (number_of later) e ∙ sets.here) in
        (t, ap (slice_get targets) j ∙ is, sym e))
        (λ (e : number_of later v ≡ number_of known v). ends.is_end v p (sym e ∙ h))
        (sets.apart v);
    least = λ k y l h. ⊎_elim
        (λ (b : k < i).
        let o : (p : ℕ) × (u : Stop) × (number_of known y.entry.vertex ≡ Some p) × (slice_get targets p ≡ Some u) × (u.cost ≤ y.cost) = ends.least k y b h in
        ⊎_elim
        (λ (e : y.entry.vertex ≡ t.entry.vertex).
        let le : t.cost ≤ (o.1).cost = better o.0 o.1 (ap (number_of known) (sym e) ∙ o.2) o.3 in
        (i, t, ap (number_of later) e ∙ sets.here, is, omega (arith, le, o.4)))
        (λ (e : number_of later y.entry.vertex ≡ number_of known y.entry.vertex). (o.0, o.1, e ∙ o.2, o.3, o.4))
        (sets.apart y.entry.vertex))
        (λ (b : i ≤ k).
        let j : k ≡ i = omega arith in
        let e : t ≡ y = same_Some t y (sym is ∙ ap (slice_get targets) (sym j) ∙ h) in
        (i, t, ap (λ (z : Stop). number_of later z.entry.vertex) (sym e) ∙ sets.here, is, subst (λ (z : Stop). t.cost ≤ z.cost) e (omega arith)))
        (cases_lt k i);
  }

module _ (s : Search) (targets : List Stop) (known : List (Vertex × ℕ)) (k : ℕ) (best : Option Best) (ends : IsEnds targets (length targets) known) where
  -- no target is at the vertex
  pub improved_none : None ≡ number_of known (vertex_at s.labels.items k) → IsImproved s targets k best best
  improved_none none = record {
    from = λ b e. inl e;
    kept = λ b e. (b, e, omega arith);
    least = λ i t h at.
        let o : (p : ℕ) × (u : Stop) × (number_of known t.entry.vertex ≡ Some p) × (slice_get targets p ≡ Some u) × (u.cost ≤ t.cost) = ends.least i t (slice_get_within targets i t h) h in
        absurd (none_is_some (none ∙ ap (number_of known) (sym at) ∙ o.2));
  }

  module _ (p : ℕ) (u : Stop) (number : Some p ≡ number_of known (vertex_at s.labels.items k)) (is : slice_get targets p ≡ Some u) (cost : ℕ) (sum : cost ≡ dist_at s.labels.items k + u.cost) where
    cheapest : (i : ℕ) (t : Stop) → slice_get targets i ≡ Some t → t.entry.vertex ≡ vertex_at s.labels.items k → u.cost ≤ t.cost
    cheapest i t h at =
        let o : (p : ℕ) × (u : Stop) × (number_of known t.entry.vertex ≡ Some p) × (slice_get targets p ≡ Some u) × (u.cost ≤ t.cost) = ends.least i t (slice_get_within targets i t h) h in
        let j : p ≡ o.0 = same_Some p o.0 (number ∙ ap (number_of known) (sym at) ∙ o.2) in
        let e : o.1 ≡ u = same_Some o.1 u (sym o.3 ∙ ap (slice_get targets) (sym j) ∙ is) in
        subst (λ (z : Stop). z.cost ≤ t.cost) e o.4

    -- the best so far costs no more
    pub improved_kept : (b : Best) → best ≡ Some b → b.cost ≤ cost → IsImproved s targets k best best
    improved_kept b e le = record {
      from = λ x h. inl h;
      kept = λ x h. (x, h, omega arith);
      least = λ i t h at. (b, e, omega (arith, le, sum, cheapest i t h at));
    }

    -- it costs more, or there is none
    pub improved_new : k < length s.labels.items → ((b : Best) → best ≡ Some b → cost ≤ b.cost) → IsImproved s targets k best (Some (record { cost = cost; number = k; target = u }))
    improved_new l more =
        let new : Best = record { cost = cost; number = k; target = u } in
        let at : u.entry.vertex ≡ vertex_at s.labels.items k =
        let o : (t : Stop) × (slice_get targets p ≡ Some t) × (t.entry.vertex ≡ vertex_at s.labels.items k) = ends.is_end (vertex_at s.labels.items k) p (sym number) in
        ap (λ (z : Stop). z.entry.vertex) (same_Some u o.0 (sym is ∙ o.1)) ∙ o.2 in
        record {
          from = λ b e. inr (subst (λ (z : Best). IsFinish s targets z) (same_Some new b e) (record { in_labels = l; has = contains_at targets p u is; at_vertex = at; sum = sum }));
          kept = λ b e. (new, refl, more b e);
          least = λ i t h at. (new, refl, omega (arith, sum, cheapest i t h at));
        }

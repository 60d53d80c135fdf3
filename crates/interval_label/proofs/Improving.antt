use Rattle.std.proofs.Common.{◌≡◌, inl, inr, ℕ, pos, ◌+◌, ◌<◌, ◌≤◌, sym, refl, ap, ◌∙◌, subst, List, length, Option, Some, slice_get, slice_index_or, Contains, arith, ⊎_elim}
use Rattle.std.proofs.lemmas.Bool.{cases_lt}
use Rattle.std.proofs.lemmas.Option.{same_Some, slice_get_read, slice_get-get_or}
use Rattle.label_arena.specs.declared.place.Label.{Label}
use Rattle.label_arena.specs.declared.place.IntervalNo.{IntervalNo}
use Rattle.label_arena.specs.Lists.{Graph}
use Rattle.label_arena.specs.Plain.{slide}
use Rattle.interval_label.specs.Task.{Stop}
use Rattle.interval_label.specs.Known.{HoldStops, row_at}
use Rattle.interval_label.specs.Search.{IsSlideTo, IsImproved, IsCheaper, IsReached}
use Rattle.interval_label.specs.declared.search.Best.{Best}

-- k is one of the first i numbers
abbrev pub IsBefore : List ℕ → ℕ → ℕ → Type 0
IsBefore ks i k = (j : ℕ) × (j < i) × (slice_get ks j ≡ Some k)

-- what a look-up beyond a list's end would read
abbrev pub no_stop : Stop
no_stop = (record { interval = record { 0 = 0 }; coord = pos 0 }, 0)

module _ (g : Graph) (targets : List Stop) (x : Label) (number : ℕ) where
  pub improved_none : (ks : List ℕ) (best : Option Best) → IsImproved g targets x number (IsBefore ks 0) best best
  improved_none ks best = record {
    from = λ r e. inl e;
    keeps = λ o e. (o, e, omega arith);
    covers = λ k c h. absurd (omega (arith, h.1));
  }

  pub improved_more : (ks : List ℕ) (i : ℕ) (a b c : Option Best) → i < length ks → IsImproved g targets x number (IsBefore ks i) a b → IsImproved g targets x number (λ j. j ≡ slice_index_or ks i 0) b c → IsImproved g targets x number (IsBefore ks (i + 1)) a c
  improved_more ks i a b c w p q = record {
    from = λ r e. ⊎_elim (λ (h : b ≡ Some r). p.from r h) (λ (h : (r.number ≡ number) × IsSlideTo g targets x r.target r.cost). inr h) (q.from r e);
    keeps = λ o e.
        let r : IsReached b o.cost = p.keeps o e in
        let s : IsReached c r.0.cost = q.keeps r.0 r.1 in
        (s.0, s.1, omega (arith, r.2, s.2));
    covers = λ k d h y. ⊎_elim
        (λ (l : h.0 < i).
        let r : IsReached b d = p.covers k d (h.0, l, h.2) y in
        let s : IsReached c r.0.cost = q.keeps r.0 r.1 in
        (s.0, s.1, omega (arith, r.2, s.2)))
        (λ (l : i ≤ h.0).
        let ij : h.0 ≡ i = omega (arith, h.1) in
        let here : slice_get ks i ≡ Some (slice_index_or ks i 0) = slice_get-get_or ks i 0 w in
        q.covers k d (same_Some k (slice_index_or ks i 0) (sym h.2 ∙ ap (slice_get ks) ij ∙ here)) y)
        (cases_lt h.0 i);
  }

  -- the target is on another interval
  pub improved_other : (k : ℕ) (t : Stop) (best : Option Best) → slice_get targets k ≡ Some t → (x.place.interval ≡ t.0.interval → ⊥) → IsImproved g targets x number (λ j. j ≡ k) best best
  improved_other k t best at other = record {
    from = λ r e. inl e;
    keeps = λ o e. (o, e, omega arith);
    covers = λ j c h y.
        let same : y.target ≡ t = same_Some y.target t (sym y.at ∙ ap (slice_get targets) h ∙ at) in
        absurd (other (y.one_interval ∙ ap (λ (z : Stop). z.0.interval) same));
  }

  pub improved_by : (k : ℕ) (t : Stop) (best : Option Best) (next result : Best) → slice_get targets k ≡ Some t → x.place.interval ≡ t.0.interval → next.number ≡ number → next.target ≡ k → next.cost ≡ x.dist + slide g x.place t.0.coord + t.1 → IsCheaper best next result → IsImproved g targets x number (λ j. j ≡ k) best (Some result)
  improved_by k t best next result at one nn nk nc ch = record {
    from = λ r e.
        let same : result ≡ r = same_Some result r e in
        ⊎_elim
        (λ (h : result ≡ next).
        let rn : r ≡ next = sym same ∙ h in
        inr (ap (λ (z : Best). z.number) rn ∙ nn, record { target = t; at = ap (λ (z : Best). slice_get targets z.target) rn ∙ ap (slice_get targets) nk ∙ at; one_interval = one; cost = ap (λ (z : Best). z.cost) rn ∙ nc }))
        (λ (h : best ≡ Some result). inl (h ∙ ap Some same))
        ch.from;
    keeps = λ o e. (result, refl, ch.no_dearer_than_best o e);
    covers = λ j c h y.
        let same : y.target ≡ t = same_Some y.target t (sym y.at ∙ ap (slice_get targets) h ∙ at) in
        let cost : c ≡ x.dist + slide g x.place t.0.coord + t.1 = y.cost ∙ ap (λ (z : Stop). x.dist + slide g x.place z.0.coord + z.1) same in
        (result, refl, omega (arith, ch.no_dearer, nc, cost));
  }

  -- the targets of the label's interval are all that its slides lead to
  pub improved_all : (rows : List (List ℕ)) (ks : List ℕ) (i : ℕ) (a b : Option Best) → HoldStops g targets rows → ks ≡ row_at rows x.place.interval.0 → length ks ≤ i → IsImproved g targets x number (IsBefore ks i) a b → IsImproved g targets x number (λ j. j < length targets) a b
  improved_all rows ks i a b hold row w h = record {
    from = h.from;
    keeps = h.keeps;
    covers = λ k c l y.
        let here : Contains (row_at rows y.target.0.interval.0) k = hold.all k y.target y.at in
        let own : Contains ks k = subst (λ (r : List ℕ). Contains r k) (sym row) (subst (λ (n : IntervalNo). Contains (row_at rows n.0) k) (sym y.one_interval) here) in
        h.covers k c (own.0, omega (arith, w, own.1), slice_get_read ks (length ks) own.0 k refl own.1 (sym own.2)) y;
  }

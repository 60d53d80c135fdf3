use Rattle.std.proofs.Common.{◌≡◌, ◌≢◌, ℕ, ◌+◌, ◌*◌, ◌<◌, ◌≤◌, Bool, true, false, sym, refl, ap, ◌∙◌, subst, List, [], length, Option, Some, None, Contains, arith, slice_set, unwrap_or, ⊎_elim}
use Rattle.std.proofs.lemmas.Option.{slice_get_within}
use Rattle.rt_base.specs.declared.walk.Vertex.{Vertex}
use Rattle.rt_base.specs.declared.walk.Edge.{Edge}
use Rattle.least_walk.specs.declared.graph.Stop.{Stop}
use Rattle.least_walk.specs.declared.label.Label.{Label}
use Rattle.least_walk.specs.declared.label.Search.{Search}
use Rattle.least_walk.specs.declared.label.Best.{Best}
use Rattle.least_walk.specs.Known.{number_of}
use Rattle.least_walk.specs.Labels.{label_at, vertex_at, dist_at, key_at, most_cost, AreLabels}
use Rattle.least_walk.specs.Search.{IsSettled, AreFiled, IsFiled, Settles, OnlyQueue, Keeps, AreStarted, AreSound, AreMid, IsSound, IsMid, is_settled_at, open_count}
use Rattle.least_walk.specs.Ends.{IsFinish, IsAtMost, IsBest, IsImproved}
use Rattle.least_walk.proofs.Lists.{get_set_same, same_vertex_at, same_dist_at}
use Rattle.least_walk.proofs.Settling.{settled_cases, settled_stays}
use Rattle.least_walk.proofs.Counting.{settled_number, settled_true, open_less}

module _ (vertices : List Vertex) (HasEdge : Vertex → Edge → ℕ → Type 0) (bound_of : Vertex → ℕ) (sources : List Stop) where
  pub sound_from_start : (ls : List Label) (flags : List Bool) (known : List (Vertex × ℕ)) (q : List (ℕ × ℕ)) → AreStarted vertices HasEdge bound_of sources (length sources) ls flags known q → AreSound vertices HasEdge bound_of sources ls flags known q
  sound_from_start ls flags known q st = record {
    filed = st.filed;
    labels = st.labels;
    sources_in = λ i x h. st.sources_in i x (slice_get_within sources i x h) h;
    edges_in = λ k e c s h. absurd (st.none_settled k s);
  }

  mid_settled : (ls : List Label) (flags : List Bool) (known : List (Vertex × ℕ)) (q r : List (ℕ × ℕ)) (k : ℕ) → AreSound vertices HasEdge bound_of sources ls flags known q → AreFiled ls (slice_set flags k true) known r → k < length flags → ((d j : ℕ) → Contains r (d, j) → key_at ls k ≤ d) → ((j : ℕ) → IsSettled flags j → key_at ls j ≤ key_at ls k) → AreMid vertices HasEdge bound_of sources ls (slice_set flags k true) known r k []
  mid_settled ls flags known q r k sound filed l first top = record {
    filed = filed;
    labels = sound.labels;
    sources_in = sound.sources_in;
    settled = get_set_same flags k true l;
    first = first;
    top = λ j h. ⊎_elim
        (λ (e : j ≡ k). rw e (omega arith))
        (λ (o : (j ≢ k) × IsSettled flags j). top j o.1)
        (settled_cases flags k j h);
    edges_in = λ j e c h n g. ⊎_elim
        (λ (i : j ≡ k). absurd (n i))
        (λ (o : (j ≢ k) × IsSettled flags j). sound.edges_in j e c o.1 g)
        (settled_cases flags k j h);
    done_in = λ e c h g. absurd (omega (arith, h.1));
  }

  pub mid_from_sound : (old new : Search) (k : ℕ) → IsSound vertices HasEdge bound_of sources old → Settles old new k → IsFiled new → IsMid vertices HasEdge bound_of sources new k []
  mid_from_sound old new k sound s filed =
      rw (s.labels, s.settled, s.known)
      (mid_settled old.labels.items old.settled.items old.known old.queue new.queue k sound (rw (s.labels, s.settled, s.known) at filed) (slice_get_within old.settled.items k false s.fresh.1) s.first s.top)

  pub sound_only : (old new : Search) → IsSound vertices HasEdge bound_of sources old → OnlyQueue old new → IsFiled new → IsSound vertices HasEdge bound_of sources new
  sound_only old new sound only filed = rw (only.labels, only.settled, only.known) (with_filed (rw (only.labels, only.settled, only.known) at filed))
    where
      with_filed : AreFiled old.labels.items old.settled.items old.known new.queue → AreSound vertices HasEdge bound_of sources old.labels.items old.settled.items old.known new.queue
      with_filed f = record { filed = f; labels = sound.labels; sources_in = sound.sources_in; edges_in = sound.edges_in }

  -- fewer vertices are open once one is settled
  pub fewer_open : (old new last : Search) (k : ℕ) → IsSound vertices HasEdge bound_of sources old → Settles old new k → IsFiled new → Keeps new last → IsSound vertices HasEdge bound_of sources last → open_count last.settled.items last.known vertices < open_count old.settled.items old.known vertices
  fewer_open old new last k sound s filed keeps sound2 =
      open_less old.settled.items last.settled.items old.known last.known
      (λ v h.
      let o : (n : ℕ) × (number_of old.known v ≡ Some n) × IsSettled old.settled.items n = settled_number old.settled.items (number_of old.known v) h in
      now_true v o.0 (sound.filed.mapped v o.0 o.1).0 (sound.filed.mapped v o.0 o.1).1 (settled_stays old.settled.items k o.0 o.2))
      (vertex_at old.labels.items k) vertices
      (ap (λ (o : Option ℕ). is_settled_at old.settled.items o) s.fresh.0 ∙ ap (λ (o : Option Bool). unwrap_or o false) s.fresh.1)
      (now_true (vertex_at old.labels.items k) k s.in_labels refl (get_set_same old.settled.items k true (slice_get_within old.settled.items k false s.fresh.1)))
      (sound.labels k s.in_labels).within
    where
      now_true : (v : Vertex) (n : ℕ) → n < length old.labels.items → vertex_at old.labels.items n ≡ v → IsSettled (slice_set old.settled.items k true) n → is_settled_at last.settled.items (number_of last.known v) ≡ true
      now_true v n l at h =
          let h1 : IsSettled new.settled.items n = rw s.settled h in
          let l1 : n < length new.labels.items = rw s.labels l in
          let at1 : vertex_at new.labels.items n ≡ v = rw s.labels at in
          settled_true last.labels.items last.settled.items last.known last.queue v n sound2.filed (keeps.stays n h1) (same_vertex_at new.labels.items last.labels.items n (keeps.same n l1) ∙ at1)

pub small_number : (vertices : List Vertex) (HasEdge : Vertex → Edge → ℕ → Type 0) (bound_of : Vertex → ℕ) (sources : List Stop) (ls : List Label) (k : ℕ) → AreLabels vertices HasEdge bound_of sources ls → k < length ls → k ≤ most_cost → dist_at ls k ≤ most_cost * (most_cost + 1)
small_number vertices HasEdge bound_of sources ls k are l small = omega (arith, (are k l).small)

pub best_none : (s : Search) (targets : List Stop) → ((k : ℕ) → IsSettled s.settled.items k → ⊥) → IsBest s targets None
best_none s targets none = record {
  is_finish = λ b e. absurd (clash e);
  least = λ k i t h c at. absurd (none k c);
}
  where
    clash : {b : Best} → None ≡ Some b → ⊥
    clash e = cc

finish_kept : (s t : Search) (targets : List Stop) (b : Best) → length s.labels.items ≤ length t.labels.items → ((k : ℕ) → k < length s.labels.items → label_at t.labels.items k ≡ label_at s.labels.items k) → IsFinish s targets b → IsFinish t targets b
finish_kept s t targets b longer same f = record {
  in_labels = omega (arith, f.in_labels);
  has = f.has;
  at_vertex = f.at_vertex ∙ sym (same_vertex_at s.labels.items t.labels.items b.number (same b.number f.in_labels));
  sum = f.sum ∙ ap (λ n. n + b.target.cost) (sym (same_dist_at s.labels.items t.labels.items b.number (same b.number f.in_labels)));
}

pub best_only : (old new : Search) (targets : List Stop) (best : Option Best) → IsBest old targets best → OnlyQueue old new → IsBest new targets best
best_only old new targets best h only = record {
  is_finish = λ b e. finish_kept old new targets b (rw only.labels (omega arith)) (λ k l. ap (λ (ls : List Label). label_at ls k) only.labels) (h.is_finish b e);
  least = λ k i t g s at. rw only.labels (h.least k i t g (rw only.settled at s) (rw only.labels at at));
}

pub best_improved : (old new last : Search) (targets : List Stop) (k : ℕ) (best result : Option Best) → IsBest old targets best → Settles old new k → IsFiled new → IsImproved new targets k best result → Keeps new last → IsBest last targets result
best_improved old new last targets k best result h s filed imp keeps = record {
  is_finish = λ b e. ⊎_elim
      (λ (i : best ≡ Some b). finish_kept new last targets b keeps.longer keeps.same (finish_kept old new targets b (rw s.labels (omega arith)) (λ j l. ap (λ (ls : List Label). label_at ls j) s.labels) (h.is_finish b i)))
      (λ (f : IsFinish new targets b). finish_kept new last targets b keeps.longer keeps.same f)
      (imp.from b e);
  least = λ j i t g c at.
      let c1 : IsSettled new.settled.items j = keeps.settled j c in
      let l1 : j < length new.labels.items = omega (arith, slice_get_within new.settled.items j true c1, filed.count) in
      let d : dist_at last.labels.items j ≡ dist_at new.labels.items j = same_dist_at new.labels.items last.labels.items j (keeps.same j l1) in
      let at1 : t.entry.vertex ≡ vertex_at new.labels.items j = at ∙ same_vertex_at new.labels.items last.labels.items j (keeps.same j l1) in
      rw d (⊎_elim
      (λ (e : j ≡ k). subst (λ (n : ℕ). IsAtMost result (dist_at new.labels.items n + t.cost)) (sym e) (imp.least i t g (subst (λ (n : ℕ). t.entry.vertex ≡ vertex_at new.labels.items n) e at1)))
      (λ (o : (j ≢ k) × IsSettled old.settled.items j).
      let b : IsAtMost best (dist_at old.labels.items j + t.cost) = h.least j i t g o.1 (rw s.labels at at1) in
      let r : IsAtMost result (b.0).cost = imp.kept b.0 b.1 in
      let dd : dist_at new.labels.items j ≡ dist_at old.labels.items j = ap (λ (ls : List Label). dist_at ls j) s.labels in
      (r.0, r.1, omega (arith, r.2, b.2, dd)))
      (settled_cases old.settled.items k j (rw s.settled at c1)));
}

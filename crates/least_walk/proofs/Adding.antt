use Rattle.std.proofs.Common.{◌≡◌, ◌⊎◌, inl, inr, ℕ, ◌<◌, ◌≤◌, Bool, true, false, sym, ap, ◌∙◌, List, [], ◌∷◌, ◌++◌, length, Some, Contains, arith, slice_get, ⊎_elim}
use Rattle.std.proofs.lemmas.Bool.{cases_lt}
use Rattle.std.proofs.lemmas.Option.{slice_get_within, same_Some}
use Rattle.rt_base.specs.declared.walk.Vertex.{Vertex}
use Rattle.rt_base.specs.declared.walk.Edge.{Edge}
use Rattle.least_walk.specs.declared.graph.Stop.{Stop}
use Rattle.least_walk.specs.declared.label.Label.{Label}
use Rattle.least_walk.specs.declared.label.Origin.{Origin}
use Rattle.least_walk.specs.declared.label.Origin.TheVariants.{Source, After}
use Rattle.least_walk.specs.Known.{number_of, Sets}
use Rattle.least_walk.specs.Queue.{IsWithOneMore}
use Rattle.least_walk.specs.Labels.{label_at, vertex_at, dist_at, key_at, IsOrigin, IsLabel, AreLabels}
use Rattle.least_walk.specs.Search.{IsSettled, IsCovered, AreFiled, Extends}
use Rattle.least_walk.proofs.Lists.{get_left, get_cases, length_more, label_left, label_last, same_vertex_at, same_dist_at, vertex_left, dist_left, key_left, key_last, dist_last}

-- a label keeps its origin when there are more labels
origin_kept : (HasEdge : Vertex → Edge → ℕ → Type 0) (sources : List Stop) (ls ms : List Label) (k : ℕ) → ((j : ℕ) → j < k → label_at ms j ≡ label_at ls j) → (v : Vertex) (d : ℕ) (o : Origin) → IsOrigin HasEdge sources ls k v d o → IsOrigin HasEdge sources ms k v d o
origin_kept HasEdge sources ls ms k same v d (Source i) h = h
origin_kept HasEdge sources ls ms k same v d (After j kind) h = (h.0, h.1, rw (same_vertex_at ls ms j (same j h.1)) h.2, rw (same_dist_at ls ms j (same j h.1)) h.3)

label_kept : (vertices : List Vertex) (HasEdge : Vertex → Edge → ℕ → Type 0) (bound_of : Vertex → ℕ) (sources : List Stop) (ls ms : List Label) (k : ℕ) → ((j : ℕ) → j < k → label_at ms j ≡ label_at ls j) → (x : Label) → IsLabel vertices HasEdge bound_of sources ls k x → IsLabel vertices HasEdge bound_of sources ms k x
label_kept vertices HasEdge bound_of sources ls ms k same x h = record {
  source = origin_kept HasEdge sources ls ms k same x.vertex x.dist x.origin h.source;
  within = h.within;
  is_key = h.is_key;
  small = h.small;
}

pub labels_more : (vertices : List Vertex) (HasEdge : Vertex → Edge → ℕ → Type 0) (bound_of : Vertex → ℕ) (sources : List Stop) (ls : List Label) (x : Label) → AreLabels vertices HasEdge bound_of sources ls → IsLabel vertices HasEdge bound_of sources ls (length ls) x → AreLabels vertices HasEdge bound_of sources (ls ++ x ∷ [])
labels_more vertices HasEdge bound_of sources ls x are new k h = ⊎_elim
    (λ (l : k < length ls). rw (label_left ls x k l) (label_kept vertices HasEdge bound_of sources ls (ls ++ x ∷ []) k (λ j i. label_left ls x j (omega arith)) (label_at ls k) (are k l)))
    (λ (l : length ls ≤ k).
    let i : k ≡ length ls = omega (arith, length_more ls x) in
    rw (i, label_last ls x) (label_kept vertices HasEdge bound_of sources ls (ls ++ x ∷ []) (length ls) (λ j i. label_left ls x j i) x new))
    (cases_lt k (length ls))

module _ (ls : List Label) (flags : List Bool) (x : Label) where
  pub settled_before : (k : ℕ) → IsSettled (flags ++ false ∷ []) k → IsSettled flags k
  settled_before k h = ⊎_elim
      (λ (o : (k < length flags) × (slice_get flags k ≡ Some true)). o.1)
      (λ (o : (k ≡ length flags) × (false ≡ true)). absurd (clash o.1))
      (get_cases flags false true k h)
    where
      clash : false ≡ true → ⊥
      clash e = cc

  pub settled_after : (k : ℕ) → IsSettled flags k → IsSettled (flags ++ false ∷ []) k
  settled_after k h = get_left flags false k (slice_get_within flags k true h) ∙ h

  pub extends_more : Extends ls (ls ++ x ∷ []) flags (flags ++ false ∷ [])
  extends_more = record {
    longer = omega (arith, length_more ls x);
    same = label_left ls x;
    settled = settled_before;
    stays = settled_after;
  }

  module _ (known later : List (Vertex × ℕ)) (q r : List (ℕ × ℕ)) (sets : Sets x.vertex (length ls) known later) (m : IsWithOneMore (x.key, length ls) q r) (filed : AreFiled ls flags known q) where
    -- the new label is the least of its vertex, which isn't settled
    module _ (unsettled : (n : ℕ) → number_of known x.vertex ≡ Some n → IsSettled flags n → ⊥) (above : (j : ℕ) → IsSettled flags j → key_at ls j ≤ x.key) where
      settled_in : (k : ℕ) → IsSettled flags k → k < length ls
      settled_in k h = omega (arith, slice_get_within flags k true h, filed.count)

      pub filed_more : AreFiled (ls ++ x ∷ []) (flags ++ false ∷ []) later r
      filed_more = record {
        count = omega (arith, length_more ls x, length_more flags false, filed.count);
        queued = λ d k h. ⊎_elim
            (λ (i : (d, k) ≡ (x.key, length ls)).
            let ik : k ≡ length ls = ap (λ (p : ℕ × ℕ). p.1) i in
            let id : d ≡ x.key = ap (λ (p : ℕ × ℕ). p.0) i in
            (omega (arith, length_more ls x), id ∙ sym (rw ik (ap (λ (y : Label). y.key) (label_last ls x)))))
            (λ (c : Contains q (d, k)).
            let t : (k < length ls) × (d ≡ key_at ls k) = filed.queued d k c in
            (omega (arith, t.0, length_more ls x), t.1 ∙ sym (ap (λ (y : Label). y.key) (label_left ls x k t.0))))
            (m.only (d, k) h);
        mapped = λ v n h. ⊎_elim
            (λ (e : v ≡ x.vertex).
            let i : n ≡ length ls = same_Some n (length ls) (sym h ∙ ap (number_of later) e ∙ sets.here) in
            (omega (arith, length_more ls x), rw i (ap (λ (y : Label). y.vertex) (label_last ls x)) ∙ sym e, inr (rw (i, key_last ls x) m.has)))
            (λ (e : number_of later v ≡ number_of known v).
            let t : (n < length ls) × (vertex_at ls n ≡ v) × (IsSettled flags n ⊎ Contains q (key_at ls n, n)) = filed.mapped v n (sym e ∙ h) in (
              omega (arith, t.0, length_more ls x),
              ap (λ (y : Label). y.vertex) (label_left ls x n t.0) ∙ t.1,
              ⊎_elim (λ (s : IsSettled flags n). inl (settled_after n s)) (λ (c : Contains q (key_at ls n, n)). inr (rw (key_left ls x n t.0) (m.keeps _ c))) t.2,
            ))
            (sets.apart v);
        kept = λ k h.
            let s : IsSettled flags k = settled_before k h in
            let l : k < length ls = settled_in k s in
            let n : number_of known (vertex_at ls k) ≡ Some k = filed.kept k s in
            rw (vertex_left ls x k l) (⊎_elim
            (λ (e : vertex_at ls k ≡ x.vertex). absurd (unsettled k (ap (number_of known) (sym e) ∙ n) s))
            (λ (e : number_of later (vertex_at ls k) ≡ number_of known (vertex_at ls k)). e ∙ n)
            (sets.apart (vertex_at ls k)));
        ordered = λ j d k h c.
            let s : IsSettled flags j = settled_before j h in
            let l : j < length ls = settled_in j s in
            rw (key_left ls x j l) (⊎_elim
            (λ (i : (d, k) ≡ (x.key, length ls)). let id : d ≡ x.key = ap (λ (p : ℕ × ℕ). p.0) i in rw id (above j s))
            (λ (c : Contains q (d, k)). filed.ordered j d k s c)
            (m.only (d, k) c));
      }

    pub covered_here : IsCovered (ls ++ x ∷ []) later x.vertex x.dist
    covered_here = record {
      number = length ls;
      is_number = sets.here;
      cheap = rw (dist_last ls x) (omega arith);
    }

    -- the new label is as near as what was met there
    pub covered_more : ((n : ℕ) → number_of known x.vertex ≡ Some n → x.dist ≤ dist_at ls n) → (v : Vertex) (c : ℕ) → IsCovered ls known v c → IsCovered (ls ++ x ∷ []) later v c
    covered_more nearer v c h = ⊎_elim
        (λ (e : v ≡ x.vertex). record {
          number = length ls;
          is_number = ap (number_of later) e ∙ sets.here;
          cheap = rw (dist_last ls x) (omega (arith, nearer h.number (ap (number_of known) (sym e) ∙ h.is_number), h.cheap));
        })
        (λ (e : number_of later v ≡ number_of known v). record {
          number = h.number;
          is_number = e ∙ h.is_number;
          cheap = rw (dist_left ls x h.number (filed.mapped v h.number h.is_number).0) h.cheap;
        })
        (sets.apart v)

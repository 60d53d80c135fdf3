use Rattle.std.proofs.Common.{◌≡◌, ◌≢◌, ◌⊎◌, inl, inr, ℕ, ◌<◌, ◌≤◌, Bool, true, false, sym, ap, ◌∙◌, subst, List, length, Some, All, Contains, arith, slice_get, slice_set, get_or, ⊎_elim}
use Rattle.std.proofs.lemmas.Bool.{cases_eq}
use Rattle.std.proofs.lemmas.Option.{slice_get_within, slice_get-get_or}
use Rattle.std.proofs.lemmas.List.{length-set}
use Rattle.std.proofs.lemmas.List.Elements.{All-contains}
use Rattle.rt_base.specs.declared.walk.Vertex.{Vertex}
use Rattle.least_walk.specs.declared.label.Label.{Label}
use Rattle.least_walk.specs.Known.{number_of}
use Rattle.least_walk.specs.Queue.{IsWithOneMore}
use Rattle.least_walk.specs.Labels.{vertex_at, key_at}
use Rattle.least_walk.specs.Search.{IsSettled, IsFresh, AreFiled}
use Rattle.least_walk.proofs.Lists.{get_set_same, get_set_other}
use Rattle.least_walk.proofs.Numbers.{bool_cases}

-- a flag is set or not
pub flag_cases : (flags : List Bool) (k : ℕ) → k < length flags → IsSettled flags k ⊎ (slice_get flags k ≡ Some false)
flag_cases flags k h =
    let e : slice_get flags k ≡ Some (get_or flags k false) = slice_get-get_or flags k false h in
    ⊎_elim (λ (t : get_or flags k false ≡ true). inl (e ∙ ap Some t)) (λ (f : get_or flags k false ≡ false). inr (e ∙ ap Some f)) (bool_cases (get_or flags k false))

-- what is settled once k is
pub settled_cases : (flags : List Bool) (k j : ℕ) → IsSettled (slice_set flags k true) j → (j ≡ k) ⊎ ((j ≢ k) × IsSettled flags j)
settled_cases flags k j h = ⊎_elim (λ (e : j ≡ k). inl e) (λ (n : j ≢ k). inr (n, sym (get_set_other flags k j true n) ∙ h)) (cases_eq j k)

pub settled_stays : (flags : List Bool) (k j : ℕ) → IsSettled flags j → IsSettled (slice_set flags k true) j
settled_stays flags k j h = ⊎_elim
    (λ (e : j ≡ k). rw e (get_set_same flags k true (omega (arith, slice_get_within flags j true h))))
    (λ (n : j ≢ k). get_set_other flags k j true n ∙ h)
    (cases_eq j k)

-- label k was taken out of the queue q, which left r
module _ (ls : List Label) (flags : List Bool) (known : List (Vertex × ℕ)) (q r : List (ℕ × ℕ)) (d k : ℕ) (filed : AreFiled ls flags known q) (m : IsWithOneMore (d, k) r q) where
  pub taken : (k < length ls) × (d ≡ key_at ls k)
  taken = filed.queued d k m.has

  pub filed_stale : (IsFresh ls flags known k → ⊥) → AreFiled ls flags known r
  filed_stale stale = record {
    count = filed.count;
    queued = λ e j c. filed.queued e j (m.keeps (e, j) c);
    mapped = λ v n h.
        let t : (n < length ls) × (vertex_at ls n ≡ v) × (IsSettled flags n ⊎ Contains q (key_at ls n, n)) = filed.mapped v n h in (
          t.0,
          t.1,
          ⊎_elim
              (λ (s : IsSettled flags n). inl s)
              (λ (c : Contains q (key_at ls n, n)). ⊎_elim
              (λ (i : (key_at ls n, n) ≡ (d, k)).
              let ik : n ≡ k = ap (λ (p : ℕ × ℕ). p.1) i in
              ⊎_elim (λ (s : IsSettled flags n). inl s)
              (λ (f : slice_get flags n ≡ Some false). absurd (stale (subst (λ (j : ℕ). IsFresh ls flags known j) ik (ap (number_of known) t.1 ∙ h, f))))
              (flag_cases flags n (omega (arith, t.0, filed.count))))
              (λ (c : Contains r (key_at ls n, n)). inr c)
              (m.only _ c))
              t.2,
        );
    kept = filed.kept;
    ordered = λ j e i s c. filed.ordered j e i s (m.keeps (e, i) c);
  }

  module _ (fresh : IsFresh ls flags known k) (least : All (λ (f : ℕ × ℕ). d ≤ f.0) r) where
    pub first : (e j : ℕ) → Contains r (e, j) → key_at ls k ≤ e
    first e j c = omega (arith, taken.1, All-contains (λ (f : ℕ × ℕ). d ≤ f.0) r (e, j) least c)

    pub top : (j : ℕ) → IsSettled flags j → key_at ls j ≤ key_at ls k
    top j s = omega (arith, taken.1, filed.ordered j d k s m.has)

    in_flags : k < length flags
    in_flags = omega (arith, taken.0, filed.count)

    pub filed_settled : AreFiled ls (slice_set flags k true) known r
    filed_settled = record {
      count = omega (arith, length-set flags k true, filed.count);
      queued = λ e j c. filed.queued e j (m.keeps (e, j) c);
      mapped = λ v n h.
          let t : (n < length ls) × (vertex_at ls n ≡ v) × (IsSettled flags n ⊎ Contains q (key_at ls n, n)) = filed.mapped v n h in (
            t.0,
            t.1,
            ⊎_elim
                (λ (s : IsSettled flags n). inl (settled_stays flags k n s))
                (λ (c : Contains q (key_at ls n, n)). ⊎_elim
                (λ (i : (key_at ls n, n) ≡ (d, k)).
                let ik : n ≡ k = ap (λ (p : ℕ × ℕ). p.1) i in
                inl (rw ik (get_set_same flags k true in_flags)))
                (λ (c : Contains r (key_at ls n, n)). inr c)
                (m.only _ c))
                t.2,
          );
      kept = λ j h. ⊎_elim (λ (e : j ≡ k). rw e fresh.0) (λ (o : (j ≢ k) × IsSettled flags j). filed.kept j o.1) (settled_cases flags k j h);
      ordered = λ j e i h c. ⊎_elim (λ (w : j ≡ k). rw w (first e i c)) (λ (o : (j ≢ k) × IsSettled flags j). filed.ordered j e i o.1 (m.keeps (e, i) c)) (settled_cases flags k j h);
    }

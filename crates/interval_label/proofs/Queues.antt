use Rattle.std.proofs.Common.{◌≡◌, inl, inr, ℕ, sym, subst, ◌∷◌, Contains, IsPermutation, ⊎_elim}
use Rattle.std.proofs.lemmas.List.Sorted.{Contains-permutation, IsPermutation-sym}
use Rattle.label_arena.specs.declared.place.Place.{Place}
use Rattle.label_arena.specs.declared.place.Label.{Label}
use Rattle.interval_label.specs.Queue.{Queued, IsWithOneMore, IsWaiting, Gains, Loses}
use Rattle.interval_label.proofs.Members.{contains_cons, contains_first, contains_rest}

pub more_from_push : (e : ℕ × Label) (old new : Queued) → IsPermutation (e ∷ old) new → IsWithOneMore e old new
more_from_push e old new h = record {
  has = Contains-permutation _ _ e h (contains_first e old);
  keeps = λ f c. Contains-permutation _ _ f h (contains_rest e old f c);
  only = λ f c. contains_cons e old f (Contains-permutation _ _ f (IsPermutation-sym _ _ h) c);
}

pub more_from_pop : (e : ℕ × Label) (new old : Queued) → IsPermutation old (e ∷ new) → IsWithOneMore e new old
more_from_pop e new old h = more_from_push e new old (IsPermutation-sym _ _ h)

pub waiting_kept : (q r : Queued) → ((f : ℕ × Label) → Contains q f → Contains r f) → (v : Place) (c : ℕ) → IsWaiting q v c → IsWaiting r v c
waiting_kept q r keeps v c w = record { key = w.key; candidate = w.candidate; queued = keeps (w.key, w.candidate) w.queued; place = w.place; cheap = w.cheap }

pub gains_none : (P : ℕ → Label → Type 0) (q : Queued) → Gains P q q
gains_none P q = record { keeps = λ f h. h; only = λ d y h. inl h }

pub gains_more : (P : ℕ → Label → Type 0) (q r s : Queued) → Gains P q r → Gains P r s → Gains P q s
gains_more P q r s a b = record {
  keeps = λ f h. b.keeps f (a.keeps f h);
  only = λ d y h. ⊎_elim (λ (o : Contains r (d, y)). a.only d y o) (λ (p : P d y). inr p) (b.only d y h);
}

pub gains_one : (P : ℕ → Label → Type 0) (q r : Queued) (d : ℕ) (x : Label) → IsWithOneMore (d, x) q r → P d x → Gains P q r
gains_one P q r d x m p = record {
  keeps = m.keeps;
  only = λ e y h. ⊎_elim
      (λ (o : (e, y) ≡ (d, x)). inr (subst (λ (f : ℕ × Label). P f.0 f.1) (sym o) p))
      (λ (o : Contains q (e, y)). inl o)
      (m.only (e, y) h);
}

pub loses_none : (P : Label → Type 0) (q : Queued) → Loses P q q
loses_none P q = record { only = λ f h. h; kept = λ d y h. inl h }

-- one more is lost
pub loses_one : (P : Label → Type 0) (q r s : Queued) (d : ℕ) (x : Label) → Loses P q r → IsWithOneMore (d, x) s r → P x → Loses P q s
loses_one P q r s d x l m p = record {
  only = λ f h. l.only f (m.keeps f h);
  kept = λ e y h. ⊎_elim
      (λ (o : Contains r (e, y)). ⊎_elim
      (λ (same : (e, y) ≡ (d, x)). inr (subst (λ (f : ℕ × Label). P f.1) (sym same) p))
      (λ (k : Contains s (e, y)). inl k)
      (m.only (e, y) o))
      (λ (o : P y). inr o)
      (l.kept e y h);
}

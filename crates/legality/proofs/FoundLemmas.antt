-- Spans that are collected, step by step.
use Rattle.std.proofs.Common.{◌≡◌, ◌∙◌, ◌↔◌, ◌⊎◌, inl, inr, ℕ, ◌+◌, ◌^◌, ◌<◌, ◌≤◌, ℤ, pos, ◌≤ℤ◌, ◌<ℤ◌, Bool, true, false, ◌||◌, List, [], ◌∷◌, ◌++◌, length, get_or, take, Result, Ok, Err, OnOk, refl, sym, ap, subst, arith}
use Rattle.std.specs.List.{list_any}
use Rattle.std.proofs.lemmas.List.{take_all}
use Rattle.std.proofs.lemmas.List.Elements.{All-push}
use Rattle.std.proofs.lemmas.List.Folds.{list_any_more}
use Rattle.rt_base.specs.declared.geometry.Span.{Span}
use Rattle.regions.specs.Spans.{InSpan, InSpans}
use Rattle.regions.proofs.Lists.{any_push}
use Rattle.rt_base.proofs.Lists.{Any-none}
use Rattle.legality.specs.Forbidden.{IsSpanOf}
use Rattle.legality.specs.Found.{AreFit, Adds}

-- the same test, said in another way
pub adds_same : (p q : ℤ → Bool) (old new : List Span) → ((z : ℤ) → p z ≡ q z) → Adds p old new → Adds q old new
adds_same p q old new same h = record {
  fit = h.fit;
  exact = λ z. subst (λ (b : Bool). InSpans new z ↔ (InSpans old z ⊎ (b ≡ true))) (same z) (h.exact z);
}

-- nothing is added
pub adds_none : (p : ℤ → Bool) (old new : List Span) → new ≡ old → ((z : ℤ) → p z ≡ false) → Adds p old new
adds_none p old new is none = subst (λ (l : List Span). Adds p old l) (sym is) (record { fit = λ h. h; exact = λ z. (λ h. inl h, λ h. back z h) })
  where
    back : (z : ℤ) → InSpans old z ⊎ (p z ≡ true) → InSpans old z
    back z (inl h) = h
    back z (inr t) = let e : true ≡ false = sym t ∙ none z in absurd (cc)

-- a span is added
pub adds_one : (p : ℤ → Bool) (old new : List Span) (s : Span) → new ≡ old ++ s ∷ [] → s.hi <ℤ pos (2 ^ 62) → IsSpanOf p s → Adds p old new
adds_one p old new s is small h = subst (λ (l : List Span). Adds p old l) (sym is) (record {
  fit = λ fit. All-push (λ (t : Span). (t.lo ≤ℤ t.hi) × (t.hi <ℤ pos (2 ^ 62))) old s fit (h.full, small);
  exact = λ z. (λ j. to z ((any_push (λ (t : Span). InSpan t z) old s).0 j), λ j. (any_push (λ (t : Span). InSpan t z) old s).1 (from z j));
})
  where
    to : (z : ℤ) → InSpans old z ⊎ InSpan s z → InSpans old z ⊎ (p z ≡ true)
    to z (inl j) = inl j
    to z (inr j) = inr ((h.exact z).0 j)

    from : (z : ℤ) → InSpans old z ⊎ (p z ≡ true) → InSpans old z ⊎ InSpan s z
    from z (inl j) = inl j
    from z (inr t) = inr ((h.exact z).1 t)

-- first those of one test, then those of another
pub adds_both : (p q : ℤ → Bool) (old mid new : List Span) → Adds p old mid → Adds q mid new → Adds (λ z. p z || q z) old new
adds_both p q old mid new h k = record { fit = λ fit. k.fit (h.fit fit); exact = λ z. (λ j. to z ((k.exact z).0 j), λ j. (k.exact z).1 (from z j)) }
  where
    either : (a b : Bool) → (a ≡ true) ⊎ (b ≡ true) → (a || b) ≡ true
    either true b h = refl
    either false b (inl h) = absurd (cc)
    either false b (inr h) = h

    parts : (a b : Bool) → (a || b) ≡ true → (a ≡ true) ⊎ (b ≡ true)
    parts true b h = inl refl
    parts false b h = inr h

    first : (z : ℤ) → InSpans old z ⊎ (p z ≡ true) → InSpans old z ⊎ ((p z || q z) ≡ true)
    first z (inl j) = inl j
    first z (inr t) = inr (either (p z) (q z) (inl t))

    to : (z : ℤ) → InSpans mid z ⊎ (q z ≡ true) → InSpans old z ⊎ ((p z || q z) ≡ true)
    to z (inl j) = first z ((h.exact z).0 j)
    to z (inr t) = inr (either (p z) (q z) (inr t))

    second : (z : ℤ) → (p z ≡ true) ⊎ (q z ≡ true) → InSpans mid z ⊎ (q z ≡ true)
    second z (inl t) = inl ((h.exact z).1 (inr t))
    second z (inr t) = inr t

    from : (z : ℤ) → InSpans old z ⊎ ((p z || q z) ≡ true) → InSpans mid z ⊎ (q z ≡ true)
    from z (inl j) = inl ((h.exact z).1 (inl j))
    from z (inr t) = second z (parts (p z) (q z) t)

-- those of one item more
pub adds_more : {X : Type 0} (test : X → ℤ → Bool) (xs : List X) (i : ℕ) (x : X) (old mid new : List Span) → i < length xs → x ≡ get_or xs i x → Adds (λ z. list_any (λ y. test y z) (take i xs)) old mid → Adds (test x) mid new → Adds (λ z. list_any (λ y. test y z) (take (i + 1) xs)) old new
adds_more test xs i x old mid new less is h k =
    adds_same (λ z. list_any (λ y. test y z) (take i xs) || test x z) (λ z. list_any (λ y. test y z) (take (i + 1) xs)) old new
    (λ z. ap (λ y. list_any (λ w. test w z) (take i xs) || test y z) is ∙ sym (list_any_more (λ y. test y z) xs i x less))
    (adds_both (λ z. list_any (λ y. test y z) (take i xs)) (test x) old mid new h k)

-- those of all items
pub adds_all : {X : Type 0} (test : X → ℤ → Bool) (xs : List X) (i : ℕ) (old new : List Span) → length xs ≤ i → Adds (λ z. list_any (λ y. test y z) (take i xs)) old new → Adds (λ z. list_any (λ y. test y z) xs) old new
adds_all test xs i old new past h = subst (λ l. Adds (λ z. list_any (λ y. test y z) l) old new) (take_all i xs past) h

pub adds_nothing : {X : Type 0} (test : X → ℤ → Bool) (xs : List X) (old : List Span) → Adds (λ z. list_any (λ y. test y z) (take 0 xs)) old old
adds_nothing test xs old = record { fit = λ h. h; exact = λ z. (λ h. inl h, λ h. back z h) }
  where
    back : (z : ℤ) → InSpans old z ⊎ (false ≡ true) → InSpans old z
    back z (inl h) = h
    back z (inr t) = absurd (cc)

-- the same test, where there is an answer
pub on_ok_same : {A E : Type 0} (r : Result A E) (p q : ℤ → Bool) (old new : List Span) → ((z : ℤ) → p z ≡ q z) → OnOk r (Adds p old new) → OnOk r (Adds q old new)
on_ok_same (Ok a) p q old new same h = adds_same p q old new same h
on_ok_same (Err e) p q old new same h = tt

-- added to nothing
pub from_nothing : (p : ℤ → Bool) (old new : List Span) → old ≡ [] → Adds p old new → (z : ℤ) → InSpans new z ↔ (p z ≡ true)
from_nothing p old new none h z = (λ i. to ((h.exact z).0 i), λ t. (h.exact z).1 (inr t))
  where
    to : InSpans old z ⊎ (p z ≡ true) → p z ≡ true
    to (inl i) = absurd (Any-none (λ (s : Span). InSpan s z) (subst (λ (l : List Span). InSpans l z) none i))
    to (inr t) = t

pub fit_from_nothing : (p : ℤ → Bool) (old new : List Span) → old ≡ [] → Adds p old new → AreFit new
fit_from_nothing p old new none h = h.fit (subst AreFit (sym none) (λ k d lt. absurd (omega (arith, lt))))

-- tests that agree
pub any_same : {X : Type 0} (p q : X → Bool) (xs : List X) → ((x : X) → p x ≡ q x) → list_any p xs ≡ list_any q xs
any_same p q [] same = refl
any_same p q (x ∷ xs) same = ap (λ (b : Bool). b || list_any p xs) (same x) ∙ ap (λ (b : Bool). q x || b) (any_same p q xs same)

-- Spans that are joined.
use Rattle.std.proofs.Common.{◌≡◌, ◌⊎◌, ◌↔◌, ℕ, ◌+◌, ◌<◌, ◌≤◌, ℤ, pos, ◌+ℤ◌, ◌≤ℤ◌, ◌<ℤ◌, List, [], ◌∷◌, ◌++◌, length, get_or, take, drop, ◌-◌, All, AllPairs, inl, inr, sym, ap, subst, arith}
use Rattle.std.specs.Ordering.{int_cmp, is_lt}
use Rattle.std.specs.List.Sorted.{IsSortedByKey, IsPermutation}
use Rattle.std.proofs.lemmas.Cmp.{int_cmp_total}
use Rattle.std.proofs.lemmas.Int.{ints, clamps, by_lt_z}
use Rattle.std.proofs.lemmas.Bool.{cases_lt}
use Rattle.std.proofs.lemmas.List.{take_all, get_or_push, get_or_append_left, length_push}
use Rattle.std.proofs.lemmas.List.Elements.{All-push, Contains-get_or}
use Rattle.std.proofs.lemmas.List.Quantifiers.{all_pairs_push}
use Rattle.std.proofs.lemmas.List.Sorted.{ranks_by, sorted_far, IsPermutation-sym}
use Rattle.rt_base.proofs.Lists.{at_most_from_cmp}
use Rattle.rt_base.specs.declared.geometry.Span.{Span}
use Rattle.regions.specs.Spans.{InSpan, InSpans, AreFull, AreApart, AreSpansOf, both}
use Rattle.regions.proofs.Lists.{next, any_push, any_moved, all_parts, pairs_parts}

abbrev IsFull : Span → Type 0
IsFull s = s.lo ≤ℤ s.hi

abbrev IsBelow : Span → Span → Type 0
IsBelow s t = (s.hi +ℤ pos 1) <ℤ t.lo

-- the same numbers, said in another way
pub spans_same : (P Q : ℤ → Type 0) (spans : List Span) → ((z : ℤ) → P z ↔ Q z) → AreSpansOf P spans → AreSpansOf Q spans
spans_same P Q spans same h = record {
  full = h.full;
  apart = h.apart;
  exact = λ z. (λ s. (same z).0 ((h.exact z).0 s), λ q. (h.exact z).1 ((same z).1 q));
}

pub one_span : (s : Span) → IsFull s → AreSpansOf (InSpans (s ∷ [])) (s ∷ [])
one_span s full = record {
  full = All-push IsFull [] s (λ k d lt. absurd (omega arith)) full;
  apart = λ i j d lt within. absurd (omega arith);
  exact = λ z. (λ h. h, λ h. h);
}

both_in : (s t : Span) (z : ℤ) → t.lo ≤ℤ (s.hi +ℤ pos 1) → InSpan (both s t) z → InSpan s z ⊎ InSpan t z
both_in s t z touch h =
    by_lt_z s.hi z
    (λ above. inr (omega (arith, ints), omega (arith, ints, clamps, h.1)))
    (λ below. inl (h.0, below))

both_has : (s t : Span) (z : ℤ) → s.lo ≤ℤ t.lo → InSpan s z ⊎ InSpan t z → InSpan (both s t) z
both_has s t z rising (inl h) = (h.0, omega (arith, ints, clamps, h.1))
both_has s t z rising (inr h) = (omega (arith, ints, h.0), omega (arith, ints, clamps, h.1))

in_either : (done : List Span) (s : Span) (z : ℤ) → InSpans (done ++ s ∷ []) z ↔ (InSpans done z ⊎ InSpan s z)
in_either done s z = any_push (λ (t : Span). InSpan t z) done s

-- the last of these spans and one that overlaps or touches it, as one
pub join_both : (done : List Span) (s t : Span) (P : ℤ → Type 0) → AreSpansOf P (done ++ s ∷ []) → s.lo ≤ℤ t.lo → t.lo ≤ℤ (s.hi +ℤ pos 1) → AreSpansOf (λ z. P z ⊎ InSpan t z) (done ++ both s t ∷ [])
join_both done s t P h rising touch =
    let fulls = all_parts IsFull done s h.full in
    let aparts = pairs_parts IsBelow done s h.apart in
    record {
      full = All-push IsFull done (both s t) fulls.0 (omega (arith, ints, clamps, fulls.1));
      apart = all_pairs_push IsBelow done (both s t) aparts.0 aparts.1;
      exact = λ z. (λ j. to z ((in_either done (both s t) z).0 j), λ j. (in_either done (both s t) z).1 (from z j));
    }
  where
    part : (z : ℤ) → InSpan s z ⊎ InSpan t z → P z ⊎ InSpan t z
    part z (inl a) = inl ((h.exact z).0 ((in_either done s z).1 (inr a)))
    part z (inr b) = inr b

    to : (z : ℤ) → InSpans done z ⊎ InSpan (both s t) z → P z ⊎ InSpan t z
    to z (inl early) = inl ((h.exact z).0 ((in_either done s z).1 (inl early)))
    to z (inr j) = part z (both_in s t z touch j)

    back : (z : ℤ) → InSpans done z ⊎ InSpan s z → InSpans done z ⊎ InSpan (both s t) z
    back z (inl early) = inl early
    back z (inr a) = inr (both_has s t z rising (inl a))

    from : (z : ℤ) → P z ⊎ InSpan t z → InSpans done z ⊎ InSpan (both s t) z
    from z (inl p) = back z ((in_either done s z).0 ((h.exact z).1 p))
    from z (inr b) = inr (both_has s t z rising (inr b))

-- no span of these reaches higher than the last
last_highest : (done : List Span) (s : Span) → AreFull (done ++ s ∷ []) → AreApart (done ++ s ∷ []) → (k : ℕ) (d : Span) → k < length (done ++ s ∷ []) → (get_or (done ++ s ∷ []) k d).hi ≤ℤ s.hi
last_highest done s full apart k d lt =
    elim (cases_lt k (length done)) [
      | inl early ↦
          let at = get_or_append_left done (s ∷ []) d k early in
          let below : IsBelow (get_or done k d) s = (pairs_parts IsBelow done s apart).1 k d early in
          let ok : IsFull s = (all_parts IsFull done s full).1 in
          rw at (omega (arith, ints))
      | inr late ↦
          let e : length done ≡ k = omega (arith, length_push done s) in
          rw (get_or_push done s d k e) (omega (arith, ints))
    ]

-- one more span behind a gap
pub join_gap : (done : List Span) (s t : Span) (P : ℤ → Type 0) → AreSpansOf P (done ++ s ∷ []) → IsBelow s t → IsFull t → AreSpansOf (λ z. P z ⊎ InSpan t z) ((done ++ s ∷ []) ++ t ∷ [])
join_gap done s t P h gap full =
    record {
      full = All-push IsFull (done ++ s ∷ []) t h.full full;
      apart = all_pairs_push IsBelow (done ++ s ∷ []) t h.apart (λ k d lt. let high = last_highest done s h.full h.apart k d lt in omega (arith, ints));
      exact = λ z. (λ j. to z ((in_either (done ++ s ∷ []) t z).0 j), λ j. (in_either (done ++ s ∷ []) t z).1 (from z j));
    }
  where
    to : (z : ℤ) → InSpans (done ++ s ∷ []) z ⊎ InSpan t z → P z ⊎ InSpan t z
    to z (inl early) = inl ((h.exact z).0 early)
    to z (inr b) = inr b

    from : (z : ℤ) → P z ⊎ InSpan t z → InSpans (done ++ s ∷ []) z ⊎ InSpan t z
    from z (inl p) = inl ((h.exact z).1 p)
    from z (inr b) = inr b

-- one more span of a list
pub spans_more : (first : Span) (rest : List Span) (i : ℕ) (t : Span) (spans : List Span) → i < length rest → t ≡ get_or rest i t → AreSpansOf (λ z. InSpans (first ∷ take i rest) z ⊎ InSpan t z) spans → AreSpansOf (InSpans (first ∷ take (i + 1) rest)) spans
spans_more first rest i t spans within at h =
    let e : first ∷ take (i + 1) rest ≡ (first ∷ take i rest) ++ t ∷ [] = ap (λ (xs : List Span). first ∷ xs) (next rest i t within at) in
    spans_same (λ z. InSpans (first ∷ take i rest) z ⊎ InSpan t z) (InSpans (first ∷ take (i + 1) rest)) spans
    (λ z. subst (λ (xs : List Span). (InSpans (first ∷ take i rest) z ⊎ InSpan t z) ↔ InSpans xs z) (sym e) (let both_ways = in_either (first ∷ take i rest) t z in (both_ways.1, both_ways.0))) h

pub rising_sorted : (spans : List Span) → IsSortedByKey (λ (s : Span). s.lo) int_cmp spans → AllPairs (λ (s t : Span). s.lo ≤ℤ t.lo) spans
rising_sorted spans up i j d lt h = at_most_from_cmp (get_or spans i d).lo (get_or spans j d).lo (sorted_far (λ (s t : Span). is_lt (int_cmp s.lo t.lo)) (ranks_by int_cmp_total (λ (s : Span). s.lo)) spans up i j d (omega arith) h)

-- the same spans in another order
pub spans_moved : (spans moved joined : List Span) → IsPermutation spans moved → AreSpansOf (InSpans moved) joined → AreSpansOf (InSpans spans) joined
spans_moved spans moved joined order h =
    spans_same (InSpans moved) (InSpans spans) joined
    (λ z. (any_moved (λ (s : Span). InSpan s z) moved spans (IsPermutation-sym spans moved order), any_moved (λ (s : Span). InSpan s z) spans moved order)) h

-- the ends of spans lie in them
pub ends_in : (P : ℤ → Type 0) (spans : List Span) → AreFull spans → ((z : ℤ) → InSpans spans z → P z) → All (λ (s : Span). P s.lo × P s.hi) spans
ends_in P spans full inside k d lt =
    let s = get_or spans k d in
    let here = Contains-get_or spans k d lt in
    let ok : s.lo ≤ℤ s.hi = full k d lt in
    (inside s.lo (here.0, s, here.1, here.2, (omega (arith, ints), ok)), inside s.hi (here.0, s, here.1, here.2, (ok, omega (arith, ints))))

-- the first of some spans and the others
pub first_and_rest : (spans : List Span) (d : Span) → 1 ≤ length spans → get_or spans 0 d ∷ take (length spans - 1) (drop 1 spans) ≡ spans
first_and_rest [] d some = absurd (omega (arith, some))
first_and_rest (s ∷ rest) d some = let e : length (s ∷ rest) - 1 ≡ length rest = omega arith in rw e (ap (λ (xs : List Span). s ∷ xs) (take_all (length rest) rest (omega arith)))

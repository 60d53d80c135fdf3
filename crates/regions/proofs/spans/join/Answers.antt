use Rattle.std.proofs.Common.{◌≡◌, ◌∙◌, ◌^◌, ◌+◌, suc, pos, ◌≤ℤ◌, ◌<ℤ◌, List, [], ◌∷◌, ◌++◌, get_or, take, sym, subst, ap, arith, Vec, Global}
use Rattle.std.proofs.lemmas.Int.{ints, clamps}
use Rattle.std.proofs.lemmas.List.{take_all, get_or_default}
use Rattle.rt_base.specs.declared.geometry.Span.{Span}
use Rattle.regions.specs.Spans.{InSpans, AreSpansOf, both}
use Rattle.regions.proofs.SpanLemmas.{one_span, join_both, join_gap, spans_more}
use Rattle.regions.proofs.spans.join.Goals.{in-Some, in-None+in_ok-push-in-None}
use Rattle.regions.proofs.spans.join.Goals as goal

pub loop-span-init : goal.loop-span-init
loop-span-init c = record {
  spans = subst (λ (xs : List Span). AreSpansOf (InSpans (c.args.first ∷ [])) (xs ++ c.args.first ∷ [])) (sym c.new-maximal.ensures.items) (one_span c.args.first (c.requires.full 0 c.args.first (omega arith)));
  rising = λ k d from lt. c.requires.rising 0 (suc k) d (omega arith) (omega (arith, lt));
  small = c.requires.small 0 c.args.first (omega arith);
}

pub loop-span-preserved : goal.loop-span-preserved
loop-span-preserved c =
    let first = c.args.first in
    let rest = c.args.rest.now in
    let i = c.loop-span.span-index in
    let done = c.loop-span.maximal.items in
    let last = c.loop-span.last in
    let none : Span = record { lo = pos 0; hi = pos 0 } in
    let t : Span = get_or rest i none in
    let at : t ≡ get_or rest i t = get_or_default rest i none t c.loop-span-test.true in
    let small : t.hi <ℤ pos (2 ^ 62) = c.requires.small (suc i) none (omega (arith, c.loop-span-test.true)) in
    let full : t.lo ≤ℤ t.hi = c.requires.full (suc i) none (omega (arith, c.loop-span-test.true)) in
    let rising : last.lo ≤ℤ t.lo = c.loop-span.invariant.rising i none (omega arith) c.loop-span-test.true in
    let was = c.loop-span.invariant in
    elim c.match-joined.branch [
      | in-Some w ↦
          let is : c.match-joined.last ≡ both last t = w.last-is ∙ w.in-Some.ensures.some.0 in
          let items = ap (λ (v : Vec Span Global). v.items) w.maximal-is in
          record {
            spans = subst (λ (xs : List Span). AreSpansOf (InSpans (first ∷ take (i + 1) rest)) (xs ++ c.match-joined.last ∷ [])) (sym items)
                (subst (λ (l : Span). AreSpansOf (InSpans (first ∷ take (i + 1) rest)) (done ++ l ∷ [])) (sym is)
                (spans_more first rest i t (done ++ both last t ∷ []) c.loop-span-test.true at (join_both done last t (InSpans (first ∷ take i rest)) was.spans rising w.in-Some.ensures.some.1)));
            rising = λ k d from lt. subst (λ (l : Span). l.lo ≤ℤ (get_or rest k d).lo) (sym is) (was.rising k d (omega (arith, from)) lt);
            small = subst (λ (l : Span). l.hi <ℤ pos (2 ^ 62)) (sym is) (omega (arith, ints, clamps, small, was.small));
          }
      | in-None+in_ok-push-in-None w ↦
          let is : c.match-joined.last ≡ t = w.last-is in
          let items = ap (λ (v : Vec Span Global). v.items) w.maximal-is ∙ w.in_ok-push-in-None.ensures.items in
          record {
            spans = subst (λ (xs : List Span). AreSpansOf (InSpans (first ∷ take (i + 1) rest)) (xs ++ c.match-joined.last ∷ [])) (sym items)
                (subst (λ (l : Span). AreSpansOf (InSpans (first ∷ take (i + 1) rest)) ((done ++ last ∷ []) ++ l ∷ [])) (sym is)
                (spans_more first rest i t ((done ++ last ∷ []) ++ t ∷ []) c.loop-span-test.true at (join_gap done last t (InSpans (first ∷ take i rest)) was.spans w.in-None.ensures.none full)));
            rising = λ k d from lt.
                subst (λ (l : Span). l.lo ≤ℤ (get_or rest k d).lo) (sym (is ∙ get_or_default rest i none d c.loop-span-test.true)) (c.requires.rising (suc i) (suc k) d (omega (arith, from)) (omega (arith, lt)));
            small = subst (λ (l : Span). l.hi <ℤ pos (2 ^ 62)) (sym is) small;
          }
    ]

pub returns : goal.returns
returns c =
    subst (AreSpansOf (InSpans (c.args.first ∷ c.args.rest.now))) (sym c.in_ok-push.ensures.items)
    (subst (λ (xs : List Span). AreSpansOf (InSpans (c.args.first ∷ xs)) (c.loop-span.maximal.items ++ c.loop-span.last ∷ [])) (take_all c.loop-span.span-index c.args.rest.now c.loop-span-test.false) c.loop-span.invariant.spans)

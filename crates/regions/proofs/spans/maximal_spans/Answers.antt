use Rattle.std.proofs.Common.{◌≡◌, ◌∙◌, ◌^◌, pos, ◌≤ℤ◌, ◌<ℤ◌, ◌∷◌, List, All, AllPairs, length, ◌-◌, take, drop, get_or, Vec, Global, sym, subst, rules}
use Rattle.std.proofs.lemmas.List.Sorted.{answers_always, All-permutation}
use Rattle.std.proofs.lemmas.Result.{IfOk-weaker}
use Rattle.rt_base.specs.declared.geometry.Span.{Span}
use Rattle.regions.specs.Spans.{InSpans, AreFull, AreSpansOf}
use Rattle.regions.proofs.SpanLemmas.{first_and_rest, rising_sorted, spans_moved}
use Rattle.regions.proofs.spans.maximal_spans.Goals as goal

whole : (c : goal.After-join-arg-1) → get_or c.as_slice.result.now 0 (record { lo = pos 0; hi = pos 0 }) ∷ take (length c.as_slice.result.now - 1) (drop 1 c.as_slice.result.now) ≡ c.sort_unstable_by_key.new.self.items
whole c = first_and_rest c.as_slice.result.now (record { lo = pos 0; hi = pos 0 }) c.in-len1-up.len_at_least ∙ c.as_slice.ensures.value

pub join-requires : goal.join-requires
join-requires c =
    let sorted = c.sort_unstable_by_key.new.self.items in
    let moved = c.sort_unstable_by_key.ensures.permutation in
    record {
      rising = subst (AllPairs (λ (s t : Span). s.lo ≤ℤ t.lo)) (sym (whole c)) (rising_sorted sorted (c.sort_unstable_by_key.ensures.sorted (λ (s : Span). s.lo) (answers_always _ _ _ (λ f a r g h. search rules))));
      full = subst AreFull (sym (whole c)) (All-permutation (λ (s : Span). s.lo ≤ℤ s.hi) c.args.spans.items sorted moved c.requires.full);
      small = subst (All (λ (s : Span). s.hi <ℤ pos (2 ^ 62))) (sym (whole c)) (All-permutation (λ (s : Span). s.hi <ℤ pos (2 ^ 62)) c.args.spans.items sorted moved c.requires.small);
    }

pub returns-in-len1-up : goal.returns-in-len1-up
returns-in-len1-up c =
    let none : Span = record { lo = pos 0; hi = pos 0 } in
    let some = c.as_slice.result.now in
    let sorted = c.sort_unstable_by_key.new.self.items in
    let is = first_and_rest some none c.in-len1-up.len_at_least ∙ c.as_slice.ensures.value in
    IfOk-weaker c.join.result (λ (v : Vec Span Global). AreSpansOf (InSpans (get_or some 0 none ∷ take (length some - 1) (drop 1 some))) v.items) (λ (v : Vec Span Global). AreSpansOf (InSpans c.args.spans.items) v.items)
    (λ v h. spans_moved c.args.spans.items sorted v.items c.sort_unstable_by_key.ensures.permutation (subst (λ (xs : List Span). AreSpansOf (InSpans xs) v.items) is h))
    c.join.ensures

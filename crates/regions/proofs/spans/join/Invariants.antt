use Rattle.std.proofs.Common.{ℕ, ◌^◌, ◌<◌, ◌≤◌, pos, ◌≤ℤ◌, ◌<ℤ◌, [], ◌∷◌, ◌++◌, length, get_or, take}
use Rattle.rt_base.specs.declared.geometry.Span.{Span}
use Rattle.regions.specs.Spans.{InSpans, AreSpansOf}
use Rattle.regions.proofs.spans.join.Given as goal

abbrev pub invariant-loop-span : goal.invariant-loop-span
invariant-loop-span l = record {
  spans : AreSpansOf (InSpans (l.fn.first ∷ take l.span-index l.rest)) (l.maximal.items ++ l.last ∷ []);
  rising : (k : ℕ) (d : Span) → l.span-index ≤ k → k < length l.rest → l.last.lo ≤ℤ (get_or l.rest k d).lo;
  small : l.last.hi <ℤ pos (2 ^ 62);
}

use Rattle.std.proofs.Common.{arith}
use Rattle.least_walk.proofs.Settling.{filed_stale, filed_settled, taken, first, top}
use Rattle.least_walk.proofs.label.Search.settle_next.Goals as goal

pub is_fresh-requires-clause-labels : goal.is_fresh-requires-clause-labels
is_fresh-requires-clause-labels c = (taken _ _ _ _ _ _ _ c.loop-number.invariant.filed c.in_ok-number.ensures.some).0

pub is_fresh-requires-clause-flags : goal.is_fresh-requires-clause-flags
is_fresh-requires-clause-flags c = omega (arith, (taken _ _ _ _ _ _ _ c.loop-number.invariant.filed c.in_ok-number.ensures.some).0, c.loop-number.invariant.filed.count)

pub returns-then-is_fresh-clause-filed : goal.returns-then-is_fresh-clause-filed
returns-then-is_fresh-clause-filed c = filed_settled _ _ _ _ _ _ _ c.loop-number.invariant.filed c.in_ok-number.ensures.some c.if-is_fresh.ensures.fresh c.in_ok-number.ensures.least

pub returns-then-is_fresh-clause-some : goal.returns-then-is_fresh-clause-some
returns-then-is_fresh-clause-some c =
    let only = c.loop-number.invariant.only in
    record {
      labels = only.labels;
      known = only.known;
      in_labels = rw (← only.labels) (taken _ _ _ _ _ _ _ c.loop-number.invariant.filed c.in_ok-number.ensures.some).0;
      fresh = rw (← only.labels, ← only.settled, ← only.known) c.if-is_fresh.ensures.fresh;
      settled = rw (← only.settled);
      first = rw (← only.labels) (first _ _ _ _ _ _ _ c.loop-number.invariant.filed c.in_ok-number.ensures.some c.if-is_fresh.ensures.fresh c.in_ok-number.ensures.least);
      top = rw (← only.labels, ← only.settled) (top _ _ _ _ _ _ _ c.loop-number.invariant.filed c.in_ok-number.ensures.some c.if-is_fresh.ensures.fresh c.in_ok-number.ensures.least);
    }

pub loop-number-preserved : goal.loop-number-preserved
loop-number-preserved c = record {
  filed = filed_stale _ _ _ _ _ _ _ c.loop-number.invariant.filed c.in_ok-number.ensures.some c.if-is_fresh.ensures.stale;
  only = record { labels = c.loop-number.invariant.only.labels; known = c.loop-number.invariant.only.known; settled = c.loop-number.invariant.only.settled };
}

use Rattle.std.proofs.Common.{ℕ, ap, arith}
use Rattle.std.proofs.lemmas.List.Sorted.{IsPermutation-map}
use Rattle.bucket_queue.specs.Bag.{Bag, pair_of}
use Rattle.bucket_queue.proofs.Keys.{from_pushed}
use Rattle.bucket_queue.proofs.buckets.Buckets.push.Goals as goal

pub invariant_of-self-2 : goal.invariant_of-self-2
invariant_of-self-2 g c =
    let floor = ap (λ (b : Bag g.row.T.Denot). b.floor) c.self.view_is in
    (c.in_ok-push.ensures.heap_order c.self.invariant.0, from_pushed _ (record { key = c.args.key; item = c.args.item }) _ _ c.self.invariant.1 (omega (arith, floor)) c.in_ok-push.ensures.permutation)

pub returns-clause-bag : goal.returns-clause-bag
returns-clause-bag g c = rw (← c.self.view_is) (IsPermutation-map pair_of _ _ c.in_ok-push.ensures.permutation)

use Rattle.std.proofs.lemmas.List.Sorted.{IsPermutation-map}
use Rattle.bucket_queue.specs.Bag.{pair_of}
use Rattle.bucket_queue.proofs.Keys.{keys_from, keys_all_from}
use Rattle.bucket_queue.proofs.buckets.Buckets.pop.Goals as goal

pub invariant_of-self-2 : goal.invariant_of-self-2
invariant_of-self-2 g c = ((c.in_ok-key.ensures.heap_order c.self.invariant.0).0, keys_from c.in_ok-key.field-0 _ (c.in_ok-key.ensures.below_top c.self.invariant.0))

pub returns-clause-bag : goal.returns-clause-bag
returns-clause-bag g c = rw (← c.self.view_is) (IsPermutation-map pair_of _ _ c.in_ok-key.ensures.permutation)

pub returns-clause-least : goal.returns-clause-least
returns-clause-least g c = rw (← c.self.view_is) (keys_all_from c.in_ok-key.field-0 _ (c.in_ok-key.ensures.heap_order c.self.invariant.0).1)

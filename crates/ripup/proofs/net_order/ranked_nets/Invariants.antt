use Rattle.ripup.specs.Hulls.{AreRanked}
use Rattle.ripup.proofs.net_order.ranked_nets.Given as goal

abbrev pub invariant-loop-number : goal.invariant-loop-number
invariant-loop-number l = AreRanked l.design l.number l.ranks.items

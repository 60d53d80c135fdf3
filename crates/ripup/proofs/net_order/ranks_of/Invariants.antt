use Rattle.std.proofs.Common.{◌≡◌, map, take}
use Rattle.ripup.specs.Hulls.{rank_of}
use Rattle.ripup.proofs.net_order.ranks_of.Given as goal

abbrev pub invariant-loop-net : goal.invariant-loop-net
invariant-loop-net l = l.ranks.items ≡ map (rank_of l.design) (take l.net-index l.nets)

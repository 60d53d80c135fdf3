use Rattle.std.proofs.Common.{◌≡◌, take, map}
use Rattle.track_graph.specs.States.{fresh}
use Rattle.track_graph.proofs.history.State.first.Given as goal

abbrev pub invariant-loop-net : goal.invariant-loop-net
invariant-loop-net l = l.nets.items ≡ map fresh (take l.net-index l.design.nets)

use Rattle.std.proofs.Common.{◌≡◌, take}
use Rattle.track_graph.specs.States.{emptied}
use Rattle.track_graph.proofs.history.State.empty.Given as goal

abbrev pub invariant-loop-net : goal.invariant-loop-net
invariant-loop-net l = l.self ≡ emptied l.initial.self (take l.net-index l.ripped)

use Rattle.std.proofs.Common.{◌≡◌, take}
use Rattle.build.specs.LookUps.{net_names}
use Rattle.build.proofs.net_names.names_of_nets.Given as goal

abbrev pub invariant-loop-net : goal.invariant-loop-net
invariant-loop-net l = l.names ≡ net_names (take l.net-index l.nets)

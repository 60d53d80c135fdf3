use Rattle.std.proofs.Common.{◌≡◌, None, take}
use Rattle.build.specs.Faults.{first_by, connection_fault}
use Rattle.build.proofs.checks.check_connections.Given as goal

abbrev pub invariant-loop-connection : goal.invariant-loop-connection
invariant-loop-connection l = first_by (connection_fault l.lef l.def l.net) (take l.connection-index l.connections) ≡ None

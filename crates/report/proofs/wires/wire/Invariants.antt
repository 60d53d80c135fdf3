use Rattle.std.proofs.Common.{◌≡◌, sum_by, take}
use Rattle.std.specs.List.{enumerate_from}
use Rattle.report.specs.Lines.{net_wire}
use Rattle.report.proofs.wires.wire.Given as goal

abbrev pub invariant-loop-i : goal.invariant-loop-i
invariant-loop-i l = l.total ≡ sum_by (net_wire l.design) (take l.i (enumerate_from 0 l.states))

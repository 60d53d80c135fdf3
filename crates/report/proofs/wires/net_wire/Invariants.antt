use Rattle.std.proofs.Common.{◌≡◌, sum_by, take}
use Rattle.report.specs.Lines.{walk_wire}
use Rattle.report.proofs.wires.net_wire.Given as goal

abbrev pub invariant-loop-walk : goal.invariant-loop-walk
invariant-loop-walk l = l.total ≡ sum_by (walk_wire l.design l.net) (take l.walk-index l.walk-items)

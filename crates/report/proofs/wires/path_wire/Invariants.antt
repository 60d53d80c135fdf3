use Rattle.std.proofs.Common.{◌≡◌, ◌+◌, drop}
use Rattle.report.specs.Lines.{path_wire}
use Rattle.report.proofs.wires.path_wire.Given as goal

abbrev pub invariant-loop-e : goal.invariant-loop-e
invariant-loop-e l = l.total + path_wire l.at (drop l.e-index l.edges) ≡ path_wire l.fn.start l.edges

use Rattle.std.proofs.Common.{◌≡◌, sum_by, take}
use Rattle.report.specs.Lines.{net_vias}
use Rattle.report.proofs.wires.vias.Given as goal

abbrev pub invariant-loop-state : goal.invariant-loop-state
invariant-loop-state l = l.total ≡ sum_by net_vias (take l.state-index l.states)

use Rattle.std.proofs.Common.{◌≡◌, false, None, take, map, All}
use Rattle.std.specs.List.{enumerate_from}
use Rattle.build.specs.Faults.{first_by, net_fault}
use Rattle.build.specs.Inputs.{input_by}
use Rattle.build.specs.Metals.{AreOn}
use Rattle.build.specs.Wires.{metal_of_net}
use Rattle.build.proofs.checks.metal_of_nets.Given as goal

abbrev pub invariant-loop-number : goal.invariant-loop-number
invariant-loop-number l =
    (l.metal ≡ map (metal_of_net (input_by l.given) false) (take l.number l.nets))
    × (first_by (net_fault (input_by l.given)) (enumerate_from 0 (take l.number l.nets)) ≡ None)
    × All (AreOn (input_by l.given)) l.metal

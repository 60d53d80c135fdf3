use Rattle.std.proofs.Common.{◌≡◌, true, None, take, map, All}
use Rattle.build.specs.Faults.{first_by, wiring_fault}
use Rattle.build.specs.Inputs.{input_by}
use Rattle.build.specs.Metals.{AreOn}
use Rattle.build.specs.Wires.{metal_of_net}
use Rattle.build.proofs.wires.metal_of_special.Given as goal

abbrev pub invariant-loop-net : goal.invariant-loop-net
invariant-loop-net l =
    (l.metal ≡ map (metal_of_net (input_by l.given) true) (take l.net-index l.nets))
    × (first_by (wiring_fault (input_by l.given) true) (take l.net-index l.nets) ≡ None)
    × All (AreOn (input_by l.given)) l.metal

use Rattle.std.proofs.Common.{ℕ, All, take}
use Rattle.std.specs.List.{AllZip, enumerate_from}
use Rattle.track_graph.specs.declared.design.Pin.{Pin}
use Rattle.track_graph.specs.Designs.{IsPin}
use Rattle.build.specs.Built.{IsPinOf}
use Rattle.build.specs.Ground.{input_on, system_on}
use Rattle.build.proofs.nets.pins.Given as goal

abbrev pub invariant-loop-number : goal.invariant-loop-number
invariant-loop-number l =
    AllZip (IsPinOf (input_on l.on).lef (input_on l.on).def (system_on l.on)) (enumerate_from 0 (take l.number l.connections)) l.pins
    × All (λ (p : ℕ × Pin). IsPin (system_on l.on) p.0 p.1) (enumerate_from 0 l.pins)

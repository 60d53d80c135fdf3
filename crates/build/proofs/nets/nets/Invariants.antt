use Rattle.std.proofs.Common.{take}
use Rattle.std.specs.List.{AllZip}
use Rattle.build.specs.Ground.{IsBuiltNet, input_on, system_on}
use Rattle.build.proofs.nets.nets.Given as goal

abbrev pub invariant-loop-each : goal.invariant-loop-each
invariant-loop-each l = AllZip (IsBuiltNet (input_on l.on) (system_on l.on)) (take l.each-index l.said) l.nets

use Rattle.std.proofs.Common.{take}
use Rattle.std.specs.List.{AllZip}
use Rattle.build.specs.Built.{IsViaSaid}
use Rattle.build.proofs.technology.vias.Given as goal

abbrev pub invariant-loop-each : goal.invariant-loop-each
invariant-loop-each l = AllZip (IsViaSaid l.tech) (take l.each-index l.said) l.vias

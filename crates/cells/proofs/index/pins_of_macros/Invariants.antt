use Rattle.std.proofs.Common.{take}
use Rattle.std.specs.List.{AllZip}
use Rattle.cells.specs.Indexes.{ArePinsOf}
use Rattle.cells.proofs.index.pins_of_macros.Given as goal

abbrev pub invariant-loop-each : goal.invariant-loop-each
invariant-loop-each l = AllZip ArePinsOf (take l.each-index l.macros) l.pins

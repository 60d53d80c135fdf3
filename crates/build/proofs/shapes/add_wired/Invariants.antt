use Rattle.std.proofs.Common.{◌≡◌, ◌++◌, take}
use Rattle.std.specs.List.{enumerate_from, flat_map}
use Rattle.build.specs.Metals.{wire_shapes}
use Rattle.build.proofs.shapes.add_wired.Given as goal

abbrev pub invariant-loop-number : goal.invariant-loop-number
invariant-loop-number l = l.shapes.items ≡ l.initial.shapes.items ++ flat_map wire_shapes (enumerate_from 0 (take l.number l.metals))

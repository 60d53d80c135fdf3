use Rattle.std.proofs.Common.{◌≡◌, ◌++◌, take}
use Rattle.std.specs.List.{flat_map}
use Rattle.build.specs.Inputs.{input_by}
use Rattle.build.specs.Wires.{special_shapes}
use Rattle.build.proofs.shapes.add_special.Given as goal

abbrev pub invariant-loop-number : goal.invariant-loop-number
invariant-loop-number l = l.shapes.items ≡ l.initial.shapes.items ++ flat_map (special_shapes (input_by l.given)) (take l.number l.nets)

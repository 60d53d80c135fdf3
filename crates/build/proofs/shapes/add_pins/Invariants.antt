use Rattle.std.proofs.Common.{◌≡◌, ◌++◌, take}
use Rattle.std.specs.List.{flat_map}
use Rattle.build.specs.Built.{pin_shapes}
use Rattle.cells.specs.Indexes.{owner_in}
use Rattle.build.proofs.shapes.add_pins.Given as goal

abbrev pub invariant-loop-pin : goal.invariant-loop-pin
invariant-loop-pin l = l.shapes.items ≡ l.initial.shapes.items ++ flat_map (pin_shapes l.layers (owner_in l.owners)) (take l.pin-index l.pins)

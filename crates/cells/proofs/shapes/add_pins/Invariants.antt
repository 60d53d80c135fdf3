use Rattle.std.proofs.Common.{◌≡◌, ◌++◌, take}
use Rattle.std.specs.Prelude.{flat_map}
use Rattle.cells.proofs.ShapeLemmas.{pin_part}
use Rattle.cells.specs.Indexes.{owner_in}
use Rattle.cells.proofs.shapes.add_pins.Given as goal

abbrev pub invariant-loop-pin : goal.invariant-loop-pin
invariant-loop-pin l = l.shapes.items ≡ l.initial.shapes.items ++ flat_map (pin_part (owner_in l.owners) l.component l.of) (take l.pin-index l.pins)

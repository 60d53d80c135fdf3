use Rattle.std.proofs.Common.{◌≡◌, take}
use Rattle.build.specs.LookUps.{pin_names}
use Rattle.build.proofs.pin_names.names_of_pins.Given as goal

abbrev pub invariant-loop-pin : goal.invariant-loop-pin
invariant-loop-pin l = l.names ≡ pin_names (take l.pin-index l.pins)

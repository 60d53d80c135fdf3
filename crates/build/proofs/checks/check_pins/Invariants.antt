use Rattle.std.proofs.Common.{◌≡◌, None, take}
use Rattle.build.specs.Faults.{first_by, pin_fault}
use Rattle.build.proofs.checks.check_pins.Given as goal

abbrev pub invariant-loop-pin : goal.invariant-loop-pin
invariant-loop-pin l = first_by (pin_fault l.layers) (take l.pin-index l.pins) ≡ None

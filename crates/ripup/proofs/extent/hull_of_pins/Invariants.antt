use Rattle.std.proofs.Common.{◌≡◌, None, fold, take}
use Rattle.ripup.specs.Hulls.{with_pin}
use Rattle.ripup.proofs.extent.hull_of_pins.Given as goal

abbrev pub invariant-loop-pin : goal.invariant-loop-pin
invariant-loop-pin l = l.hull ≡ fold with_pin None (take l.pin-index l.pins)

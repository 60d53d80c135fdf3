use Rattle.std.proofs.Common.{◌≡◌, take}
use Rattle.lef_text.specs.Macros.{moved_pins}
use Rattle.lef_text.proofs.macros.moved_pins.Given as goal

abbrev pub invariant-loop-pin : goal.invariant-loop-pin
invariant-loop-pin l = l.all ≡ moved_pins l.by (take l.pin-index l.pins)

use Rattle.std.proofs.Common.{length}
use Rattle.def_text.specs.Pins.{ArePorts, more_pin}
use Rattle.rt_forms.proofs.Loops.{Runs}
use Rattle.def_text.specs.Faults.{def_faults}
use Rattle.def_text.proofs.pins.options.Given as goal

abbrev pub invariant-options : goal.invariant-options
invariant-options l = record { runs : Runs def_faults more_pin l.ports l.words l.initial.ports l.initial.words; sound : ArePorts l.ports }

abbrev pub decreases-options : goal.decreases-options
decreases-options l = length l.words

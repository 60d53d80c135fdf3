use Rattle.std.proofs.Common.{length}
use Rattle.def_text.specs.Components.{IsPlacing, more_component}
use Rattle.rt_forms.proofs.Loops.{Runs}
use Rattle.def_text.specs.Faults.{def_faults}
use Rattle.def_text.proofs.components.options.Given as goal

abbrev pub invariant-options : goal.invariant-options
invariant-options l = record { runs : Runs def_faults more_component l.placed l.words l.initial.placed l.initial.words; sound : IsPlacing l.placed }

abbrev pub decreases-options : goal.decreases-options
decreases-options l = length l.words

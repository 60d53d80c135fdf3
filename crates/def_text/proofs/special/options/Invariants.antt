use Rattle.std.proofs.Common.{length, ◌-◌}
use Rattle.def_text.specs.Special.{IsSpecial, more_special}
use Rattle.rt_forms.specs.Reading.{left_of}
use Rattle.rt_forms.proofs.Loops.{Runs}
use Rattle.def_text.specs.Faults.{def_faults}
use Rattle.def_text.proofs.special.options.Given as goal

abbrev pub invariant-options : goal.invariant-options
invariant-options l = record { runs : Runs def_faults (more_special l.total) l.net l.words l.initial.net l.initial.words; sound : IsSpecial l.total (l.total - left_of l.words) l.net }

abbrev pub decreases-options : goal.decreases-options
decreases-options l = length l.words

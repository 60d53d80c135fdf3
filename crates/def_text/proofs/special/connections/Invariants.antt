use Rattle.std.proofs.Common.{length}
use Rattle.rt_forms.proofs.Loops.{Until}
use Rattle.def_text.specs.Faults.{def_faults}
use Rattle.def_text.specs.Parts.{no_bracket}
use Rattle.def_text.specs.Special.{special_connection}
use Rattle.def_text.proofs.special.connections.Given as goal

abbrev pub invariant-connections : goal.invariant-connections
invariant-connections l = Until def_faults no_bracket special_connection tt l.words tt l.initial.words

abbrev pub decreases-connections : goal.decreases-connections
decreases-connections l = length l.words

use Rattle.std.proofs.Common.{length}
use Rattle.rt_forms.proofs.Loops.{Runs}
use Rattle.lef_text.specs.Faults.{lef_faults}
use Rattle.lef_text.specs.Tables.{length_turn}
use Rattle.lef_text.proofs.tables.length_turns.Given as goal

abbrev pub invariant-lines : goal.invariant-lines
invariant-lines l = Runs lef_faults (length_turn l.units) l.lengths l.words l.initial.lengths l.initial.words

abbrev pub decreases-lines : goal.decreases-lines
decreases-lines l = length l.words

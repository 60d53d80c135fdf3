use Rattle.std.proofs.Common.{length}
use Rattle.rt_forms.proofs.Loops.{Runs}
use Rattle.lef_text.specs.Faults.{lef_faults}
use Rattle.lef_text.specs.Tables.{row_turn}
use Rattle.lef_text.proofs.tables.row_turns.Given as goal

abbrev pub invariant-lines : goal.invariant-lines
invariant-lines l = Runs lef_faults (row_turn l.units l.count) l.rows l.words l.initial.rows l.initial.words

abbrev pub decreases-lines : goal.decreases-lines
decreases-lines l = length l.words

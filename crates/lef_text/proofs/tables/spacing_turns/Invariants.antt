use Rattle.std.proofs.Common.{length}
use Rattle.rt_forms.proofs.Loops.{Runs}
use Rattle.lef_text.specs.Faults.{lef_faults}
use Rattle.lef_text.specs.Tables.{spacing_turn}
use Rattle.lef_text.proofs.tables.spacing_turns.Given as goal

abbrev pub invariant-lines : goal.invariant-lines
invariant-lines l = Runs lef_faults (spacing_turn l.units l.count) l.spacings l.words l.initial.spacings l.initial.words

abbrev pub decreases-lines : goal.decreases-lines
decreases-lines l = length l.words

use Rattle.std.proofs.Common.{length}
use Rattle.rt_forms.proofs.Loops.{Runs}
use Rattle.lef_text.specs.Faults.{lef_faults}
use Rattle.lef_text.specs.Lef.{units_line}
use Rattle.lef_text.proofs.text.units_lines.Given as goal

abbrev pub invariant-lines : goal.invariant-lines
invariant-lines l = Runs lef_faults units_line l.units l.words l.initial.units l.initial.words

abbrev pub decreases-lines : goal.decreases-lines
decreases-lines l = length l.words

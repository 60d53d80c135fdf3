use Rattle.std.proofs.Common.{length}
use Rattle.rt_forms.proofs.Loops.{Runs}
use Rattle.lef_text.specs.Faults.{lef_faults}
use Rattle.lef_text.specs.Vias.{via_line}
use Rattle.lef_text.proofs.vias.via_lines.Given as goal

abbrev pub invariant-lines : goal.invariant-lines
invariant-lines l = Runs lef_faults (via_line l.units l.lib l.name) l.lines l.words l.initial.lines l.initial.words

abbrev pub decreases-lines : goal.decreases-lines
decreases-lines l = length l.words

use Rattle.std.proofs.Common.{length}
use Rattle.rt_forms.proofs.Loops.{Runs}
use Rattle.lef_text.specs.Faults.{lef_faults}
use Rattle.lef_text.specs.Layers.{dropped_line}
use Rattle.lef_text.proofs.layers.dropped_lines.Given as goal

abbrev pub invariant-lines : goal.invariant-lines
invariant-lines l = Runs lef_faults (dropped_line l.name) tt l.words tt l.initial.words

abbrev pub decreases-lines : goal.decreases-lines
decreases-lines l = length l.words

use Rattle.std.proofs.Common.{◌+◌, ◌≤◌, length}
use Rattle.rt_forms.proofs.Loops.{Runs}
use Rattle.lef_text.specs.Faults.{lef_faults}
use Rattle.lef_text.specs.Layers.{layer_line}
use Rattle.lef_text.proofs.layers.layer_lines.Given as goal

abbrev pub invariant-lines : goal.invariant-lines
invariant-lines l = record { runs : Runs lef_faults (layer_line l.units l.top) l.lines l.words l.initial.lines l.initial.words; few : l.lines.skipped + length l.words ≤ l.initial.lines.skipped + length l.initial.words }

abbrev pub decreases-lines : goal.decreases-lines
decreases-lines l = length l.words

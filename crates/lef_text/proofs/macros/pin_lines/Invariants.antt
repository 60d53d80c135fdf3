use Rattle.std.proofs.Common.{◌≤◌, length}
use Rattle.rt_forms.proofs.Loops.{Runs}
use Rattle.lef_text.specs.Counts.{skips}
use Rattle.lef_text.specs.Faults.{lef_faults}
use Rattle.lef_text.specs.Macros.{pin_line}
use Rattle.lef_text.specs.Shapes.{drawn}
use Rattle.lef_text.proofs.macros.pin_lines.Given as goal

abbrev pub invariant-lines : goal.invariant-lines
invariant-lines l = record { runs : Runs lef_faults (pin_line l.units l.name) (drawn l.lib l.shapes) l.words (drawn l.initial.lib l.initial.shapes) l.initial.words; few : skips l.lib l.words ≤ skips l.initial.lib l.initial.words }

abbrev pub decreases-lines : goal.decreases-lines
decreases-lines l = length l.words

use Rattle.std.proofs.Common.{◌≤◌, length}
use Rattle.rt_forms.proofs.Loops.{Runs}
use Rattle.lef_text.specs.Counts.{skips}
use Rattle.lef_text.specs.Faults.{lef_faults}
use Rattle.lef_text.specs.Macros.{macro_line, cell_of}
use Rattle.lef_text.proofs.macros.macro_lines.Given as goal

abbrev pub invariant-lines : goal.invariant-lines
invariant-lines l = record { runs : Runs lef_faults (macro_line l.units l.name) (cell_of l.lib l.lines) l.words (cell_of l.initial.lib l.initial.lines) l.initial.words; few : skips l.lib l.words ≤ skips l.initial.lib l.initial.words }

abbrev pub decreases-lines : goal.decreases-lines
decreases-lines l = length l.words

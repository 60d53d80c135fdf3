use Rattle.std.proofs.Common.{◌≤◌, length}
use Rattle.rt_forms.proofs.Loops.{Runs}
use Rattle.lef_text.specs.Counts.{skips}
use Rattle.lef_text.specs.Faults.{lef_faults}
use Rattle.lef_text.specs.Shapes.{shape_line, shapes_of}
use Rattle.lef_text.proofs.shapes.shape_lines.Given as goal

abbrev pub invariant-lines : goal.invariant-lines
invariant-lines l = record { runs : Runs lef_faults (shape_line l.units) (shapes_of l.lib l.layer l.shapes) l.words (shapes_of l.initial.lib l.initial.layer l.initial.shapes) l.initial.words; few : skips l.lib l.words ≤ skips l.initial.lib l.initial.words }

abbrev pub decreases-lines : goal.decreases-lines
decreases-lines l = length l.words

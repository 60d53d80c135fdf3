use Rattle.std.proofs.Common.{length}
use Rattle.rt_forms.proofs.Loops.{Runs}
use Rattle.lef_text.specs.Faults.{lef_faults}
use Rattle.lef_text.specs.Polygons.{point_turn}
use Rattle.lef_text.proofs.polygons.point_turns.Given as goal

abbrev pub invariant-lines : goal.invariant-lines
invariant-lines l = Runs lef_faults (point_turn l.units) l.points l.words l.initial.points l.initial.words

abbrev pub decreases-lines : goal.decreases-lines
decreases-lines l = length l.words

use Rattle.std.proofs.Common.{◌+◌, ◌≤◌, length}
use Rattle.rt_forms.proofs.Loops.{Until}
use Rattle.def_text.specs.Faults.{def_faults}
use Rattle.def_text.specs.Blockages.{no_mark, more_marks}
use Rattle.def_text.proofs.blockages.read_marks.Given as goal

abbrev pub invariant-marks : goal.invariant-marks
invariant-marks l = record { until : Until def_faults no_mark more_marks l.marks l.words l.initial.marks l.initial.words; few : l.marks.skipped + length l.words ≤ l.initial.marks.skipped + length l.initial.words }

abbrev pub decreases-marks : goal.decreases-marks
decreases-marks l = length l.words

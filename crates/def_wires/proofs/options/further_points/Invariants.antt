use Rattle.std.proofs.Common.{length, All}
use Rattle.rt_forms.specs.Form.{no_word}
use Rattle.rt_forms.proofs.Loops.{Until}
use Rattle.def_wires.specs.Faults.{wire_faults}
use Rattle.def_wires.specs.Sound.{IsWirePath}
use Rattle.def_wires.specs.Options.{more_points}
use Rattle.def_wires.proofs.options.further_points.Given as goal

abbrev pub invariant-points : goal.invariant-points
invariant-points l = record { until : Until wire_faults no_word (more_points l.layer l.via l.orient) l.paths l.words l.initial.paths l.initial.words; sound : All (IsWirePath l.tech) l.paths }

abbrev pub decreases-points : goal.decreases-points
decreases-points l = length l.words

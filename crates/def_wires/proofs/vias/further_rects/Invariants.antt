use Rattle.std.proofs.Common.{◌+◌, ◌^◌, length, All}
use Rattle.rt_forms.specs.Form.{no_word}
use Rattle.rt_forms.proofs.Loops.{Until}
use Rattle.def_wires.specs.Faults.{wire_faults}
use Rattle.def_wires.specs.Sound.{IsOn}
use Rattle.def_wires.specs.Vias.{more_rects}
use Rattle.def_wires.proofs.vias.further_rects.Given as goal

abbrev pub invariant-rects : goal.invariant-rects
invariant-rects l = record { until : Until wire_faults no_word (more_rects l.tech) l.rects l.words l.initial.rects l.initial.words; sound : All (IsOn (length l.tech.layers) (2 ^ 60 + 2 ^ 30)) l.rects }

abbrev pub decreases-rects : goal.decreases-rects
decreases-rects l = length l.words

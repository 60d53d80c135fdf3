use Rattle.std.proofs.Common.{length, All}
use Rattle.rt_forms.specs.Form.{no_word}
use Rattle.rt_forms.proofs.Loops.{Until}
use Rattle.def_wires.specs.Faults.{wire_faults}
use Rattle.def_wires.specs.Sound.{IsWirePath}
use Rattle.def_wires.specs.Paths.{more_paths}
use Rattle.def_wires.proofs.paths.further_paths.Given as goal

abbrev pub invariant-paths : goal.invariant-paths
invariant-paths l = record { until : Until wire_faults no_word (more_paths l.tech l.special) l.paths l.words l.initial.paths l.initial.words; sound : All (IsWirePath l.tech) l.paths }

abbrev pub decreases-paths : goal.decreases-paths
decreases-paths l = length l.words

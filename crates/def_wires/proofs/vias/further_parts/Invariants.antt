use Rattle.std.proofs.Common.{length}
use Rattle.rt_forms.specs.Form.{no_word}
use Rattle.rt_forms.proofs.Loops.{Until}
use Rattle.def_wires.specs.Faults.{wire_faults}
use Rattle.def_wires.specs.Sound.{IsParts}
use Rattle.def_wires.specs.Vias.{more_parts}
use Rattle.def_wires.proofs.vias.further_parts.Given as goal

abbrev pub invariant-parts : goal.invariant-parts
invariant-parts l = record { until : Until wire_faults no_word (more_parts l.tech) l.parts l.words l.initial.parts l.initial.words; sound : IsParts (length l.tech.layers) l.parts }

abbrev pub decreases-parts : goal.decreases-parts
decreases-parts l = length l.words

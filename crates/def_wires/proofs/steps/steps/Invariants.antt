use Rattle.std.proofs.Common.{length}
use Rattle.rt_forms.proofs.Loops.{Until}
use Rattle.def_wires.specs.Faults.{wire_faults}
use Rattle.def_wires.specs.Sound.{IsOpenPath}
use Rattle.def_wires.specs.Paths.{ends_path, more_steps}
use Rattle.def_wires.proofs.steps.steps.Given as goal

abbrev pub invariant-steps : goal.invariant-steps
invariant-steps l = record { until : Until wire_faults ends_path (more_steps l.tech l.special) l.path l.words l.initial.path l.initial.words; sound : IsOpenPath l.tech l.path }

abbrev pub decreases-steps : goal.decreases-steps
decreases-steps l = length l.words

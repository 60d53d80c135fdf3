use Rattle.std.proofs.Common.{length, All}
use Rattle.def_text.specs.Defs.{IsMetal}
use Rattle.def_text.specs.Blockages.{more_shapes}
use Rattle.rt_forms.proofs.Loops.{Runs}
use Rattle.def_text.specs.Faults.{def_faults}
use Rattle.def_text.proofs.blockages.further_shapes.Given as goal

abbrev pub invariant-shapes : goal.invariant-shapes
invariant-shapes l = record { runs : Runs def_faults (more_shapes l.layer l.dropped) l.metal l.words l.initial.metal l.initial.words; sound : All IsMetal l.metal }

abbrev pub decreases-shapes : goal.decreases-shapes
decreases-shapes l = length l.words

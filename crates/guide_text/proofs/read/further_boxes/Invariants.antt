use Rattle.std.proofs.Common.{length, All}
use Rattle.rt_forms.proofs.Loops.{Runs}
use Rattle.guide_text.specs.Faults.{guide_faults}
use Rattle.guide_text.specs.IsGuides.{IsBox}
use Rattle.guide_text.specs.Guides.{more_boxes}
use Rattle.guide_text.proofs.read.further_boxes.Given as goal

abbrev pub invariant-boxes : goal.invariant-boxes
invariant-boxes l = record { runs : Runs guide_faults more_boxes l.boxes l.words l.initial.boxes l.initial.words; sound : All IsBox l.boxes }

abbrev pub decreases-boxes : goal.decreases-boxes
decreases-boxes l = length l.words

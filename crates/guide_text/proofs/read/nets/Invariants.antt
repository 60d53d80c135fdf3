use Rattle.std.proofs.Common.{length}
use Rattle.rt_forms.specs.Form.{no_word}
use Rattle.rt_forms.proofs.Loops.{Until}
use Rattle.guide_text.specs.Faults.{guide_faults}
use Rattle.guide_text.specs.IsGuides.{AreListed}
use Rattle.guide_text.specs.Guides.{net}
use Rattle.guide_text.proofs.read.nets.Given as goal

abbrev pub invariant-nets : goal.invariant-nets
invariant-nets l = record { until : Until guide_faults no_word net l.listed l.words l.initial.listed l.initial.words; sound : AreListed l.listed }

abbrev pub decreases-nets : goal.decreases-nets
decreases-nets l = length l.words

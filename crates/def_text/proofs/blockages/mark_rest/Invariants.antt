use Rattle.std.proofs.Common.{length}
use Rattle.rt_forms.specs.Reading.{or_end}
use Rattle.rt_forms.proofs.Loops.{Until}
use Rattle.def_text.specs.Faults.{def_faults}
use Rattle.def_text.specs.Blockages.{ends_mark, skip_word}
use Rattle.def_text.proofs.blockages.mark_rest.Given as goal

abbrev pub invariant-skip : goal.invariant-skip
invariant-skip l = Until def_faults (or_end ends_mark) skip_word tt l.words tt l.initial.words

abbrev pub decreases-skip : goal.decreases-skip
decreases-skip l = length l.words

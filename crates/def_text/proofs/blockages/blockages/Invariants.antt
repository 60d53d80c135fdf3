use Rattle.std.proofs.Common.{◌+◌, ◌≤◌, ◌^◌, length, All}
use Rattle.def_text.specs.Defs.{IsMetal}
use Rattle.def_text.specs.Blockages.{more_blockages}
use Rattle.rt_forms.proofs.Loops.{Runs}
use Rattle.def_text.specs.Faults.{def_faults}
use Rattle.def_text.proofs.blockages.blockages.Given as goal

abbrev pub invariant-blockages : goal.invariant-blockages
invariant-blockages l = record { runs : Runs def_faults (more_blockages l.said) l.blocked l.words l.initial.blocked l.initial.words; sound : All IsMetal l.blocked.metal; few : l.blocked.skipped + length l.words ≤ l.initial.blocked.skipped + length l.initial.words; found : l.blocked.found + length l.words ≤ 2 ^ 32 }

abbrev pub decreases-blockages : goal.decreases-blockages
decreases-blockages l = length l.words

use Rattle.std.proofs.Common.{◌≤◌, ◌^◌, length}
use Rattle.rt_forms.specs.Form.{no_word}
use Rattle.rt_forms.proofs.Loops.{Until}
use Rattle.lef_text.specs.Counts.{HasRoom, skips}
use Rattle.lef_text.specs.Faults.{lef_faults}
use Rattle.lef_text.specs.Lef.{statement}
use Rattle.lef_text.proofs.text.statements.Given as goal

abbrev pub invariant-text : goal.invariant-text
invariant-text l = record { until : Until lef_faults no_word (statement l.units) l.lib l.words l.initial.lib l.initial.words; room : HasRoom l.lib l.words; few : skips l.lib l.words ≤ 2 ^ 32 }

abbrev pub decreases-text : goal.decreases-text
decreases-text l = length l.words

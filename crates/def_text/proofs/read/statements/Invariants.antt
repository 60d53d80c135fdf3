use Rattle.std.proofs.Common.{◌≡◌, ◌+◌, ◌≤◌, ◌^◌, length}
use Rattle.rt_forms.proofs.Loops.{Runs}
use Rattle.def_text.specs.Faults.{def_faults}
use Rattle.def_text.specs.Texts.{IsParsed, statement}
use Rattle.def_text.proofs.read.statements.Given as goal

abbrev pub invariant-statements : goal.invariant-statements
invariant-statements l = record { runs : Runs def_faults statement l.parsed l.words l.initial.parsed l.initial.words; sound : IsParsed l.parsed; total : l.parsed.total ≡ l.initial.parsed.total; few : l.parsed.skipped + length l.words ≤ 2 ^ 32 }

abbrev pub decreases-statements : goal.decreases-statements
decreases-statements l = length l.words

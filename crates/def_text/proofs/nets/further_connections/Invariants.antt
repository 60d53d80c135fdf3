use Rattle.std.proofs.Common.{◌+◌, ◌≤◌, length, All}
use Rattle.rt_forms.proofs.Loops.{Until}
use Rattle.def_text.specs.Faults.{def_faults}
use Rattle.def_text.specs.Defs.{IsConnection}
use Rattle.def_text.specs.Nets.{connection}
use Rattle.def_text.specs.Parts.{no_bracket}
use Rattle.def_text.proofs.nets.further_connections.Given as goal

abbrev pub invariant-connections : goal.invariant-connections
invariant-connections l = record { until : Until def_faults no_bracket connection l.pins l.words l.initial.pins l.initial.words; sound : All IsConnection l.pins; few : length l.pins + length l.words ≤ length l.initial.pins + length l.initial.words }

abbrev pub decreases-connections : goal.decreases-connections
decreases-connections l = length l.words

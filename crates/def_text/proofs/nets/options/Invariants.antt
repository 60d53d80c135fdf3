use Rattle.std.proofs.Common.{◌+◌, ◌≤◌, length, All}
use Rattle.def_text.specs.Defs.{IsRange}
use Rattle.def_text.specs.Nets.{more_net}
use Rattle.rt_forms.proofs.Loops.{Runs}
use Rattle.def_text.specs.Faults.{def_faults}
use Rattle.def_text.proofs.nets.options.Given as goal

abbrev pub invariant-options : goal.invariant-options
invariant-options l = record { runs : Runs def_faults (more_net l.total) l.net l.words l.initial.net l.initial.words; wiring : All (IsRange l.total) l.net.wiring; few : l.net.skipped + length l.words ≤ l.initial.net.skipped + length l.initial.words }

abbrev pub decreases-options : goal.decreases-options
decreases-options l = length l.words

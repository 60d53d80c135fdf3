use Rattle.std.proofs.Common.{◌+◌, ◌≤◌, length, codes}
use Rattle.def_text.specs.declared.def.DefNet.{DefNet}
use Rattle.def_text.specs.Wiring.{IsNetOf}
use Rattle.def_text.specs.Sections.{AreListed, more_items}
use Rattle.def_text.specs.Nets.{net_item}
use Rattle.rt_forms.proofs.Loops.{Runs}
use Rattle.def_text.specs.Faults.{def_faults}
use Rattle.def_text.proofs.nets.nets.Given as goal

abbrev pub invariant-nets : goal.invariant-nets
invariant-nets l = record { runs : Runs def_faults (more_items (codes "NETS") l.said (net_item l.total)) l.listed l.words l.initial.listed l.initial.words; sound : AreListed (IsNetOf l.total) (λ (n : DefNet). n.name) l.listed; few : l.listed.skipped + length l.words ≤ l.initial.listed.skipped + length l.initial.words }

abbrev pub decreases-nets : goal.decreases-nets
decreases-nets l = length l.words

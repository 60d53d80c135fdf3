use Rattle.std.proofs.Common.{◌≡◌, length, codes}
use Rattle.def_text.specs.declared.def.DefVia.{DefVia}
use Rattle.def_text.specs.Vias.{IsDefVia, via_item}
use Rattle.def_text.specs.Sections.{AreListed, more_items}
use Rattle.rt_forms.proofs.Loops.{Runs}
use Rattle.def_text.specs.Faults.{def_faults}
use Rattle.def_text.proofs.vias.vias.Given as goal

abbrev pub invariant-vias : goal.invariant-vias
invariant-vias l = record { runs : Runs def_faults (more_items (codes "VIAS") l.said (via_item l.total)) l.listed l.words l.initial.listed l.initial.words; sound : AreListed (IsDefVia l.total) (λ (v : DefVia). v.name) l.listed; skipped : l.listed.skipped ≡ l.initial.listed.skipped }

abbrev pub decreases-vias : goal.decreases-vias
decreases-vias l = length l.words

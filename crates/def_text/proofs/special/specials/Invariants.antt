use Rattle.std.proofs.Common.{◌≡◌, length, codes}
use Rattle.def_text.specs.declared.def.DefNet.{DefNet}
use Rattle.def_text.specs.Wiring.{IsNetOf}
use Rattle.def_text.specs.Special.{special_item}
use Rattle.def_text.specs.Sections.{AreListed, more_items}
use Rattle.rt_forms.proofs.Loops.{Runs}
use Rattle.def_text.specs.Faults.{def_faults}
use Rattle.def_text.proofs.special.specials.Given as goal

abbrev pub invariant-specials : goal.invariant-specials
invariant-specials l = record { runs : Runs def_faults (more_items (codes "SPECIALNETS") l.said (special_item l.total)) l.listed l.words l.initial.listed l.initial.words; sound : AreListed (IsNetOf l.total) (λ (n : DefNet). n.name) l.listed; skipped : l.listed.skipped ≡ l.initial.listed.skipped }

abbrev pub decreases-specials : goal.decreases-specials
decreases-specials l = length l.words

use Rattle.std.proofs.Common.{◌≡◌, length, codes}
use Rattle.def_text.specs.declared.def.Component.{Component}
use Rattle.def_text.specs.Defs.{IsComponent}
use Rattle.def_text.specs.Components.{component_item}
use Rattle.def_text.specs.Sections.{AreListed, more_items}
use Rattle.rt_forms.proofs.Loops.{Runs}
use Rattle.def_text.specs.Faults.{def_faults}
use Rattle.def_text.proofs.components.components.Given as goal

abbrev pub invariant-components : goal.invariant-components
invariant-components l = record { runs : Runs def_faults (more_items (codes "COMPONENTS") l.said component_item) l.listed l.words l.initial.listed l.initial.words; sound : AreListed IsComponent (λ (c : Component). c.name) l.listed; skipped : l.listed.skipped ≡ l.initial.listed.skipped }

abbrev pub decreases-components : goal.decreases-components
decreases-components l = length l.words

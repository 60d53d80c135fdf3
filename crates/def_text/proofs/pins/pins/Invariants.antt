use Rattle.std.proofs.Common.{◌≡◌, length, codes}
use Rattle.def_text.specs.declared.def.IoPin.{IoPin}
use Rattle.def_text.specs.Defs.{IsIoPin}
use Rattle.def_text.specs.Sections.{AreListed, more_items}
use Rattle.def_text.specs.Pins.{pin_item}
use Rattle.rt_forms.proofs.Loops.{Runs}
use Rattle.def_text.specs.Faults.{def_faults}
use Rattle.def_text.proofs.pins.pins.Given as goal

abbrev pub invariant-pins : goal.invariant-pins
invariant-pins l = record { runs : Runs def_faults (more_items (codes "PINS") l.said pin_item) l.listed l.words l.initial.listed l.initial.words; sound : AreListed IsIoPin (λ (p : IoPin). p.name) l.listed; skipped : l.listed.skipped ≡ l.initial.listed.skipped }

abbrev pub decreases-pins : goal.decreases-pins
decreases-pins l = length l.words

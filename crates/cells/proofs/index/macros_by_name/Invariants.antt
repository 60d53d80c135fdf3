use Rattle.std.proofs.Common.{take}
use Rattle.lef_text.specs.declared.lef.Macro.{Macro}
use Rattle.cells.specs.Firsts.{ArePlaces}
use Rattle.cells.proofs.index.macros_by_name.Given as goal

abbrev pub invariant-loop-place : goal.invariant-loop-place
invariant-loop-place l = ArePlaces (λ (m : Macro). m.name) (take l.place l.macros) l.places

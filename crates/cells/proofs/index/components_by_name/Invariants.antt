use Rattle.std.proofs.Common.{take}
use Rattle.def_text.specs.declared.def.Component.{Component}
use Rattle.cells.specs.Firsts.{ArePlaces}
use Rattle.cells.proofs.index.components_by_name.Given as goal

abbrev pub invariant-loop-place : goal.invariant-loop-place
invariant-loop-place l = ArePlaces (λ (c : Component). c.name) (take l.place l.components) l.places

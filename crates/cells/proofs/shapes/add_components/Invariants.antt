use Rattle.std.proofs.Common.{◌≡◌, ◌++◌, take}
use Rattle.std.specs.Prelude.{flat_map}
use Rattle.cells.specs.Cells.{component_shapes}
use Rattle.cells.specs.Indexes.{owner_in}
use Rattle.cells.proofs.shapes.add_components.Given as goal

abbrev pub invariant-loop-component : goal.invariant-loop-component
invariant-loop-component l = l.shapes.items ≡ l.initial.shapes.items ++ flat_map (component_shapes l.macros (owner_in l.owners)) (take l.component-index l.components)

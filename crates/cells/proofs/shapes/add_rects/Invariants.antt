use Rattle.std.proofs.Common.{◌≡◌, ◌++◌, take}
use Rattle.cells.specs.Cells.{fixed_shapes}
use Rattle.cells.proofs.shapes.add_rects.Given as goal

abbrev pub invariant-loop-metal : goal.invariant-loop-metal
invariant-loop-metal l = l.shapes.items ≡ l.initial.shapes.items ++ fixed_shapes l.owner (take l.metal-index l.rects)

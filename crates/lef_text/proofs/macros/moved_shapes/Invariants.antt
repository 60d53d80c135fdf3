use Rattle.std.proofs.Common.{◌≡◌, take}
use Rattle.lef_text.specs.Macros.{moved_shapes}
use Rattle.lef_text.proofs.macros.moved_shapes.Given as goal

abbrev pub invariant-loop-shape : goal.invariant-loop-shape
invariant-loop-shape l = l.all ≡ moved_shapes l.by (take l.shape-index l.shapes)

use Rattle.std.proofs.Common.{◌≡◌, ◌++◌, take, filter}
use Rattle.shape_grid.specs.Stores.{is_touching}
use Rattle.shape_grid.proofs.touch.touching_into.Given as goal

abbrev pub invariant-loop-shape : goal.invariant-loop-shape
invariant-loop-shape l = l.found.items ≡ l.fn.found.items ++ filter (is_touching l.layer l.rect) (take l.shape-index l.shapes)

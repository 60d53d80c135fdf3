use Rattle.std.proofs.Common.{◌≡◌, filter, take}
use Rattle.search.specs.Views.{is_on}
use Rattle.search.proofs.piece.on_tile.Given as goal

abbrev pub invariant-loop-shape : goal.invariant-loop-shape
invariant-loop-shape l = l.found.items ≡ filter (is_on l.grid l.no) (take l.shape-index l.shapes)

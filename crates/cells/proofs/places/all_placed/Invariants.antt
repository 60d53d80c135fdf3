use Rattle.std.proofs.Common.{◌≡◌, map, take}
use Rattle.cells.specs.Cells.{placed_rect}
use Rattle.cells.proofs.places.all_placed.Given as goal

abbrev pub invariant-loop-rect : goal.invariant-loop-rect
invariant-loop-rect l = l.all.items ≡ map (placed_rect l.of (l.at, l.orient)) (take l.rect-index l.rects)

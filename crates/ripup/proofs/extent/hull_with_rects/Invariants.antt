use Rattle.std.proofs.Common.{◌≡◌, fold, take}
use Rattle.ripup.specs.Hulls.{with_rect}
use Rattle.ripup.proofs.extent.hull_with_rects.Given as goal

abbrev pub invariant-loop-rect : goal.invariant-loop-rect
invariant-loop-rect l = l.hull ≡ fold with_rect l.fn.hull (take l.rect-index l.rects)

use Rattle.std.proofs.Common.{◌≡◌, None, take}
use Rattle.build.specs.Faults.{rects_fault}
use Rattle.build.proofs.checks.check_rects.Given as goal

abbrev pub invariant-loop-rect : goal.invariant-loop-rect
invariant-loop-rect l = rects_fault l.layers (take l.rect-index l.rects) ≡ None

use Rattle.std.proofs.Common.{◌≡◌, take}
use Rattle.build.specs.Faults.{largest_coordinate}
use Rattle.build.proofs.limits.coordinate.Given as goal

abbrev pub invariant-loop-shape : goal.invariant-loop-shape
invariant-loop-shape l = l.most ≡ largest_coordinate (take l.shape-index l.shapes)

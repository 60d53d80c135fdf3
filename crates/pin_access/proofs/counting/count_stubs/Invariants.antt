use Rattle.std.proofs.Common.{◌≤◌, ◌*◌, ◌^◌, take}
use Rattle.pin_access.specs.Counts.{Counts}
use Rattle.pin_access.specs.DieTracks.{IsNearOne}
use Rattle.pin_access.proofs.counting.count_stubs.Given as goal

abbrev pub invariant-loop-k : goal.invariant-loop-k
invariant-loop-k l = Counts (IsNearOne l.levels (take l.k l.rects)) l.count × (l.count ≤ 2 ^ 37 * l.k)

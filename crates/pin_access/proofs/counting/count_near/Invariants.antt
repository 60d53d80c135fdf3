use Rattle.std.proofs.Common.{◌≤◌, ◌<◌, ◌*◌, ◌^◌, take, All}
use Rattle.track_graph.specs.Metal.{Metal}
use Rattle.pin_access.specs.Counts.{Counts}
use Rattle.pin_access.specs.DieTracks.{IsNearSome}
use Rattle.pin_access.specs.Nearby.{IsRect}
use Rattle.pin_access.proofs.counting.count_near.Given as goal

abbrev pub invariant-loop-level : goal.invariant-loop-level
invariant-loop-level l =
    Counts (IsNearSome (take l.level-index l.levels) l.steps l.rects) l.count
    × (l.count ≤ 2 ^ 33 * l.level-index)
    × (0 < l.level-index → All (λ (m : Metal). IsRect m.1) l.rects)

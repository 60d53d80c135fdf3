use Rattle.std.proofs.Common.{length, ◌-◌, ◌<◌, ◌≤◌}
use Rattle.plain_route.proofs.bounds.group_len.Given as goal

abbrev pub invariant-loop-end : goal.invariant-loop-end
invariant-loop-end l = record {
  some : 0 < l.end;
  within : l.end ≤ length l.stops;
}

abbrev pub decreases-loop-end : goal.decreases-loop-end
decreases-loop-end l = length l.stops - l.end

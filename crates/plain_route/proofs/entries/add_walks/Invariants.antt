use Rattle.std.proofs.Common.{◌≡◌, ◌++◌, drop}
use Rattle.plain_route.specs.Stops.{wire_entries}
use Rattle.plain_route.proofs.entries.add_walks.Given as goal

abbrev pub invariant-loop-walk : goal.invariant-loop-walk
invariant-loop-walk l = l.entries ++ wire_entries (drop l.walk-index l.walks) ≡ l.initial.entries ++ wire_entries l.walks

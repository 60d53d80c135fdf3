use Rattle.std.proofs.Common.{◌≡◌, ◌++◌, drop}
use Rattle.plain_route.specs.Stops.{ends_of}
use Rattle.plain_route.proofs.entries.add_ends.Given as goal

abbrev pub invariant-loop-e : goal.invariant-loop-e
invariant-loop-e l = l.entries ++ ends_of (drop l.e-index l.edges) ≡ l.initial.entries ++ ends_of l.edges

use Rattle.std.proofs.Common.{◌≡◌, take}
use Rattle.plain_route.specs.Guided.{to_stops}
use Rattle.plain_route.proofs.bounds.least_bound.Given as goal

abbrev pub invariant-bounds : goal.invariant-bounds
invariant-bounds l = l.least ≡ to_stops l.design (take l.bound-index l.bounds) l.from

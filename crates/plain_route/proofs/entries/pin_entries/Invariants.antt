use Rattle.std.proofs.Common.{◌≡◌, ◌++◌, drop}
use Rattle.plain_route.specs.Stops.{pin_entries}
use Rattle.plain_route.proofs.entries.pin_entries.Given as goal

abbrev pub invariant-loop-i : goal.invariant-loop-i
invariant-loop-i l = l.entries ++ pin_entries l.wanted (drop l.i l.joined) (drop l.i l.pins) ≡ pin_entries l.wanted l.joined l.pins

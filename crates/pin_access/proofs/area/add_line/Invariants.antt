use Rattle.std.proofs.Common.{◌≡◌, ◌++◌, drop}
use Rattle.pin_access.specs.Nearby.{near_on_line}
use Rattle.pin_access.proofs.area.add_line.Given as goal

abbrev pub invariant-loop-position : goal.invariant-loop-position
invariant-loop-position l = l.out.items ++ near_on_line l.tech l.area (drop l.position-index l.positions) l.line ≡ l.initial.out.items ++ near_on_line l.tech l.area l.positions l.line

use Rattle.std.proofs.Common.{◌≡◌, ◌++◌, drop}
use Rattle.pin_access.specs.Nearby.{near_on_lines}
use Rattle.pin_access.proofs.area.add_lines.Given as goal

abbrev pub invariant-loop-line : goal.invariant-loop-line
invariant-loop-line l = l.out.items ++ near_on_lines l.tech l.area (drop l.line-index l.lines) l.positions ≡ l.initial.out.items ++ near_on_lines l.tech l.area l.lines l.positions

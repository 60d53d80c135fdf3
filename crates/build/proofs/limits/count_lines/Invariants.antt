use Rattle.std.proofs.Common.{◌≡◌, take}
use Rattle.build.specs.Faults.{lines_said}
use Rattle.build.proofs.limits.count_lines.Given as goal

abbrev pub invariant-loop-row : goal.invariant-loop-row
invariant-loop-row l = l.lines ≡ lines_said l.layer (take l.row-index l.rows)

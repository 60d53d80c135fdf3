use Rattle.std.proofs.Common.{◌≡◌, None, take}
use Rattle.build.specs.Faults.{first_by, row_fault}
use Rattle.build.proofs.checks.check_rows.Given as goal

abbrev pub invariant-loop-row : goal.invariant-loop-row
invariant-loop-row l = first_by (row_fault l.layers) (take l.row-index l.rows) ≡ None

use Rattle.std.proofs.Common.{◌≡◌, take}
use Rattle.build.proofs.copies.copy_rows.Given as goal

abbrev pub invariant-loop-width : goal.invariant-loop-width
invariant-loop-width l = l.copy ≡ take l.width-index l.rows

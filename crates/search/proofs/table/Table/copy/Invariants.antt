use Rattle.std.proofs.Common.{◌≡◌, take}
use Rattle.search.proofs.table.Table.copy.Given as goal

abbrev pub invariant-loop-i : goal.invariant-loop-i
invariant-loop-i g l = l.of.entries ≡ take l.i l.self

use Rattle.std.proofs.Common.{◌≡◌, take}
use Rattle.build.proofs.copies.copy_counts.Given as goal

abbrev pub invariant-loop-name : goal.invariant-loop-name
invariant-loop-name l = l.copy ≡ take l.name-index l.counts

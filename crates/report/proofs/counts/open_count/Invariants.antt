use Rattle.std.proofs.Common.{◌≡◌, count_by, take}
use Rattle.std.specs.List.{zip}
use Rattle.report.specs.Lines.{is_open}
use Rattle.report.proofs.counts.open_count.Given as goal

abbrev pub invariant-loop-i : goal.invariant-loop-i
invariant-loop-i l = l.count ≡ count_by is_open (take l.i (zip l.nets l.states))

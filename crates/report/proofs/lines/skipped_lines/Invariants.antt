use Rattle.std.proofs.Common.{◌≡◌, ◌++◌, take}
use Rattle.std.specs.Prelude.{flat_map}
use Rattle.report.specs.Lines.{skipped_line}
use Rattle.report.proofs.lines.skipped_lines.Given as goal

abbrev pub invariant-loop-count : goal.invariant-loop-count
invariant-loop-count l = l.text ≡ l.fn.text ++ flat_map skipped_line (take l.count-index l.counts)

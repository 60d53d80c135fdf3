use Rattle.std.proofs.Common.{◌≡◌, ◌++◌, take}
use Rattle.std.specs.Prelude.{flat_map}
use Rattle.report.specs.Lines.{unguided_line}
use Rattle.report.proofs.lines.unguided_lines.Given as goal

abbrev pub invariant-loop-net : goal.invariant-loop-net
invariant-loop-net l = l.text ≡ l.fn.text ++ flat_map unguided_line (take l.net-index l.nets)

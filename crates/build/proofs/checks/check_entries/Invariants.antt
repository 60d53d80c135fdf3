use Rattle.std.proofs.Common.{◌≡◌, None, take}
use Rattle.build.specs.Faults.{first_by, guide_fault}
use Rattle.build.proofs.checks.check_entries.Given as goal

abbrev pub invariant-loop-guide : goal.invariant-loop-guide
invariant-loop-guide l = first_by (guide_fault l.known.layers l.known.nets) (take l.guide-index l.guides) ≡ None

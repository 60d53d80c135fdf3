use Rattle.std.proofs.Common.{◌≡◌, take}
use Rattle.label_arena.specs.Keeping.{run_ends}
use Rattle.label_arena.proofs.ends.end_runs.Given as goal

abbrev pub invariant-runs : goal.invariant-runs
invariant-runs l = l.ends.items ≡ run_ends 0 (take l.no l.runs)

use Rattle.std.proofs.Common.{◌≡◌, take}
use Rattle.label_arena.specs.Keeping.{bridge_ends}
use Rattle.label_arena.proofs.ends.end_bridges.Given as goal

abbrev pub invariant-bridges : goal.invariant-bridges
invariant-bridges l = l.ends.items ≡ bridge_ends 0 (take l.no l.bridges)

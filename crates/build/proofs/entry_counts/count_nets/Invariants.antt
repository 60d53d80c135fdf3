use Rattle.std.proofs.Common.{◌≤◌, ◌*◌, ◌^◌, take}
use Rattle.build.specs.EntryCounts.{NetsHave}
use Rattle.build.specs.Ground.{input_on, system_on}
use Rattle.build.proofs.entry_counts.count_nets.Given as goal

abbrev pub invariant-loop-net : goal.invariant-loop-net
invariant-loop-net l =
    NetsHave (input_on l.on) (system_on l.on) (take l.net-index l.nets) l.count
    × (l.count ≤ 2 ^ 91 * l.net-index)

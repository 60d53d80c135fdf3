use Rattle.std.proofs.Common.{◌≤◌, ◌*◌, ◌^◌, take}
use Rattle.build.specs.EntryCounts.{PinsHave}
use Rattle.build.specs.Ground.{input_on, system_on}
use Rattle.build.proofs.entry_counts.count_pins.Given as goal

abbrev pub invariant-loop-connection : goal.invariant-loop-connection
invariant-loop-connection l =
    PinsHave (input_on l.on).lef (input_on l.on).def (system_on l.on) (take l.connection-index l.connections) l.count
    × (l.count ≤ 2 ^ 59 * l.connection-index)

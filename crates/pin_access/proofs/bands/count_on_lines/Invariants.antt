use Rattle.std.proofs.Common.{◌≤◌, ◌*◌, take}
use Rattle.pin_access.specs.Bands.{IsNearBands}
use Rattle.pin_access.specs.Counts.{Counts}
use Rattle.pin_access.proofs.bands.count_on_lines.Given as goal

abbrev pub invariant-loop-line : goal.invariant-loop-line
invariant-loop-line l = Counts (IsNearBands l.reach l.bands (take l.line-index l.lines) l.positions) l.count × (l.count ≤ 131072 * l.line-index)

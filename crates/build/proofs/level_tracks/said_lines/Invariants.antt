use Rattle.std.proofs.Common.{◌≤◌, ℤ, length, Contains, ◌↔◌, take}
use Rattle.build.specs.Lines.{HasSomeLine}
use Rattle.build.specs.TrackLines.{line_count}
use Rattle.build.proofs.level_tracks.said_lines.Given as goal

abbrev pub invariant-loop-row : goal.invariant-loop-row
invariant-loop-row l =
    ((z : ℤ) → Contains l.lines.items z ↔ HasSomeLine (take l.row-index l.rows) l.layer z)
    × (length l.lines.items ≤ line_count l.layer (take l.row-index l.rows))

use Rattle.std.proofs.Common.{◌≡◌, take}
use Rattle.build.specs.TrackLines.{largest_step}
use Rattle.build.proofs.level_tracks.level_step.Given as goal

abbrev pub invariant-loop-row : goal.invariant-loop-row
invariant-loop-row l = l.most ≡ largest_step (take l.row-index l.rows) l.layer

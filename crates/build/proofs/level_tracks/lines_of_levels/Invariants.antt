use Rattle.std.proofs.Common.{take}
use Rattle.std.specs.List.{AllZip}
use Rattle.build.specs.Lines.{IsLevel}
use Rattle.build.specs.TrackLines.{routing_layers}
use Rattle.build.proofs.level_tracks.lines_of_levels.Given as goal

abbrev pub invariant-loop-layer : goal.invariant-loop-layer
invariant-loop-layer l = AllZip (IsLevel l.rows) (routing_layers (take l.layer-index l.layers)) l.levels

use Rattle.std.proofs.Common.{◌≡◌, map, take}
use Rattle.build.specs.TrackLines.{largest_step, routing_layers}
use Rattle.build.proofs.level_tracks.steps_of_levels.Given as goal

abbrev pub invariant-loop-layer : goal.invariant-loop-layer
invariant-loop-layer l = l.steps ≡ map (largest_step l.rows) (routing_layers (take l.layer-index l.layers))

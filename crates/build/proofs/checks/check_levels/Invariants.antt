use Rattle.std.proofs.Common.{◌≡◌, None, take}
use Rattle.build.specs.Faults.{first_by, level_fault}
use Rattle.build.specs.TrackLines.{routing_layers}
use Rattle.build.proofs.checks.check_levels.Given as goal

abbrev pub invariant-loop-layer : goal.invariant-loop-layer
invariant-loop-layer l = first_by (level_fault l.rows) (routing_layers (take l.layer-index l.layers)) ≡ None

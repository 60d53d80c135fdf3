use Rattle.std.proofs.Common.{◌≡◌, take, length}
use Rattle.build.specs.Built.{whole_guide}
use Rattle.build.specs.TrackLines.{routing_layers}
use Rattle.build.proofs.nets.die_on_levels.Given as goal

abbrev pub invariant-loop-layer : goal.invariant-loop-layer
invariant-loop-layer l = (l.boxes ≡ whole_guide l.die (take l.layer-index l.layers)) × (l.level ≡ length (routing_layers (take l.layer-index l.layers)))

use Rattle.std.proofs.Common.{◌≡◌, None, take}
use Rattle.rt_base.specs.declared.tech.Layer.{Layer}
use Rattle.build.specs.declared.error.Limited.TheVariants.{Tracks}
use Rattle.build.specs.Faults.{first_by, lines_said, limit_fault}
use Rattle.build.specs.TrackLines.{routing_layers}
use Rattle.build.proofs.limits.check_lines.Given as goal

abbrev pub invariant-loop-layer : goal.invariant-loop-layer
invariant-loop-layer l = first_by (λ (layer : Layer). limit_fault Tracks (lines_said layer l.rows) 65536) (routing_layers (take l.layer-index l.layers)) ≡ None

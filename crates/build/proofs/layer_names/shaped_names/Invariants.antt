use Rattle.std.proofs.Common.{◌≡◌, map, take}
use Rattle.rt_base.specs.declared.tech.Layer.{Layer}
use Rattle.build.proofs.layer_names.shaped_names.Given as goal

abbrev pub invariant-loop-layer : goal.invariant-loop-layer
invariant-loop-layer l = l.names ≡ map (λ (layer : Layer). layer.name) (take l.layer-index l.layers)

use Rattle.std.proofs.Common.{◌≡◌, drop, fold}
use Rattle.rt_base.specs.declared.tech.LayerNo.{LayerNo}
use Rattle.rt_base.specs.Sides.{Sides}
use Rattle.lef_text.specs.OnLayers.{with_shape}
use Rattle.lef_text.specs.GeneratedVias.{layer_of_part, on_layers}
use Rattle.lef_text.proofs.generated_vias.on_layers.Given as goal

abbrev pub invariant-loop-rect : goal.invariant-loop-rect
invariant-loop-rect l = fold (λ all (r : LayerNo × Sides). with_shape all (layer_of_part l.layers r.0) r.1) l.shapes (drop l.rect-index l.rects) ≡ on_layers l.layers l.rects

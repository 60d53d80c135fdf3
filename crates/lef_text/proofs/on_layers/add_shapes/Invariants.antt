use Rattle.std.proofs.Common.{◌≡◌, drop}
use Rattle.lef_text.specs.OnLayers.{with_shapes}
use Rattle.lef_text.proofs.on_layers.add_shapes.Given as goal

abbrev pub invariant-loop-rect : goal.invariant-loop-rect
invariant-loop-rect l = with_shapes l.shapes l.layer (drop l.rect-index l.rects) ≡ with_shapes l.initial.shapes l.layer l.rects

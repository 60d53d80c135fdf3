use Rattle.std.proofs.Common.{◌≡◌, take}
use Rattle.net_guides.specs.NetGuides.{level_names}
use Rattle.net_guides.proofs.index.level_names.Given as goal

abbrev pub invariant-loop-layer : goal.invariant-loop-layer
invariant-loop-layer l = l.names ≡ level_names (take l.layer-index l.layers)

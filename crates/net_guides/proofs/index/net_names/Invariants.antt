use Rattle.std.proofs.Common.{◌≡◌, map, take}
use Rattle.guide_text.specs.IsGuides.{Guide}
use Rattle.net_guides.proofs.index.net_names.Given as goal

abbrev pub invariant-loop-name : goal.invariant-loop-name
invariant-loop-name l = l.names ≡ map (λ (g : Guide). g.0) (take l.name-index l.nets)

use Rattle.std.proofs.Common.{◌∙◌, map, ap}
use Rattle.guide_text.specs.IsGuides.{Guide}
use Rattle.net_guides.proofs.index.NetGuides.new.Goals as goal

pub returns : goal.returns
returns c = record {
  level_names_are = c.in_ok-level_names.ensures;
  net_names_are = c.in_ok-net_names.ensures ∙ ap (map (λ (g : Guide). g.0)) c.as_slice.ensures;
}

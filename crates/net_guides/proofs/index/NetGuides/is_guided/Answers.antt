use Rattle.std.proofs.Common.{◌∙◌, is_some, bytes_eq, ap}
use Rattle.std.specs.List.{list_any}
use Rattle.guide_text.specs.IsGuides.{Guide}
use Rattle.net_guides.proofs.NameLemmas.{any_named, some_place}
use Rattle.net_guides.proofs.index.NetGuides.is_guided.Goals as goal

pub returns : goal.returns
returns c layers guides h =
    c.is_some.ensures
    ∙ ap is_some c.find.ensures
    ∙ some_place (bytes_eq c.args.name.now) c.args.self.now.nets
    ∙ ap (list_any (bytes_eq c.args.name.now)) h.net_names_are
    ∙ any_named (bytes_eq c.args.name.now) (λ (g : Guide). g.0) guides

use Rattle.std.proofs.Common.{◌≡◌, ◌∙◌, ℕ, List, [], Option, position, bytes_eq, option_map, option_and_then, slice_get, unwrap_or, ap}
use Rattle.std.specs.List.{filter_map}
use Rattle.std.proofs.lemmas.Result.{IfOk-weaker}
use Rattle.rt_base.specs.Sides.{Sides}
use Rattle.rt_base.specs.declared.tech.Layer.{Layer}
use Rattle.guide_text.specs.IsGuides.{Guide}
use Rattle.net_guides.specs.NetGuides.{box_among, level_names, boxes_of}
use Rattle.net_guides.specs.Indexes.{IsIndexOf}
use Rattle.net_guides.proofs.NameLemmas.{found_named}
use Rattle.net_guides.proofs.index.NetGuides.boxes.Goals as goal

pub returns : goal.returns
returns c =
    let levels = c.args.self.now.levels in
    let guides = c.args.guides.now.nets in
    let test = bytes_eq c.args.name.now in
    IfOk-weaker c.boxes_on.result (λ (v : List (ℕ × Sides)). v ≡ filter_map (box_among levels) c.entry.result.now) (λ (v : List (ℕ × Sides)). (layers : List Layer) → IsIndexOf layers guides c.args.self.now → v ≡ boxes_of layers guides c.args.name.now)
    (λ v is layers h.
    is
    ∙ ap (λ (names : List (List ℕ)). filter_map (box_among names) c.entry.result.now) h.level_names_are
    ∙ ap (filter_map (box_among (level_names layers)))
    (c.entry.ensures
    ∙ ap (λ (names : List (List ℕ)). unwrap_or (option_map (λ (g : Guide). g.1) (option_and_then (slice_get guides) (position test names))) []) h.net_names_are
    ∙ ap (λ (o : Option Guide). unwrap_or (option_map (λ (g : Guide). g.1) o) []) (found_named test (λ (g : Guide). g.0) guides)))
    c.boxes_on.ensures

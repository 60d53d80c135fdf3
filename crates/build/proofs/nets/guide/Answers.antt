use Rattle.std.proofs.Common.{◌≡◌, Option, Some, option_map, Bor, ap}
use Rattle.std.specs.Option.{option_copied}
use Rattle.guide_text.specs.declared.guides.Guides.{Guides}
use Rattle.build.specs.Ground.{input_on}
use Rattle.build.proofs.GuideLemmas.{boxes_ok}
use Rattle.build.proofs.nets.guide.Goals as goal

pub returns-in-Some : goal.returns-in-Some
returns-in-Some c =
    let i = input_on c.args.on.now in
    let at : (input_on c.args.on.now).guides ≡ Some c.in-Some.guides.now.nets = ap (λ (o : Option (Bor Guides)). option_map (λ (g : Guides). g.nets) (option_copied o)) c.in-Some.is in
    boxes_ok c.boxes.result i.def.die c.args.on.now.tech.now.layers i.lef.layers i.guides c.in-Some.guides.now.nets c.args.on.now.guides.now c.args.name.now c.boxes.ensures c.requires.is_index at c.requires.same_layers

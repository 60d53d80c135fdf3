use Rattle.std.proofs.Common.{◌∙◌, ℕ, List, [], ◌∷◌, ◌++◌, bytes_eq, sym, ap}
use Rattle.std.specs.List.{list_any}
use Rattle.guide_text.specs.IsGuides.{Guide}
use Rattle.net_guides.proofs.NameLemmas.{apart_name, map_next, added}
use Rattle.net_guides.proofs.index.net_names.Goals as goal

pub loop-name-preserved : goal.loop-name-preserved
loop-name-preserved c =
    let nets = c.args.nets.now in
    let i = c.loop-name.name-index in
    let net = c.loop-name-item.result in
    let fresh = ap (list_any (bytes_eq net.0)) c.loop-name.invariant ∙ apart_name (λ (g : Guide). g.0) nets i net c.requires.apart c.loop-name-test.true c.loop-name-item.is in
    added c.loop-name.names c.add.new.self c.bytes.result.now net.0 c.in_ok-_added._added c.bytes.ensures c.in_ok-_added.ensures.added c.in_ok-_added.ensures.names fresh
    ∙ ap (λ (names : List (List ℕ)). names ++ net.0 ∷ []) c.loop-name.invariant
    ∙ sym (map_next (λ (g : Guide). g.0) nets i net c.loop-name-test.true c.loop-name-item.is)

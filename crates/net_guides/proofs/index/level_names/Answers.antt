use Rattle.std.proofs.Common.{◌∙◌, ℕ, List, [], ◌∷◌, ◌++◌, take, bytes_eq, sym, ap}
use Rattle.std.specs.List.{list_any}
use Rattle.rt_base.specs.declared.tech.Layer.{Layer}
use Rattle.net_guides.proofs.NameLemmas.{apart_name, apart_items, none_kept, added, levels_more, levels_skip}
use Rattle.net_guides.proofs.index.level_names.Goals.{then-layer+in_ok-_added, else-layer}
use Rattle.net_guides.proofs.index.level_names.Goals as goal

pub loop-layer-preserved : goal.loop-layer-preserved
loop-layer-preserved c =
    let layers = c.args.layers.now in
    let i = c.loop-layer.layer-index in
    let layer = c.layer-item.result in
    let name : Layer → List ℕ = λ (l : Layer). l.name in
    let fresh =
    ap (list_any (bytes_eq layer.name)) c.loop-layer.invariant
    ∙ none_kept (bytes_eq layer.name) (λ (l : Layer). l.name) (λ (l : Layer). l.routing) (take i layers) (apart_name (λ (l : Layer). l.name) layers i layer (apart_items (λ (l : Layer). l.name) layers c.requires) c.loop-layer-test.true c.layer-item.is) in
    elim c.if-layer.branch [
      | then-layer+in_ok-_added w ↦
          w.names-is
          ∙ added c.loop-layer.names w.add.new.self w.bytes.result.now layer.name w.in_ok-_added._added w.bytes.ensures w.in_ok-_added.ensures.added w.in_ok-_added.ensures.names fresh
          ∙ ap (λ (names : List (List ℕ)). names ++ layer.name ∷ []) c.loop-layer.invariant
          ∙ sym (levels_more layers i layer c.loop-layer-test.true c.layer-item.is w.if-layer.true)
      | else-layer w ↦ w.names-is ∙ c.loop-layer.invariant ∙ sym (levels_skip layers i layer c.loop-layer-test.true c.layer-item.is w.if-layer.false)
    ]

use Rattle.std.proofs.Common.{◌∙◌, ℕ, List, [], ◌∷◌, ◌++◌, Bool, not, cond, map, take, sym, ap, bytes_eq}
use Rattle.std.specs.List.{list_any}
use Rattle.rt_base.specs.declared.tech.Layer.{Layer}
use Rattle.cells.proofs.Lists.{apart_name}
use Rattle.build.proofs.Steps.{apart_from_names, map_next}
use Rattle.build.proofs.layer_names.shaped_names.Goals as goal

pub loop-layer-preserved : goal.loop-layer-preserved
loop-layer-preserved c =
    let layers = c.args.layers.now in
    let i = c.loop-layer.layer-index in
    let layer = c.layer-item.result in
    let apart = apart_from_names (λ (l : Layer). l.name) layers c.requires in
    let none = ap (λ (b : List ℕ). list_any (bytes_eq b) c.loop-layer.names) c.bytes.ensures ∙ ap (list_any (bytes_eq layer.name)) c.loop-layer.invariant ∙ apart_name (λ (l : Layer). l.name) layers i layer apart c.loop-layer-test.true c.layer-item.is in
    let added = c.in_ok-_added.ensures.added ∙ ap not none in
    c.in_ok-_added.ensures.names
    ∙ ap (λ (b : Bool). cond b (c.loop-layer.names ++ c.bytes.result.now ∷ []) c.loop-layer.names) added
    ∙ ap (λ (ns : List (List ℕ)). ns ++ c.bytes.result.now ∷ []) c.loop-layer.invariant
    ∙ ap (λ (b : List ℕ). map (λ (l : Layer). l.name) (take i layers) ++ b ∷ []) c.bytes.ensures
    ∙ sym (map_next (λ (l : Layer). l.name) layers i layer c.loop-layer-test.true c.layer-item.is)

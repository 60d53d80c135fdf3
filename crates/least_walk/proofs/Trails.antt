use Rattle.std.proofs.Common.{◌≡◌, ℕ, ◌<◌, ap, ◌∙◌, List, [], ◌∷◌, ◌++◌, length, reverse, get_or}
use Rattle.std.proofs.lemmas.Option.{unwrap_or-slice_get}
use Rattle.std.proofs.lemmas.List.{reverse-append}
use Rattle.rt_base.specs.declared.walk.Edge.{Edge}
use Rattle.rt_base.specs.declared.walk.EdgeKind.{EdgeKind}
use Rattle.least_walk.specs.declared.label.Label.{Label}
use Rattle.least_walk.specs.declared.label.Origin.{Origin}
use Rattle.least_walk.specs.declared.label.Origin.TheVariants.{After}
use Rattle.least_walk.specs.Labels.{label_at, no_label, IsTrail}

pub origin_got : (ls : List Label) (at : ℕ) (o : Origin) → (get_or ls at no_label).origin ≡ o → (label_at ls at).origin ≡ o
origin_got ls at o e = ap (λ (x : Label). x.origin) (unwrap_or-slice_get ls at no_label) ∙ e

-- one edge further back
pub trail_more : (ls : List Label) (number at before : ℕ) (kind : EdgeKind) (edges more : List Edge) → at < length ls → (get_or ls at no_label).origin ≡ After before kind → IsTrail ls at (reverse edges) number → more ≡ edges ++ record { kind = kind; to = (get_or ls at no_label).vertex } ∷ [] → IsTrail ls before (reverse more) number
trail_more ls number at before kind edges more l o h e =
    let x : Edge = record { kind = kind; to = (get_or ls at no_label).vertex } in
    let r : reverse more ≡ x ∷ reverse edges = ap reverse e ∙ reverse-append edges (x ∷ []) in
    rw r (at, l, origin_got ls at (After before kind) o, ap (λ (y : Label). y.vertex) (unwrap_or-slice_get ls at no_label), h)

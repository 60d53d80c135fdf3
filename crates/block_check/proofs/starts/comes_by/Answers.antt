use Rattle.std.proofs.Common.{◌≡◌, ⊎_elim, List, Any, Contains, refl, subst, sym, rules}
use Rattle.rt_base.specs.declared.walk.Edge.{Edge}
use Rattle.rt_base.specs.declared.walk.Vertex.{Vertex}
use Rattle.track_graph.specs.Walks.{vertices_of}
use Rattle.block_check.proofs.Members.{vertices-ends, vertices-only, vertices-start}
use Rattle.block_check.proofs.starts.comes_by.Goals as goal

pub returns-then-eq : goal.returns-then-eq
returns-then-eq c =
    let same : c.args.walk.now.start.vertex ≡ c.args.vertex = search rules in
    (λ _. subst (λ (v : Vertex). Contains (vertices_of c.args.walk.now.start.vertex c.args.walk.now.edges) v) same (vertices-start c.args.walk.now.start.vertex c.args.walk.now.edges), λ _. refl)

pub returns : goal.returns
returns c =
    let other : c.args.walk.now.start.vertex ≡ c.args.vertex → ⊥ = search rules in
    let ends : Any (λ (e : Edge). e.to ≡ c.args.vertex) c.as_slice.result.now → Any (λ (e : Edge). e.to ≡ c.args.vertex) c.args.walk.now.edges = λ h. subst (λ (es : List Edge). Any (λ (e : Edge). e.to ≡ c.args.vertex) es) c.as_slice.ensures h in (
      λ yes. vertices-ends c.args.walk.now.start.vertex c.args.walk.now.edges c.args.vertex (ends (c.ends_at.ensures.0 yes)),
      λ has. ⊎_elim
          (λ (here : c.args.walk.now.start.vertex ≡ c.args.vertex). absurd (other here))
          (λ (any : Any (λ (e : Edge). e.to ≡ c.args.vertex) c.args.walk.now.edges). c.ends_at.ensures.1 (subst (λ (es : List Edge). Any (λ (e : Edge). e.to ≡ c.args.vertex) es) (sym c.as_slice.ensures) any))
          (vertices-only c.args.walk.now.start.vertex c.args.walk.now.edges c.args.vertex has),
    )

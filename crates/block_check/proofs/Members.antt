-- What lists and walks have.
use Rattle.std.proofs.Common.{◌≡◌, ◌⊎◌, ⊎_elim, inl, inr, suc, List, [], ◌∷◌, get_or, refl, sym, subst, Any, Contains, arith}
use Rattle.rt_base.specs.declared.walk.Edge.{Edge}
use Rattle.rt_base.specs.declared.walk.Vertex.{Vertex}
use Rattle.rt_base.proofs.Lists.{Any-cases, Any-here, Any-there, Any-none, in_cons, none_in}
use Rattle.track_graph.specs.Walks.{vertices_of}

-- an equal one is in the list
pub contains-from_any : {X : Type 0} (xs : List X) (x : X) → Any (λ (y : X). y ≡ x) xs → Contains xs x
contains-from_any {X} xs x (k, y, l, is, e) = (k, l, subst (λ (z : X). get_or xs k z ≡ z) e is)

pub any-from_contains : {X : Type 0} (xs : List X) (x : X) → Contains xs x → Any (λ (y : X). y ≡ x) xs
any-from_contains xs x (k, l, e) = (k, x, l, e, refl)

-- a walk has the vertex that it begins at
pub vertices-start : (v : Vertex) (es : List Edge) → Contains (vertices_of v es) v
vertices-start v [] = (0, omega arith, refl)
vertices-start v (e ∷ es) = (0, omega arith, refl)

-- and those that its edges end at
pub vertices-ends : (v : Vertex) (es : List Edge) (u : Vertex) → Any (λ (e : Edge). e.to ≡ u) es → Contains (vertices_of v es) u
vertices-ends v [] u h = absurd (Any-none (λ (e : Edge). e.to ≡ u) h)
vertices-ends v (e ∷ es) u h =
    let rest : Contains (vertices_of e.to es) u = ⊎_elim
    (λ (here : e.to ≡ u). subst (λ (x : Vertex). Contains (vertices_of e.to es) x) here (vertices-start e.to es))
    (λ (later : Any (λ (f : Edge). f.to ≡ u) es). vertices-ends e.to es u later)
    (Any-cases (λ (f : Edge). f.to ≡ u) e es h) in
    (suc rest.0, omega (arith, rest.1), rest.2)

-- and no other
pub vertices-only : (v : Vertex) (es : List Edge) (u : Vertex) → Contains (vertices_of v es) u → (v ≡ u) ⊎ Any (λ (e : Edge). e.to ≡ u) es
vertices-only v [] u c = ⊎_elim (λ (e : u ≡ v). inl (sym e)) (λ (none : Contains [] u). absurd (none_in u none)) (in_cons v [] u c)
vertices-only v (e ∷ es) u c = ⊎_elim
    (λ (here : u ≡ v). inl (sym here))
    (λ (later : Contains (vertices_of e.to es) u). ⊎_elim
    (λ (end : e.to ≡ u). inr (Any-here (λ (f : Edge). f.to ≡ u) e es end))
    (λ (any : Any (λ (f : Edge). f.to ≡ u) es). inr (Any-there (λ (f : Edge). f.to ≡ u) e es any))
    (vertices-only e.to es u later))
    (in_cons v (vertices_of e.to es) u c)

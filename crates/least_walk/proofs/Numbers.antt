use Rattle.std.proofs.Common.{◌≡◌, ◌⊎◌, inl, inr, ℕ, ℤ, Bool, true, false, cond, ◌&&◌, nat_eq, sym, refl, ap, ◌∙◌, List, Some, ⊎_elim}
use Rattle.std.specs.Ordering.{int_eq}
use Rattle.std.specs.Cmp.{signed_Decides}
use Rattle.std.proofs.lemmas.Bool.{and_parts, eqb-true, eq-eqb}
use Rattle.rt_base.specs.declared.walk.Vertex.{Vertex}
use Rattle.least_walk.specs.Known.{same_vertex, number_of, Sets}

pub bool_cases : (b : Bool) → (b ≡ true) ⊎ (b ≡ false)
bool_cases true = inl refl
bool_cases false = inr refl

vertex_from_fields : (a b : Vertex) → a.level ≡ b.level → a.point.x ≡ b.point.x → a.point.y ≡ b.point.y → a ≡ b
vertex_from_fields a b l x y = ap (λ (n : ℕ). let v : Vertex = record { level = n; point = a.point } in v) l
    ∙ ap (λ (n : ℤ). let v : Vertex = record { level = b.level; point = record { x = n; y = a.point.y } } in v) x
    ∙ ap (λ (n : ℤ). let v : Vertex = record { level = b.level; point = record { x = b.point.x; y = n } } in v) y

pub vertex_from_same : (a b : Vertex) → same_vertex a b ≡ true → a ≡ b
vertex_from_same a b h =
    let l : (nat_eq a.level b.level ≡ true) × ((int_eq a.point.x b.point.x && int_eq a.point.y b.point.y) ≡ true) = and_parts _ _ h in
    let p : (int_eq a.point.x b.point.x ≡ true) × (int_eq a.point.y b.point.y ≡ true) = and_parts _ _ l.1 in
    vertex_from_fields a b (eqb-true _ _ l.0) ((signed_Decides _ _).0 p.0) ((signed_Decides _ _).0 p.1)

same_self : (a : Vertex) → same_vertex a a ≡ true
same_self a =
    let l : nat_eq a.level a.level ≡ true = eq-eqb _ _ refl in
    let x : int_eq a.point.x a.point.x ≡ true = (signed_Decides a.point.x a.point.x).1 refl in
    let y : int_eq a.point.y a.point.y ≡ true = (signed_Decides a.point.y a.point.y).1 refl in
    ap (λ (b : Bool). b && (int_eq a.point.x a.point.x && int_eq a.point.y a.point.y)) l
    ∙ ap (λ (b : Bool). true && (b && int_eq a.point.y a.point.y)) x
    ∙ ap (λ (b : Bool). true && (true && b)) y

pub sets_from : (v : Vertex) (n : ℕ) (old new : List (Vertex × ℕ)) → ((u : Vertex) → number_of new u ≡ cond (same_vertex v u) (Some n) (number_of old u)) → Sets v n old new
sets_from v n old new h = record {
  here = h v ∙ ap (λ (b : Bool). cond b (Some n) (number_of old v)) (same_self v);
  apart = λ u. ⊎_elim
      (λ (e : same_vertex v u ≡ true). inl (sym (vertex_from_same v u e)))
      (λ (e : same_vertex v u ≡ false). inr (h u ∙ ap (λ (b : Bool). cond b (Some n) (number_of old u)) e))
      (bool_cases (same_vertex v u));
}

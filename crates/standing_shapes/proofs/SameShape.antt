-- Whether two shapes are the same, as a test, and that a list which counts a shape has it.
use Rattle.std.proofs.Common.{◌≡◌, ◌∙◌, ℕ, ◌+◌, ◌≤◌, ℤ, Bool, true, false, ◌&&◌, cond, suc, eqb, eqb-true, eq-eqb, List, [], ◌∷◌, refl, sym, ap, Contains, arith}
use Rattle.std.specs.Ordering.{int_eq}
use Rattle.std.specs.List.{sum_by}
use Rattle.std.proofs.lemmas.Bool.{and_parts}
use Rattle.std.proofs.lemmas.Bool.Decides.{Decides-int_eq}
use Rattle.std.proofs.lemmas.List.Sums.{sum_by-cons}
use Rattle.rt_base.specs.Sides.{Sides}
use Rattle.rt_base.specs.declared.tech.Owner.{Owner}
use Rattle.rt_base.specs.declared.tech.Owner.TheVariants.{Net as OfNet, Nobody}
use Rattle.rt_base.specs.declared.tech.Shape.{Shape}

abbrev made_sides : ℤ → ℤ → ℤ → ℤ → Sides
made_sides xl yl xh yh = record { xl = xl; yl = yl; xh = xh; yh = yh }

abbrev same_sides : Sides → Sides → Bool
same_sides a b = int_eq a.xl b.xl && int_eq a.yl b.yl && int_eq a.xh b.xh && int_eq a.yh b.yh

same_sides-true : (a b : Sides) → same_sides a b ≡ true → a ≡ b
same_sides-true a b h =
    let p = and_parts (int_eq a.xl b.xl && int_eq a.yl b.yl && int_eq a.xh b.xh) (int_eq a.yh b.yh) h in
    let q = and_parts (int_eq a.xl b.xl && int_eq a.yl b.yl) (int_eq a.xh b.xh) p.0 in
    let r = and_parts (int_eq a.xl b.xl) (int_eq a.yl b.yl) q.0 in
    let xl : a.xl ≡ b.xl = (Decides-int_eq a.xl b.xl).0 r.0 in
    let yl : a.yl ≡ b.yl = (Decides-int_eq a.yl b.yl).0 r.1 in
    let xh : a.xh ≡ b.xh = (Decides-int_eq a.xh b.xh).0 q.1 in
    let yh : a.yh ≡ b.yh = (Decides-int_eq a.yh b.yh).0 p.1 in
    let made : made_sides a.xl a.yl a.xh a.yh ≡ made_sides b.xl b.yl b.xh b.yh =
    ap (λ (x : ℤ). made_sides x a.yl a.xh a.yh) xl
    ∙ ap (λ (x : ℤ). made_sides b.xl x a.xh a.yh) yl
    ∙ ap (λ (x : ℤ). made_sides b.xl b.yl x a.yh) xh
    ∙ ap (λ (x : ℤ). made_sides b.xl b.yl b.xh x) yh in
    made

same_sides-refl : (a : Sides) → same_sides a a ≡ true
same_sides-refl a =
    let xl : int_eq a.xl a.xl ≡ true = (Decides-int_eq a.xl a.xl).1 refl in
    let yl : int_eq a.yl a.yl ≡ true = (Decides-int_eq a.yl a.yl).1 refl in
    let xh : int_eq a.xh a.xh ≡ true = (Decides-int_eq a.xh a.xh).1 refl in
    let yh : int_eq a.yh a.yh ≡ true = (Decides-int_eq a.yh a.yh).1 refl in
    rw (xl, yl, xh, yh) refl

abbrev same_owner : Owner → Owner → Bool
same_owner Nobody Nobody = true
same_owner Nobody (OfNet m) = false
same_owner (OfNet n) Nobody = false
same_owner (OfNet n) (OfNet m) = eqb n m

same_owner-true : (a b : Owner) → same_owner a b ≡ true → a ≡ b
same_owner-true Nobody Nobody h = refl
same_owner-true Nobody (OfNet m) h = absurd cc
same_owner-true (OfNet n) Nobody h = absurd cc
same_owner-true (OfNet n) (OfNet m) h = ap (λ (k : ℕ). OfNet k) (eqb-true n m h)

same_owner-refl : (a : Owner) → same_owner a a ≡ true
same_owner-refl Nobody = refl
same_owner-refl (OfNet n) = eq-eqb n n refl

abbrev same_bool : Bool → Bool → Bool
same_bool true b = b
same_bool false true = false
same_bool false false = true

same_bool-true : (a b : Bool) → same_bool a b ≡ true → a ≡ b
same_bool-true true b h = sym h
same_bool-true false true h = absurd cc
same_bool-true false false h = refl

same_bool-refl : (a : Bool) → same_bool a a ≡ true
same_bool-refl true = refl
same_bool-refl false = refl

abbrev made_shape : ℕ → Sides → Owner → Bool → Shape
made_shape layer rect owner fixed = record { layer = record { 0 = layer }; rect = rect; owner = owner; fixed = fixed }

abbrev pub same_shape : Shape → Shape → Bool
same_shape a b = eqb a.layer.0 b.layer.0 && same_sides a.rect b.rect && same_owner a.owner b.owner && same_bool a.fixed b.fixed

same_shape-true : (a b : Shape) → same_shape a b ≡ true → a ≡ b
same_shape-true a b h =
    let p = and_parts (eqb a.layer.0 b.layer.0 && same_sides a.rect b.rect && same_owner a.owner b.owner) (same_bool a.fixed b.fixed) h in
    let q = and_parts (eqb a.layer.0 b.layer.0 && same_sides a.rect b.rect) (same_owner a.owner b.owner) p.0 in
    let r = and_parts (eqb a.layer.0 b.layer.0) (same_sides a.rect b.rect) q.0 in
    let layer : a.layer.0 ≡ b.layer.0 = eqb-true a.layer.0 b.layer.0 r.0 in
    let rect : a.rect ≡ b.rect = same_sides-true a.rect b.rect r.1 in
    let owner : a.owner ≡ b.owner = same_owner-true a.owner b.owner q.1 in
    let fixed : a.fixed ≡ b.fixed = same_bool-true a.fixed b.fixed p.1 in
    let made : made_shape a.layer.0 a.rect a.owner a.fixed ≡ made_shape b.layer.0 b.rect b.owner b.fixed =
    ap (λ (x : ℕ). made_shape x a.rect a.owner a.fixed) layer
    ∙ ap (λ (x : Sides). made_shape b.layer.0 x a.owner a.fixed) rect
    ∙ ap (λ (x : Owner). made_shape b.layer.0 b.rect x a.fixed) owner
    ∙ ap (λ (x : Bool). made_shape b.layer.0 b.rect b.owner x) fixed in
    made

same_shape-refl : (a : Shape) → same_shape a a ≡ true
same_shape-refl a =
    let layer : eqb a.layer.0 a.layer.0 ≡ true = eq-eqb a.layer.0 a.layer.0 refl in
    rw (layer, same_sides-refl a.rect, same_owner-refl a.owner, same_bool-refl a.fixed) refl

-- 1 at this shape, and 0 at any other
abbrev pub count_of : Shape → Shape → ℕ
count_of a b = cond (same_shape a b) 1 0

pub count_of-same : (a : Shape) → count_of a a ≡ 1
count_of-same a = rw (same_shape-refl a) refl

-- a list that counts a shape has it
pub counted-contains : (a : Shape) (xs : List Shape) → 1 ≤ sum_by (count_of a) xs → Contains xs a
counted-contains a [] h = absurd (omega arith)
counted-contains a (x ∷ xs) h = by_test (same_shape a x) refl (counted-contains a xs)
  where
    by_test : (b : Bool) → same_shape a x ≡ b → (1 ≤ sum_by (count_of a) xs → Contains xs a) → Contains (x ∷ xs) a
    by_test true e later = (0, omega arith, sym (same_shape-true a x e))
    by_test false e later =
        let parts : sum_by (count_of a) (x ∷ xs) ≡ count_of a x + sum_by (count_of a) xs = sum_by-cons (count_of a) x xs in
        let none : count_of a x ≡ 0 = rw e refl in
        let rest : Contains xs a = later (omega arith) in
        (suc rest.0, omega (arith, rest.1), rest.2)

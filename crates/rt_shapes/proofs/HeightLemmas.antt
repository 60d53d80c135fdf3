-- The heights of a polygon's points.
use Rattle.std.proofs.Common.{◌≡◌, ◌⊎◌, [], ◌∷◌, ℤ, inl, inr, List, fold, get_or, All, Any, refl, sym, subst}
use Rattle.std.proofs.lemmas.Int.{by_lt_z}
use Rattle.std.proofs.lemmas.List.Elements.{All-nil, All-cons, All-head, All-tail, Contains-get_or}
use Rattle.rt_base.specs.declared.geometry.Point.{Point}
use Rattle.rt_shapes.specs.Polygons.{IsAscending, with_number}
use Rattle.rt_shapes.proofs.Risings.{lt_true, lt_false, same_from_both, ascending-with_number}

-- a number is one of these
abbrev pub IsOneOf : ℤ → List ℤ → Type 0
IsOneOf z [] = ⊥
IsOneOf z (y ∷ ys) = (z ≡ y) ⊎ IsOneOf z ys

pub one_of-all : (P : ℤ → Type 0) (z : ℤ) (ys : List ℤ) → All P ys → IsOneOf z ys → P z
one_of-all P z [] all one = absurd one
one_of-all P z (y ∷ ys) all (inl is) = subst P (sym is) (All-head P y ys all)
one_of-all P z (y ∷ ys) all (inr one) = one_of-all P z ys (All-tail P y ys all) one

with_number-new : (z : ℤ) (ys : List ℤ) → IsOneOf z (with_number z ys)
with_number-new z [] = inl refl
with_number-new z (y ∷ ys) = by_lt_z z y
    (λ lt. rw (lt_true z y lt) (inl refl))
    (λ ge. by_lt_z y z
    (λ lt. rw (lt_false z y ge, lt_true y z lt) (inr (with_number-new z ys)))
    (λ le. rw (lt_false z y ge, lt_false y z le) (inl (same_from_both z y le ge))))

with_number-kept : (z w : ℤ) (ys : List ℤ) → IsOneOf w ys → IsOneOf w (with_number z ys)
with_number-kept z w [] one = absurd one
with_number-kept z w (y ∷ ys) one = by_lt_z z y
    (λ lt. rw (lt_true z y lt) (inr one))
    (λ ge. by_lt_z y z
    (λ lt. rw (lt_false z y ge, lt_true y z lt) (elim one [ inl is ↦ inl is | inr later ↦ inr (with_number-kept z w ys later) ]))
    (λ le. rw (lt_false z y ge, lt_false y z le) one))

heights-kept : (w : ℤ) (ys : List ℤ) (points : List Point) → IsOneOf w ys → IsOneOf w (fold (λ zs (p : Point). with_number p.y zs) ys points)
heights-kept w ys [] one = one
heights-kept w ys (p ∷ ps) one = heights-kept w (with_number p.y ys) ps (with_number-kept p.y w ys one)

pub heights-have : (ys : List ℤ) (points : List Point) → All (λ (p : Point). IsOneOf p.y (fold (λ zs (q : Point). with_number q.y zs) ys points)) points
heights-have ys [] = All-nil (λ (p : Point). IsOneOf p.y ys)
heights-have ys (p ∷ ps) = All-cons (λ (q : Point). IsOneOf q.y (fold (λ zs (r : Point). with_number r.y zs) (with_number p.y ys) ps)) p ps (heights-kept p.y (with_number p.y ys) ps (with_number-new p.y ys)) (heights-have (with_number p.y ys) ps)

pub heights-ascending : (ys : List ℤ) (points : List Point) → IsAscending ys → IsAscending (fold (λ zs (p : Point). with_number p.y zs) ys points)
heights-ascending ys [] up = up
heights-ascending ys (p ∷ ps) up = heights-ascending (with_number p.y ys) ps (ascending-with_number p.y ys up)

-- a point stands at this height
abbrev pub IsHeight : List Point → ℤ → Type 0
IsHeight points z = Any (λ (p : Point). p.y ≡ z) points

pub own-heights : (points : List Point) → All (λ (p : Point). IsHeight points p.y) points
own-heights points k d h = let at = Contains-get_or points k d h in (at.0, get_or points k d, at.1, at.2, refl)

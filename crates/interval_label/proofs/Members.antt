use Rattle.std.proofs.Common.{◌≡◌, ◌≢◌, ◌⊎◌, inl, inr, zero, suc, ℤ, sym, refl, ap, subst, List, [], ◌∷◌, Contains, arith, ⊎_elim}
use Rattle.interval_label.specs.declared.marking.Mark.{Mark}
use Rattle.interval_label.proofs.Strips.{cases_z}

-- an element of a list with a first element is that one or is of the rest
pub contains_cons : {X : Type 0} (a : X) (xs : List X) (b : X) → Contains (a ∷ xs) b → (b ≡ a) ⊎ Contains xs b
contains_cons a xs b (zero, h, e) = inl (sym e)
contains_cons a xs b (suc k, h, e) = inr (k, omega arith, e)

pub contains_first : {X : Type 0} (a : X) (xs : List X) → Contains (a ∷ xs) a
contains_first a xs = (0, omega arith, refl)

pub contains_rest : {X : Type 0} (a : X) (xs : List X) (b : X) → Contains xs b → Contains (a ∷ xs) b
contains_rest a xs b (k, h, e) = (suc k, omega arith, e)

pub none_in : {X : Type 0} (b : X) → Contains [] b → ⊥
none_in b (k, h, e) = omega (arith, h)

same_mark : (x y : Mark) → x.coord ≡ y.coord → x ≡ y
same_mark x y e = ap (λ (z : ℤ). let m : Mark = record { coord = z } in m) e

-- whether a mark is in a list
pub has_mark : (xs : List Mark) (x : Mark) → Contains xs x ⊎ (Contains xs x → ⊥)
has_mark [] x = inr (none_in x)
has_mark (y ∷ xs) x = ⊎_elim
    (λ (e : x.coord ≡ y.coord). inl (subst (λ (z : Mark). Contains (y ∷ xs) z) (sym (same_mark x y e)) (contains_first y xs)))
    (λ (n : x.coord ≢ y.coord). ⊎_elim
    (λ (h : Contains xs x). inl (contains_rest y xs x h))
    (λ (h : Contains xs x → ⊥). inr (λ c. ⊎_elim (λ (e : x ≡ y). n (ap (λ (m : Mark). m.coord) e)) (λ (r : Contains xs x). h r) (contains_cons y xs x c)))
    (has_mark xs x))
    (cases_z x.coord y.coord)

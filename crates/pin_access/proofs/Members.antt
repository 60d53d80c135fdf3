-- What a list, its images and its parts contain.
use Rattle.std.proofs.Common.{◌≡◌, ◌⊎◌, inl, inr, ⊎_elim, zero, suc, Bool, true, false, cond, List, [], ◌∷◌, map, filter, Contains, refl, sym, ap, subst, ◌∙◌, arith}
use Rattle.std.specs.List.{flat_map}
use Rattle.std.proofs.lemmas.List.Elements.{Contains-append_left, Contains-append_right, Contains-append_cases}

pub contains_cases : {X : Type 0} → (x : X) (xs : List X) (y : X) → Contains (x ∷ xs) y → (x ≡ y) ⊎ Contains xs y
contains_cases x xs y (zero, lt, is) = inl is
contains_cases x xs y (suc k, lt, is) = inr (k, omega arith, is)

pub contains_none : {X : Type 0} → (y : X) → Contains [] y → ⊥
contains_none y (k, lt, is) = omega arith

pub contains_here : {X : Type 0} → (x : X) (xs : List X) → Contains (x ∷ xs) x
contains_here x xs = (0, omega arith, refl)

pub contains_there : {X : Type 0} → (x : X) (xs : List X) (y : X) → Contains xs y → Contains (x ∷ xs) y
contains_there x xs y (k, lt, is) = (suc k, omega arith, is)

pub contains_image : {X Y : Type 0} → (f : X → Y) (xs : List X) (x : X) → Contains xs x → Contains (map f xs) (f x)
contains_image f [] x h = absurd (contains_none x h)
contains_image f (y ∷ ys) x h = ⊎_elim
    (λ (e : y ≡ x). subst (λ z. Contains (f y ∷ map f ys) (f z)) e (contains_here (f y) (map f ys)))
    (λ (t : Contains ys x). contains_there (f y) (map f ys) (f x) (contains_image f ys x t))
    (contains_cases y ys x h)

pub from_image : {X Y : Type 0} → (f : X → Y) (xs : List X) (y : Y) → Contains (map f xs) y → (x : X) × Contains xs x × (f x ≡ y)
from_image f [] y h = absurd (contains_none y h)
from_image {X} f (x ∷ xs) y h = ⊎_elim
    (λ (e : f x ≡ y). (x, contains_here x xs, e))
    (λ (t : Contains (map f xs) y). let rest : (w : X) × Contains xs w × (f w ≡ y) = from_image f xs y t in (rest.0, contains_there x xs rest.0 rest.1, rest.2))
    (contains_cases (f x) (map f xs) y h)

pub contains_kept : {X : Type 0} → (p : X → Bool) (xs : List X) (x : X) → Contains xs x → p x ≡ true → Contains (filter p xs) x
contains_kept p [] x h t = h
contains_kept p (y ∷ ys) x h t = ⊎_elim
    (λ (e : y ≡ x). let passes : p y ≡ true = ap p e ∙ t in rw passes (subst (λ z. Contains (y ∷ filter p ys) z) e (contains_here y (filter p ys))))
    (λ (in_rest : Contains ys x). by_test (p y) (contains_kept p ys x in_rest t))
    (contains_cases y ys x h)
  where
    by_test : (b : Bool) → Contains (filter p ys) x → Contains (cond b (y ∷ filter p ys) (filter p ys)) x
    by_test true rest = contains_there y (filter p ys) x rest
    by_test false rest = rest

pub from_kept : {X : Type 0} → (p : X → Bool) (xs : List X) (x : X) → Contains (filter p xs) x → Contains xs x × (p x ≡ true)
from_kept p [] x h = absurd (contains_none x h)
from_kept {X} p (y ∷ ys) x h = by_test (p y) refl h (from_kept p ys x)
  where
    by_test : (b : Bool) → p y ≡ b → Contains (cond b (y ∷ filter p ys) (filter p ys)) x → (Contains (filter p ys) x → Contains ys x × (p x ≡ true)) → Contains (y ∷ ys) x × (p x ≡ true)
    by_test true is h rest = ⊎_elim
        (λ (e : y ≡ x). (subst (λ z. Contains (y ∷ ys) z) e (contains_here y ys), ap p (sym e) ∙ is))
        (λ (t : Contains (filter p ys) x). let r : Contains ys x × (p x ≡ true) = rest t in (contains_there y ys x r.0, r.1))
        (contains_cases y (filter p ys) x h)
    by_test false is h rest = let r : Contains ys x × (p x ≡ true) = rest h in (contains_there y ys x r.0, r.1)

pub contains_piece : {X Y : Type 0} → (f : X → List Y) (xs : List X) (x : X) (y : Y) → Contains xs x → Contains (f x) y → Contains (flat_map f xs) y
contains_piece f [] x y h k = absurd (contains_none x h)
contains_piece f (w ∷ ws) x y h k = ⊎_elim
    (λ (e : w ≡ x). Contains-append_left (f w) (flat_map f ws) y (subst (λ z. Contains (f z) y) (sym e) k))
    (λ (t : Contains ws x). Contains-append_right (f w) (flat_map f ws) y (contains_piece f ws x y t k))
    (contains_cases w ws x h)

pub from_piece : {X Y : Type 0} → (f : X → List Y) (xs : List X) (y : Y) → Contains (flat_map f xs) y → (x : X) × Contains xs x × Contains (f x) y
from_piece f [] y h = absurd (contains_none y h)
from_piece {X} f (x ∷ xs) y h = ⊎_elim
    (λ (t : Contains (f x) y). (x, contains_here x xs, t))
    (λ (t : Contains (flat_map f xs) y). let rest : (w : X) × Contains xs w × Contains (f w) y = from_piece f xs y t in (rest.0, contains_there x xs rest.0 rest.1, rest.2))
    (Contains-append_cases (f x) (flat_map f xs) y h)

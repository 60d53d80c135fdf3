-- What holds of each element of a list, part by part.
use Rattle.std.proofs.Common.{◌≡◌, ℕ, zero, suc, ◌≤◌, List, [], ◌∷◌, ◌++◌, map, flat_map, fold, Some, All, refl, subst, arith, max}
use Rattle.std.specs.Prelude.{slice_get}
use Rattle.std.specs.List.{AllZip, zip}
use Rattle.std.proofs.lemmas.List.Elements.{All-nil, All-head, All-tail, All-cons, All-map}
use Rattle.std.proofs.lemmas.Option.{same_Some}

pub all_left : {X : Type 0} (P : X → Type 0) (xs ys : List X) → All P (xs ++ ys) → All P xs
all_left P [] ys h = All-nil P
all_left P (x ∷ xs) ys h = All-cons P x xs (All-head P x (xs ++ ys) h) (all_left P xs ys (All-tail P x (xs ++ ys) h))

pub all_right : {X : Type 0} (P : X → Type 0) (xs ys : List X) → All P (xs ++ ys) → All P ys
all_right P [] ys h = h
all_right P (x ∷ xs) ys h = all_right P xs ys (All-tail P x (xs ++ ys) h)

-- of the parts of each
pub all_parts : {X Y : Type 0} (P : Y → Type 0) (f : X → List Y) (xs : List X) → All P (flat_map f xs) → All (λ x. All P (f x)) xs
all_parts P f [] h = All-nil (λ x. All P (f x))
all_parts P f (x ∷ xs) h = All-cons (λ y. All P (f y)) x xs (all_left P (f x) (flat_map f xs) h) (all_parts P f xs (all_right P (f x) (flat_map f xs) h))

pub all_unmapped : {X Y : Type 0} (P : Y → Type 0) (f : X → Y) (xs : List X) → All P (map f xs) → All (λ x. P (f x)) xs
all_unmapped P f [] h = All-nil (λ x. P (f x))
all_unmapped P f (x ∷ xs) h = All-cons (λ y. P (f y)) x xs (All-head P (f x) (map f xs) h) (all_unmapped P f xs (All-tail P (f x) (map f xs) h))

-- a greatest value is at least each
max_from : {X : Type 0} (h : X → ℕ) (a : ℕ) (xs : List X) → a ≤ fold (λ (most : ℕ) (x : X). max most (h x)) a xs
max_from h a [] = omega arith
max_from h a (x ∷ xs) = let later : max a (h x) ≤ fold (λ most y. max most (h y)) (max a (h x)) xs = max_from h (max a (h x)) xs in omega arith

pub max_each : {X : Type 0} (h : X → ℕ) (a most : ℕ) (xs : List X) → fold (λ (n : ℕ) (x : X). max n (h x)) a xs ≤ most → All (λ x. h x ≤ most) xs
max_each h a most [] le = All-nil (λ x. h x ≤ most)
max_each h a most (x ∷ xs) le =
    let later : max a (h x) ≤ fold (λ n y. max n (h y)) (max a (h x)) xs = max_from h (max a (h x)) xs in
    All-cons (λ y. h y ≤ most) x xs (omega arith) (max_each h (max a (h x)) most xs le)

-- the partner of an item
pub zip_first : {A B : Type 0} (R : A → B → Type 0) (xs : List A) (ys : List B) (k : ℕ) (x : A) → AllZip R xs ys → slice_get xs k ≡ Some x → (y : B) × (slice_get ys k ≡ Some y) × R x y
zip_first R [] [] k x h e = absurd cc
zip_first R [] (b ∷ ys) k x h e = absurd h
zip_first R (a ∷ xs) [] k x h e = absurd h
zip_first R (a ∷ xs) (b ∷ ys) zero x h e = (b, refl, subst (λ z. R z b) (same_Some a x e) h.0)
zip_first R (a ∷ xs) (b ∷ ys) (suc k) x h e = zip_first R xs ys k x h.1 e

-- what holds of each holds of one of them
pub all_at : {X : Type 0} (P : X → Type 0) (xs : List X) → All P xs → (k : ℕ) (x : X) → slice_get xs k ≡ Some x → P x
all_at P [] all k x e = absurd cc
all_at P (y ∷ xs) all zero x e = subst P (same_Some y x e) (All-head P y xs all)
all_at P (y ∷ xs) all (suc k) x e = all_at P xs (All-tail P y xs all) k x e

-- what is said of names holds of items with the same names
pub all_named : {X Y : Type 0} (P : List ℕ → Type 0) (f : X → List ℕ) (g : Y → List ℕ) (xs : List X) (ys : List Y) → map f xs ≡ map g ys → All (λ x. P (f x)) xs → All (λ y. P (g y)) ys
all_named P f g xs ys same all = all_unmapped P g ys (subst (All P) same (All-map P f xs all))

-- the first of a pair of a zip
pub zip_left : {A B : Type 0} (xs : List A) (ys : List B) (k : ℕ) (p : A × B) → slice_get (zip xs ys) k ≡ Some p → (x : A) × (slice_get xs k ≡ Some x)
zip_left [] ys k p e = absurd cc
zip_left (x ∷ xs) [] k p e = absurd cc
zip_left (x ∷ xs) (y ∷ ys) zero p e = (x, refl)
zip_left (x ∷ xs) (y ∷ ys) (suc k) p e = zip_left xs ys k p e

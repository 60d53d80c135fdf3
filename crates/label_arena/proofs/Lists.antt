-- Lists that grow at their end or change in one place.
use Rattle.std.proofs.Common.{◌≡◌, ◌≢◌, ◌⊎◌, inl, inr, ℕ, ◌+◌, ◌<◌, zero, suc, sym, refl, ap, ◌∙◌, List, [], ◌∷◌, ◌++◌, length, drop, Some, Contains, arith, add-one, slice_get, slice_set}
use Rattle.std.proofs.lemmas.Option.{slice_get_within}
use Rattle.std.proofs.lemmas.List.{length-append}

pub get_left : {X : Type 0} (xs : List X) (y : X) (k : ℕ) → k < length xs → slice_get (xs ++ y ∷ []) k ≡ slice_get xs k
get_left [] y k h = absurd (omega arith)
get_left (x ∷ xs) y zero h = refl
get_left (x ∷ xs) y (suc k) h = get_left xs y k (omega arith)

pub get_last : {X : Type 0} (xs : List X) (y : X) → slice_get (xs ++ y ∷ []) (length xs) ≡ Some y
get_last [] y = refl
get_last (x ∷ xs) y = get_last xs y

pub get_more : {X : Type 0} (xs : List X) (y : X) (k : ℕ) (x : X) → slice_get xs k ≡ Some x → slice_get (xs ++ y ∷ []) k ≡ Some x
get_more xs y k x h = get_left xs y k (slice_get_within xs k x h) ∙ h

pub length_more : {X : Type 0} (xs : List X) (y : X) → length (xs ++ y ∷ []) ≡ length xs + 1
length_more xs y = omega (arith, length-append xs (y ∷ []))

-- what a list with one more at its end has
pub get_cases : {X : Type 0} (xs : List X) (y : X) (k : ℕ) (x : X) → slice_get (xs ++ y ∷ []) k ≡ Some x → (slice_get xs k ≡ Some x) ⊎ ((k ≡ length xs) × (x ≡ y))
get_cases [] y zero x h = inr (refl, cc)
get_cases [] y (suc k) x h = absurd (cc)
get_cases (z ∷ xs) y zero x h = inl h
get_cases (z ∷ xs) y (suc k) x h = step (get_cases xs y k x h)
  where
    step : (slice_get xs k ≡ Some x) ⊎ ((k ≡ length xs) × (x ≡ y)) → (slice_get xs k ≡ Some x) ⊎ ((suc k ≡ suc (length xs)) × (x ≡ y))
    step (inl e) = inl e
    step (inr e) = inr (ap suc e.0, e.1)

pub get_set_same : {X : Type 0} (xs : List X) (i : ℕ) (y : X) → i < length xs → slice_get (slice_set xs i y) i ≡ Some y
get_set_same [] i y h = absurd (omega arith)
get_set_same (x ∷ xs) zero y h = refl
get_set_same (x ∷ xs) (suc i) y h = get_set_same xs i y (omega arith)

pub get_set_other : {X : Type 0} (xs : List X) (i j : ℕ) (y : X) → j ≢ i → slice_get (slice_set xs i y) j ≡ slice_get xs j
get_set_other [] i j y h = refl
get_set_other (x ∷ xs) zero zero y h = absurd (h refl)
get_set_other (x ∷ xs) zero (suc j) y h = refl
get_set_other (x ∷ xs) (suc i) zero y h = refl
get_set_other (x ∷ xs) (suc i) (suc j) y h = get_set_other xs i j y (λ e. h (ap suc e))

pub drop_get : {X : Type 0} (xs : List X) (p : ℕ) (y : X) → slice_get xs p ≡ Some y → drop p xs ≡ y ∷ drop (p + 1) xs
drop_get [] p y h = absurd (cc)
drop_get (x ∷ xs) zero y h = cc
drop_get (x ∷ xs) (suc p) y h = rw (add-one (suc p)) (rw (add-one p) at (drop_get xs p y h))

-- an element of a list with a first element is that one or is of the rest
pub contains_cons : {X : Type 0} (a : X) (xs : List X) (b : X) → Contains (a ∷ xs) b → (b ≡ a) ⊎ Contains xs b
contains_cons a xs b (zero, h, e) = inl (sym e)
contains_cons a xs b (suc k, h, e) = inr (k, omega arith, e)

pub contains_first : {X : Type 0} (a : X) (xs : List X) → Contains (a ∷ xs) a
contains_first a xs = (0, omega arith, refl)

pub contains_rest : {X : Type 0} (a : X) (xs : List X) (b : X) → Contains xs b → Contains (a ∷ xs) b
contains_rest a xs b (k, h, e) = (suc k, omega arith, e)

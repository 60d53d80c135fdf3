-- Partners in lists that correspond.
use Rattle.std.proofs.Common.{◌≡◌, ℕ, zero, suc, List, [], ◌∷◌, Some, slice_get, refl, subst}
use Rattle.std.specs.List.{AllZip}
use Rattle.std.proofs.lemmas.Option.{same_Some}

pub AllZip-second : {A B : Type 0} → (R : A → B → Type 0) (xs : List A) (ys : List B) (k : ℕ) (y : B) → AllZip R xs ys → slice_get ys k ≡ Some y → (x : A) × (slice_get xs k ≡ Some x) × R x y
AllZip-second R [] [] k y h at = cc
AllZip-second R [] (b ∷ bs) k y h at = absurd h
AllZip-second R (a ∷ as') [] k y h at = absurd h
AllZip-second {A} R (a ∷ as') (b ∷ bs) zero y h at = (a, refl, subst (R a) (same_Some b y at) h.0)
AllZip-second R (a ∷ as') (b ∷ bs) (suc k) y h at = AllZip-second R as' bs k y h.1 at

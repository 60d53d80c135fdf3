-- Some element of a list, and each pair of its elements.
use Rattle.std.proofs.Common.{◌⊎◌, [], ◌∷◌, ◌++◌, inl, inr, zero, suc, List, All, Any, AllPairs, refl, sym, subst, arith}
use Rattle.std.proofs.lemmas.List.Elements.{All-head, All-tail, All-append}
use Rattle.std.proofs.lemmas.List.Kept.{AllPairs-cons}

-- some element of a list
pub any-here : {X : Type 0} (P : X → Type 0) (x : X) (xs : List X) → P x → Any P (x ∷ xs)
any-here P x xs p = (0, x, omega arith, refl, p)

pub any-later : {X : Type 0} (P : X → Type 0) (x : X) (xs : List X) → Any P xs → Any P (x ∷ xs)
any-later P x xs (k, z, lt, is, p) = (suc k, z, omega arith, is, p)

pub any-cases : {X : Type 0} (P : X → Type 0) (x : X) (xs : List X) → Any P (x ∷ xs) → P x ⊎ Any P xs
any-cases P x xs (zero, z, lt, is, p) = inl (subst P (sym is) p)
any-cases P x xs (suc k, z, lt, is, p) = inr (k, z, omega arith, is, p)

pub any-none : {X : Type 0} (P : X → Type 0) → Any P [] → ⊥
any-none P (k, z, lt, is, p) = absurd (omega arith)

pub any-left : {X : Type 0} (P : X → Type 0) (xs ys : List X) → Any P xs → Any P (xs ++ ys)
any-left P [] ys some = absurd (any-none P some)
any-left P (x ∷ xs) ys some = elim (any-cases P x xs some) [ inl h ↦ any-here P x (xs ++ ys) h | inr h ↦ any-later P x (xs ++ ys) (any-left P xs ys h) ]

pub any-right : {X : Type 0} (P : X → Type 0) (xs ys : List X) → Any P ys → Any P (xs ++ ys)
any-right P [] ys some = some
any-right P (x ∷ xs) ys some = any-later P x (xs ++ ys) (any-right P xs ys some)

pub any-sides : {X : Type 0} (P : X → Type 0) (xs ys : List X) → Any P (xs ++ ys) → Any P xs ⊎ Any P ys
any-sides P [] ys some = inr some
any-sides P (x ∷ xs) ys some = elim (any-cases P x (xs ++ ys) some) [
  | inl h ↦ inl (any-here P x xs h)
  | inr h ↦ elim (any-sides P xs ys h) [ inl k ↦ inl (any-later P x xs k) | inr k ↦ inr k ]
]

pub all_pairs-nil : {X : Type 0} (R : X → X → Type 0) → AllPairs R []
all_pairs-nil R i j d lt h = absurd (omega arith)

all_pairs-tail : {X : Type 0} (R : X → X → Type 0) (x : X) (xs : List X) → AllPairs R (x ∷ xs) → AllPairs R xs
all_pairs-tail R x xs all i j d lt h = all (suc i) (suc j) d (omega arith) (omega arith)

all_pairs-head : {X : Type 0} (R : X → X → Type 0) (x : X) (xs : List X) → AllPairs R (x ∷ xs) → All (R x) xs
all_pairs-head R x xs all k d h = all 0 (suc k) d (omega arith) (omega arith)

pub all_pairs-append : {X : Type 0} (R : X → X → Type 0) (xs ys : List X) → AllPairs R xs → AllPairs R ys → All (λ x. All (R x) ys) xs → AllPairs R (xs ++ ys)
all_pairs-append R [] ys left right across = right
all_pairs-append R (x ∷ xs) ys left right across = AllPairs-cons R x (xs ++ ys) (All-append (R x) xs ys (all_pairs-head R x xs left) (All-head (λ z. All (R z) ys) x xs across)) (all_pairs-append R xs ys (all_pairs-tail R x xs left) right (All-tail (λ z. All (R z) ys) x xs across))

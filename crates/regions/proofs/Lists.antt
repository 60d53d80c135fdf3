-- What lists have when one item is added.
use Rattle.std.proofs.Common.{◌≡◌, ◌⊎◌, ◌↔◌, ◌∙◌, ℕ, ◌+◌, ◌<◌, List, [], ◌∷◌, ◌++◌, length, get_or, take, All, AllPairs, Any, inl, inr, refl, sym, ap, subst, arith}
use Rattle.std.specs.List.Sorted.{IsPermutation}
use Rattle.rt_base.proofs.Lists.{Any-none, Any-cases, Any-there}
use Rattle.std.proofs.lemmas.List.{take_more, get_or_push, get_or_append_left, length_push}
use Rattle.std.proofs.lemmas.List.Sorted.{Contains-permutation}

-- what stands before an item, and the item
pub next : {X : Type 0} → (xs : List X) (i : ℕ) (x : X) → i < length xs → x ≡ get_or xs i x → take (i + 1) xs ≡ take i xs ++ x ∷ []
next {X} xs i x within at = take_more xs i x within ∙ ap (λ (y : X). take i xs ++ y ∷ []) (sym at)

Any-last : {X : Type 0} → (P : X → Type 0) (xs : List X) (x : X) → Any P (xs ++ x ∷ []) → Any P xs ⊎ P x
Any-last P [] x h =
    elim (Any-cases P x [] h) [
      | inl p ↦ inr p
      | inr none ↦ absurd (Any-none P none)
    ]
Any-last P (y ∷ ys) x h =
    elim (Any-cases P y (ys ++ x ∷ []) h) [
      | inl p ↦ inl (0, y, omega arith, refl, p)
      | inr rest ↦ elim (Any-last P ys x rest) [ inl some ↦ inl (Any-there P y ys some) | inr p ↦ inr p ]
    ]

Any-before : {X : Type 0} → (P : X → Type 0) (xs : List X) (x : X) → Any P xs → Any P (xs ++ x ∷ [])
Any-before P [] x h = absurd (Any-none P h)
Any-before P (y ∷ ys) x h =
    elim (Any-cases P y ys h) [
      | inl p ↦ (0, y, omega arith, refl, p)
      | inr rest ↦ Any-there P y (ys ++ x ∷ []) (Any-before P ys x rest)
    ]

Any-end : {X : Type 0} → (P : X → Type 0) (xs : List X) (x : X) → P x → Any P (xs ++ x ∷ [])
Any-end P [] x p = (0, x, omega arith, refl, p)
Any-end P (y ∷ ys) x p = Any-there P y (ys ++ x ∷ []) (Any-end P ys x p)

-- one item more
pub any_push : {X : Type 0} → (P : X → Type 0) (xs : List X) (x : X) → Any P (xs ++ x ∷ []) ↔ (Any P xs ⊎ P x)
any_push P xs x = (
  Any-last P xs x,
  λ h. elim h [
    | inl some ↦ Any-before P xs x some
    | inr p ↦ Any-end P xs x p
  ],
)

-- one item more of a list
pub any_more : {X : Type 0} → (P : X → Type 0) (xs : List X) (i : ℕ) (x : X) → i < length xs → x ≡ get_or xs i x → Any P (take (i + 1) xs) ↔ (Any P (take i xs) ⊎ P x)
any_more {X} P xs i x within at = subst (λ (ys : List X). Any P ys ↔ (Any P (take i xs) ⊎ P x)) (sym (next xs i x within at)) (any_push P (take i xs) x)

pub any_weaker : {X : Type 0} → (P Q : X → Type 0) (xs : List X) → ((x : X) → P x → Q x) → Any P xs → Any Q xs
any_weaker P Q xs f (k, x, lt, is, h) = (k, x, lt, is, f x h)

-- the same items in another order
pub any_moved : {X : Type 0} → (P : X → Type 0) (xs ys : List X) → IsPermutation xs ys → Any P xs → Any P ys
any_moved P xs ys moved (k, x, lt, is, h) = let c = Contains-permutation xs ys x moved (k, lt, is) in (c.0, x, c.1, c.2, h)

-- a list with an item at its end, in parts
pub all_parts : {X : Type 0} → (P : X → Type 0) (xs : List X) (x : X) → All P (xs ++ x ∷ []) → All P xs × P x
all_parts P xs x all = (
  λ k d lt. subst P (get_or_append_left xs (x ∷ []) d k lt) (all k d (omega (arith, length_push xs x))),
  subst P (get_or_push xs x x (length xs) refl) (all (length xs) x (omega (arith, length_push xs x))),
)

pub pairs_parts : {X : Type 0} → (R : X → X → Type 0) (xs : List X) (x : X) → AllPairs R (xs ++ x ∷ []) → AllPairs R xs × ((k : ℕ) (d : X) → k < length xs → R (get_or xs k d) x)
pairs_parts {X} R xs x pairs = (
  λ i j d lt within.
      subst (λ (y : X). R y (get_or xs j d)) (get_or_append_left xs (x ∷ []) d i (omega arith))
      (subst (R (get_or (xs ++ x ∷ []) i d)) (get_or_append_left xs (x ∷ []) d j within) (pairs i j d lt (omega (arith, length_push xs x)))),
  λ k d lt.
      subst (λ (y : X). R y x) (get_or_append_left xs (x ∷ []) d k lt)
      (subst (R (get_or (xs ++ x ∷ []) k d)) (get_or_push xs x d (length xs) refl) (pairs k (length xs) d lt (omega (arith, length_push xs x)))),
)

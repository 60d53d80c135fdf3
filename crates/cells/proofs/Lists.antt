-- Lists: what is found in them, names that are apart, and lists that correspond item by item.
use Rattle.std.proofs.Common.{◌≡◌, ◌≢◌, ℕ, zero, suc, ◌+◌, ◌<◌, List, [], ◌∷◌, ◌++◌, length, get_or, take, map, Bool, true, false, ◌||◌, Option, Some, None, All, AllPairs, cond, slice_get, option_and_then, refl, sym, ap, subst, ◌∙◌, inl, inr, arith, bytes_eq, position, is_some}
use Rattle.std.specs.Option.{option_or}
use Rattle.std.specs.List.{find, AllZip, list_any, position_from, position_or_len, enumerate_from}
use Rattle.std.proofs.lemmas.Bool.{cases_Bool, cases_lt, lt-ltb, le-ltb}
use Rattle.std.proofs.lemmas.Option.{same_Some, slice_get_past}
use Rattle.std.proofs.lemmas.List.{take_more}
use Rattle.std.proofs.lemmas.List.Folds.{list_any-append, find_at}
use Rattle.std.proofs.lemmas.Iterator.Adapters.{position_from-zero}
use Rattle.std.proofs.lemmas.List.Elements.{All-head, All-tail}
use Rattle.rt_words.proofs.Words.{unequal}

-- what is found is one of those
pub All-found : {X : Type 0} → (P : X → Type 0) (test : X → Bool) (xs : List X) (y : X) → All P xs → find test xs ≡ Some y → P y
All-found P test [] y all h = cc
All-found {X} P test (x ∷ xs) y all h = by_test (test x) h (λ e. All-found P test xs y (All-tail P x xs all) e)
  where
    by_test : (b : Bool) → cond b (Some x) (find test xs) ≡ Some y → (find test xs ≡ Some y → P y) → P y
    by_test true e later = subst P (same_Some x y e) (All-head P x xs all)
    by_test false e later = later e

some_from : {X : Type 0} → (p : X → Bool) (n : ℕ) (xs : List X) → is_some (position_from p n xs) ≡ list_any p xs
some_from p n [] = refl
some_from {X} p n (x ∷ xs) =
    elim (cases_Bool (p x)) [
      | inl hit ↦ rw hit refl
      | inr miss ↦ rw miss (some_from p (n + 1) xs)
    ]

-- there is a first place where some place is
pub is_some-position : {X : Type 0} → (p : X → Bool) (xs : List X) → is_some (position p xs) ≡ list_any p xs
is_some-position p xs = ap is_some (position_from-zero p xs) ∙ some_from p 0 xs

position_from-push : {X : Type 0} → (p : X → Bool) (n : ℕ) (xs : List X) (x : X) → position_from p n (xs ++ x ∷ []) ≡ option_or (position_from p n xs) (cond (p x) (Some (n + length xs)) None)
position_from-push p n [] x = ap (λ (k : ℕ). cond (p x) (Some k) None) (omega arith)
position_from-push {X} p n (y ∷ ys) x =
    elim (cases_Bool (p y)) [
      | inl hit ↦ rw hit refl
      | inr miss ↦ rw miss (position_from-push p (n + 1) ys x ∙ ap (λ (k : ℕ). option_or (position_from p (n + 1) ys) (cond (p x) (Some k) None)) (omega arith))
    ]

-- the first place in a list with one item more
pub position-push : {X : Type 0} → (p : X → Bool) (xs : List X) (x : X) → position p (xs ++ x ∷ []) ≡ option_or (position p xs) (cond (p x) (Some (length xs)) None)
position-push p xs x =
    position_from-zero p (xs ++ x ∷ [])
    ∙ position_from-push p 0 xs x
    ∙ ap (λ (o : Option ℕ). option_or o (cond (p x) (Some (0 + length xs)) None)) (sym (position_from-zero p xs))
    ∙ ap (λ (k : ℕ). option_or (position p xs) (cond (p x) (Some k) None)) (omega arith)

-- a name that differs from each before it isn't among these
pub apart_name : {X : Type 0} → (name : X → List ℕ) (xs : List X) (i : ℕ) (x : X) → AllPairs (λ a b. name a ≢ name b) xs → i < length xs → x ≡ get_or xs i x → list_any (bytes_eq (name x)) (map name (take i xs)) ≡ false
apart_name name [] i x apart within at = absurd (omega arith)
apart_name name (y ∷ ys) zero x apart within at = refl
apart_name {X} name (y ∷ ys) (suc i) x apart within at =
    let differs : name y ≢ name x = subst (λ (z : X). name y ≢ name z) (sym at) (apart zero (suc i) x (omega arith) within) in
    let miss : bytes_eq (name x) (name y) ≡ false = unequal (name x) (name y) (λ e. differs (sym e)) in
    let tail : AllPairs (λ a b. name a ≢ name b) ys = λ k j d lt inside. apart (suc k) (suc j) d (omega arith) (omega arith) in
    rw miss (apart_name name ys i x tail (omega arith) at)

-- one item more of both
pub AllZip-more : {A B : Type 0} → (R : A → B → Type 0) (xs : List A) (ys : List B) (x : A) (y : B) → AllZip R xs ys → R x y → AllZip R (xs ++ x ∷ []) (ys ++ y ∷ [])
AllZip-more R [] [] x y h r = (r, tt)
AllZip-more R [] (b ∷ bs) x y h r = absurd h
AllZip-more R (a ∷ as') [] x y h r = absurd h
AllZip-more R (a ∷ as') (b ∷ bs) x y h r = (h.0, AllZip-more R as' bs x y h.1 r)

pub AllZip-weaker : {A B : Type 0} → (R S : A → B → Type 0) → ((x : A) (y : B) → R x y → S x y) → (xs : List A) (ys : List B) → AllZip R xs ys → AllZip S xs ys
AllZip-weaker R S f [] [] h = tt
AllZip-weaker R S f [] (b ∷ bs) h = absurd h
AllZip-weaker R S f (a ∷ as') [] h = absurd h
AllZip-weaker R S f (a ∷ as') (b ∷ bs) h = (f a b h.0, AllZip-weaker R S f as' bs h.1)

-- numbered items, one more
pub enumerate_from-more : {X : Type 0} → (n : ℕ) (xs : List X) (x : X) → enumerate_from n (xs ++ x ∷ []) ≡ enumerate_from n xs ++ (n + length xs, x) ∷ []
enumerate_from-more n [] x = ap (λ (k : ℕ). (k, x) ∷ []) (omega arith)
enumerate_from-more n (y ∷ ys) x = ap (λ (zs : List (ℕ × _)). (n, y) ∷ zs) (enumerate_from-more (n + 1) ys x ∙ ap (λ (k : ℕ). enumerate_from (n + 1) ys ++ (k, x) ∷ []) (omega arith))

-- what is found, by its place
pub found_place : {X : Type 0} → (p : X → Bool) (xs : List X) → find p xs ≡ option_and_then (slice_get xs) (position p xs)
found_place {X} p xs =
    find_at p xs
    ∙ elim (cases_lt (position_or_len p xs) (length xs)) [
      | inl within ↦ rw (lt-ltb (position_or_len p xs) (length xs) within) refl
      | inr past ↦ rw (le-ltb (position_or_len p xs) (length xs) past) (slice_get_past xs (position_or_len p xs) past)
    ]

-- what stands before an item, and the item
pub next : {X : Type 0} → (xs : List X) (i : ℕ) (x : X) → i < length xs → x ≡ get_or xs i x → take (i + 1) xs ≡ take i xs ++ x ∷ []
next {X} xs i x within at = take_more xs i x within ∙ ap (λ (y : X). take i xs ++ y ∷ []) (sym at)

pub taken_more : {A B : Type 0} → (R : A → B → Type 0) (xs : List A) (i : ℕ) (x : A) (ys : List B) (y : B) → i < length xs → x ≡ get_or xs i x → AllZip R (take i xs) ys → R x y → AllZip R (take (i + 1) xs) (ys ++ y ∷ [])
taken_more {A} {B} R xs i x ys y within at h r = subst (λ (zs : List A). AllZip R zs (ys ++ y ∷ [])) (sym (next xs i x within at)) (AllZip-more R (take i xs) ys x y h r)

pub or-false : (b : Bool) → (b || false) ≡ b
or-false true = refl
or-false false = refl

-- whether one of these, or one more, passes
pub any_more : {X : Type 0} → (p : X → Bool) (xs : List X) (i : ℕ) (x : X) → i < length xs → x ≡ get_or xs i x → list_any p (take (i + 1) xs) ≡ (list_any p (take i xs) || p x)
any_more p xs i x within at =
    ap (list_any p) (next xs i x within at)
    ∙ list_any-append p (take i xs) (x ∷ [])
    ∙ ap (λ (b : Bool). list_any p (take i xs) || b) (or-false (p x))

-- partners at one place
pub AllZip-at : {A B : Type 0} → (R : A → B → Type 0) (xs : List A) (ys : List B) (k : ℕ) (x : A) (y : B) → AllZip R xs ys → slice_get xs k ≡ Some x → slice_get ys k ≡ Some y → R x y
AllZip-at R [] ys k x y h a b = cc
AllZip-at R (a ∷ as') [] k x y h s t = absurd h
AllZip-at {A} {B} R (a ∷ as') (b ∷ bs) zero x y h s t = subst (λ (z : A). R z y) (same_Some a x s) (subst (R a) (same_Some b y t) h.0)
AllZip-at R (a ∷ as') (b ∷ bs) (suc k) x y h s t = AllZip-at R as' bs k x y h.1 s t

pub AllZip-length : {A B : Type 0} → (R : A → B → Type 0) (xs : List A) (ys : List B) → AllZip R xs ys → length xs ≡ length ys
AllZip-length R [] [] h = refl
AllZip-length R [] (b ∷ bs) h = absurd h
AllZip-length R (a ∷ as') [] h = absurd h
AllZip-length R (a ∷ as') (b ∷ bs) h = ap suc (AllZip-length R as' bs h.1)

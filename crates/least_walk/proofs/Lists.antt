use Rattle.std.proofs.Common.{◌≡◌, ◌≢◌, ◌⊎◌, inl, inr, ℕ, ◌+◌, ◌<◌, ◌≤◌, zero, suc, sym, refl, ap, ◌∙◌, List, [], ◌∷◌, ◌++◌, length, Option, Some, Contains, arith, slice_get, slice_set, unwrap_or, get_or, ⊎_elim}
use Rattle.std.proofs.lemmas.Bool.{cases_lt}
use Rattle.std.proofs.lemmas.Option.{slice_get_within, get_or_from_slice_get, slice_get_read, unwrap_or-slice_get, same_Some}
use Rattle.std.proofs.lemmas.List.{length-append}
use Rattle.std.proofs.lemmas.List.Elements.{Contains-append_cases}
use Rattle.least_walk.specs.declared.label.Label.{Label}
use Rattle.least_walk.specs.Labels.{label_at, vertex_at, dist_at, key_at, no_label}
use Rattle.least_walk.proofs.Keys.{contains_cons}

-- a list with one more at its end
pub get_left : {X : Type 0} (ls : List X) (x : X) (k : ℕ) → k < length ls → slice_get (ls ++ x ∷ []) k ≡ slice_get ls k
get_left [] x k h = absurd (omega arith)
get_left (y ∷ ls) x zero h = refl
get_left (y ∷ ls) x (suc k) h = get_left ls x k (omega arith)

pub get_last : {X : Type 0} (ls : List X) (x : X) → slice_get (ls ++ x ∷ []) (length ls) ≡ Some x
get_last [] x = refl
get_last (y ∷ ls) x = get_last ls x

pub length_more : {X : Type 0} (ls : List X) (x : X) → length (ls ++ x ∷ []) ≡ length ls + 1
length_more ls x = omega (arith, length-append ls (x ∷ []))

pub get_cases : {X : Type 0} (ls : List X) (x y : X) (k : ℕ) → slice_get (ls ++ x ∷ []) k ≡ Some y → ((k < length ls) × (slice_get ls k ≡ Some y)) ⊎ ((k ≡ length ls) × (x ≡ y))
get_cases ls x y k h =
    ⊎_elim
    (λ (l : k < length ls). inl (l, sym (get_left ls x k l) ∙ h))
    (λ (l : length ls ≤ k).
    let w : k < length (ls ++ x ∷ []) = slice_get_within _ k y h in
    let i : k ≡ length ls = omega (arith, length_more ls x) in
    inr (i, same_Some x y (sym (get_last ls x) ∙ ap (slice_get (ls ++ x ∷ [])) (sym i) ∙ h)))
    (cases_lt k (length ls))

pub contains_cases : {X : Type 0} (ls : List X) (x y : X) → Contains (ls ++ x ∷ []) y → Contains ls y ⊎ (y ≡ x)
contains_cases {X} ls x y h = ⊎_elim (λ (c : Contains ls y). inl c)
    (λ (c : Contains (x ∷ []) y). ⊎_elim (λ (e : y ≡ x). inr e) (λ (n : Contains [] y). absurd (omega (arith, n.1))) (contains_cons x [] y c))
    (Contains-append_cases ls (x ∷ []) y h)

-- labels with one more
pub label_left : (ls : List Label) (x : Label) (k : ℕ) → k < length ls → label_at (ls ++ x ∷ []) k ≡ label_at ls k
label_left ls x k h = ap (λ (o : Option Label). unwrap_or o no_label) (get_left ls x k h)

pub label_last : (ls : List Label) (x : Label) → label_at (ls ++ x ∷ []) (length ls) ≡ x
label_last ls x = ap (λ (o : Option Label). unwrap_or o no_label) (get_last ls x)

-- a label that is read
pub label_read : (ls : List Label) (k : ℕ) (x : Label) → k < length ls → x ≡ get_or ls k x → label_at ls k ≡ x
label_read ls k x h e = ap (λ (o : Option Label). unwrap_or o no_label) (slice_get_read ls (length ls) k x refl h e)

pub label_from_slice : (ls slice : List Label) (k : ℕ) → slice ≡ ls → label_at ls k ≡ get_or slice k no_label
label_from_slice ls slice k e = unwrap_or-slice_get ls k no_label ∙ ap (λ (l : List Label). get_or l k no_label) (sym e)

-- what equal labels have
pub same_vertex_at : (ls ms : List Label) (k : ℕ) → label_at ms k ≡ label_at ls k → vertex_at ms k ≡ vertex_at ls k
same_vertex_at ls ms k e = ap (λ (y : Label). y.vertex) e

pub same_dist_at : (ls ms : List Label) (k : ℕ) → label_at ms k ≡ label_at ls k → dist_at ms k ≡ dist_at ls k
same_dist_at ls ms k e = ap (λ (y : Label). y.dist) e

pub same_key_at : (ls ms : List Label) (k : ℕ) → label_at ms k ≡ label_at ls k → key_at ms k ≡ key_at ls k
same_key_at ls ms k e = ap (λ (y : Label). y.key) e

pub vertex_left : (ls : List Label) (x : Label) (k : ℕ) → k < length ls → vertex_at (ls ++ x ∷ []) k ≡ vertex_at ls k
vertex_left ls x k h = ap (λ (y : Label). y.vertex) (label_left ls x k h)

pub dist_left : (ls : List Label) (x : Label) (k : ℕ) → k < length ls → dist_at (ls ++ x ∷ []) k ≡ dist_at ls k
dist_left ls x k h = ap (λ (y : Label). y.dist) (label_left ls x k h)

pub key_left : (ls : List Label) (x : Label) (k : ℕ) → k < length ls → key_at (ls ++ x ∷ []) k ≡ key_at ls k
key_left ls x k h = ap (λ (y : Label). y.key) (label_left ls x k h)

pub vertex_last : (ls : List Label) (x : Label) → vertex_at (ls ++ x ∷ []) (length ls) ≡ x.vertex
vertex_last ls x = ap (λ (y : Label). y.vertex) (label_last ls x)

pub dist_last : (ls : List Label) (x : Label) → dist_at (ls ++ x ∷ []) (length ls) ≡ x.dist
dist_last ls x = ap (λ (y : Label). y.dist) (label_last ls x)

pub key_last : (ls : List Label) (x : Label) → key_at (ls ++ x ∷ []) (length ls) ≡ x.key
key_last ls x = ap (λ (y : Label). y.key) (label_last ls x)

-- a list with one item written
pub get_set_same : {X : Type 0} (xs : List X) (i : ℕ) (y : X) → i < length xs → slice_get (slice_set xs i y) i ≡ Some y
get_set_same [] i y h = absurd (omega arith)
get_set_same (x ∷ xs) zero y h = refl
get_set_same (x ∷ xs) (suc i) y h = get_set_same xs i y (omega arith)

pub get_set_other : {X : Type 0} (xs : List X) (i j : ℕ) (y : X) → j ≢ i → slice_get (slice_set xs i y) j ≡ slice_get xs j
get_set_other [] i j y h = refl
get_set_other (x ∷ xs) zero zero y h = absurd (h refl)
get_set_other (x ∷ xs) zero (suc j) y h = refl
get_set_other (x ∷ xs) (suc i) zero y h = refl
get_set_other (x ∷ xs) (suc i) (suc j) y h = get_set_other xs i j y (λ e. h (ap suc e))

-- what a list has at a place is an item
pub contains_at : {X : Type 0} (xs : List X) (i : ℕ) (x : X) → slice_get xs i ≡ Some x → Contains xs x
contains_at {X} xs i x h =
    let e : Some x ≡ slice_get xs i = sym h in
    let l : i < length xs = slice_get_within xs i x h in
    (i, l, get_or_from_slice_get xs i x x h)

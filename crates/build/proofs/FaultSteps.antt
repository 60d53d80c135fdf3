-- Steps of loops that look for the first fault.
use Rattle.std.proofs.Common.{◌≡◌, ℕ, ◌+◌, ◌<◌, List, [], ◌∷◌, ◌++◌, Bool, true, false, cond, Option, Some, None, length, get_or, take, drop, refl, sym, ap, ◌∙◌, arith}
use Rattle.std.specs.List.{enumerate_from, filter}
use Rattle.std.proofs.lemmas.List.{drop_more, take-append-drop, length-take-le}
use Rattle.std.proofs.lemmas.List.Elements.{filter-append, filter_more}
use Rattle.build.specs.declared.error.BuildError.{BuildError}
use Rattle.build.specs.Faults.{first_by}
use Rattle.build.proofs.FirstFaults.{first_by-append, fault_here, fault_later}
use Rattle.cells.proofs.Lists.{enumerate_from-more}
use Rattle.build.proofs.Steps.{next, kept_skip}

-- what stands before an item, the item, and the rest
parts : {X : Type 0} → (xs : List X) (i : ℕ) (x : X) → i < length xs → x ≡ get_or xs i x → xs ≡ take i xs ++ (x ∷ drop (i + 1) xs)
parts {X} xs i x within at = sym (take-append-drop i xs) ∙ ap (λ (ys : List X). take i xs ++ ys) (drop_more xs i x within ∙ ap (λ (y : X). y ∷ drop (i + 1) xs) (sym at))

enumerate_from-append : {X : Type 0} → (n : ℕ) (xs ys : List X) → enumerate_from n (xs ++ ys) ≡ enumerate_from n xs ++ enumerate_from (n + length xs) ys
enumerate_from-append n [] ys = ap (λ (k : ℕ). enumerate_from k ys) (omega arith)
enumerate_from-append {X} n (x ∷ xs) ys =
    ap (λ (zs : List (ℕ × X)). (n, x) ∷ zs) (enumerate_from-append (n + 1) xs ys ∙ ap (λ (k : ℕ). enumerate_from (n + 1) xs ++ enumerate_from k ys) (omega arith))

-- with its number
pub numbered_none : {X : Type 0} → (test : ℕ × X → Option BuildError) (xs : List X) (i : ℕ) (x : X) → i < length xs → x ≡ get_or xs i x → first_by test (enumerate_from 0 (take i xs)) ≡ None → test (i, x) ≡ None → first_by test (enumerate_from 0 (take (i + 1) xs)) ≡ None
numbered_none {X} test xs i x within at none here =
    let number : 0 + length (take i xs) ≡ i = omega (arith, length-take-le i xs (omega arith)) in
    ap (λ (ys : List X). first_by test (enumerate_from 0 ys)) (next xs i x within at)
    ∙ ap (first_by test) (enumerate_from-more 0 (take i xs) x ∙ ap (λ (n : ℕ). enumerate_from 0 (take i xs) ++ (n, x) ∷ []) number)
    ∙ first_by-append test (enumerate_from 0 (take i xs)) ((i, x) ∷ [])
    ∙ fault_later (first_by test (enumerate_from 0 (take i xs))) _ _ none (fault_later (test (i, x)) _ _ here refl)

pub numbered_at : {X : Type 0} → (test : ℕ × X → Option BuildError) (xs : List X) (i : ℕ) (x : X) (e : BuildError) → i < length xs → x ≡ get_or xs i x → first_by test (enumerate_from 0 (take i xs)) ≡ None → test (i, x) ≡ Some e → first_by test (enumerate_from 0 xs) ≡ Some e
numbered_at {X} test xs i x e within at none here =
    let number : 0 + length (take i xs) ≡ i = omega (arith, length-take-le i xs (omega arith)) in
    let rest : List X = drop (i + 1) xs in
    ap (λ (ys : List X). first_by test (enumerate_from 0 ys)) (parts xs i x within at)
    ∙ ap (first_by test) (enumerate_from-append 0 (take i xs) (x ∷ rest) ∙ ap (λ (n : ℕ). enumerate_from 0 (take i xs) ++ enumerate_from n (x ∷ rest)) number)
    ∙ first_by-append test (enumerate_from 0 (take i xs)) ((i, x) ∷ enumerate_from (i + 1) rest)
    ∙ fault_later (first_by test (enumerate_from 0 (take i xs))) _ _ none (fault_here (test (i, x)) _ e here)

-- of those that a filter keeps
pub kept_none : {X : Type 0} → (test : X → Option BuildError) (p : X → Bool) (xs : List X) (i : ℕ) (x : X) → i < length xs → x ≡ get_or xs i x → p x ≡ true → first_by test (filter p (take i xs)) ≡ None → test x ≡ None → first_by test (filter p (take (i + 1) xs)) ≡ None
kept_none {X} test p xs i x within at pass none here =
    let kept : filter p (take (i + 1) xs) ≡ filter p (take i xs) ++ x ∷ [] =
    filter_more p xs i x within ∙ ap (λ (z : X). filter p (take i xs) ++ cond (p z) (z ∷ []) []) (sym at) ∙ ap (λ (b : Bool). filter p (take i xs) ++ cond b (x ∷ []) []) pass in
    ap (first_by test) kept
    ∙ first_by-append test (filter p (take i xs)) (x ∷ [])
    ∙ fault_later (first_by test (filter p (take i xs))) _ _ none (fault_later (test x) _ _ here refl)

pub skip_none : {X : Type 0} → (test : X → Option BuildError) (p : X → Bool) (xs : List X) (i : ℕ) (x : X) → i < length xs → x ≡ get_or xs i x → p x ≡ false → first_by test (filter p (take i xs)) ≡ None → first_by test (filter p (take (i + 1) xs)) ≡ None
skip_none test p xs i x within at fail none = ap (first_by test) (kept_skip p xs i x within at fail) ∙ none

pub kept_at : {X : Type 0} → (test : X → Option BuildError) (p : X → Bool) (xs : List X) (i : ℕ) (x : X) (e : BuildError) → i < length xs → x ≡ get_or xs i x → p x ≡ true → first_by test (filter p (take i xs)) ≡ None → test x ≡ Some e → first_by test (filter p xs) ≡ Some e
kept_at {X} test p xs i x e within at pass none here =
    let rest : List X = drop (i + 1) xs in
    let kept : filter p (x ∷ rest) ≡ x ∷ filter p rest = ap (λ (b : Bool). cond b (x ∷ filter p rest) (filter p rest)) pass in
    ap (λ (ys : List X). first_by test (filter p ys)) (parts xs i x within at)
    ∙ ap (first_by test) (filter-append p (take i xs) (x ∷ rest) ∙ ap (λ (ys : List X). filter p (take i xs) ++ ys) kept)
    ∙ first_by-append test (filter p (take i xs)) (x ∷ filter p rest)
    ∙ fault_later (first_by test (filter p (take i xs))) _ _ none (fault_here (test x) _ e here)

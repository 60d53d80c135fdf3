-- Sums over the items of a list that pass a test, and lists that a sum finds nothing in.
use Rattle.std.proofs.Common.{◌≡◌, ◌∙◌, ℕ, suc, ◌+◌, ◌<◌, ◌≤◌, List, ◌∷◌, [], Bool, true, false, cond, length, get_or, filter, refl, sym, ap, arith}
use Rattle.std.specs.List.{sum_by}
use Rattle.std.proofs.lemmas.List.Sums.{sum_by-cons, get_or-le-sum_by}

-- the measure where a test holds, else 0
abbrev pub masked : {X : Type 0} → (X → Bool) → (X → ℕ) → X → ℕ
masked p measure x = cond (p x) (measure x) 0

pub sum-filter : {X : Type 0} (p : X → Bool) (measure : X → ℕ) (xs : List X) → sum_by measure (filter p xs) ≡ sum_by (masked p measure) xs
sum-filter p measure [] = refl
sum-filter {X} p measure (x ∷ xs) = by_test (p x) (sum-filter p measure xs) ∙ sym (sum_by-cons (masked p measure) x xs)
  where
    by_test : (b : Bool) → sum_by measure (filter p xs) ≡ sum_by (masked p measure) xs → sum_by measure (cond b (x ∷ filter p xs) (filter p xs)) ≡ cond b (measure x) 0 + sum_by (masked p measure) xs
    by_test true rest = sum_by-cons measure x (filter p xs) ∙ ap (λ (k : ℕ). measure x + k) rest
    by_test false rest = (let same : sum_by (masked p measure) xs ≡ 0 + sum_by (masked p measure) xs = omega arith in rest ∙ same)

pub filter-same : {X : Type 0} (p q : X → Bool) (xs : List X) → ((k : ℕ) (d : X) → k < length xs → p (get_or xs k d) ≡ q (get_or xs k d)) → filter p xs ≡ filter q xs
filter-same p q [] h = refl
filter-same p q (x ∷ xs) h =
    ap (λ (t : Bool). cond t (x ∷ filter p xs) (filter p xs)) (h 0 x (omega arith))
    ∙ ap (λ rest. cond (q x) (x ∷ rest) rest) (filter-same p q xs (λ k d less. h (suc k) d (omega (arith, less))))

-- 0 where a test holds, else 1
abbrev pub failing : {X : Type 0} → (X → Bool) → X → ℕ
failing p x = cond (p x) 0 1

pub none-failing : {X : Type 0} (p : X → Bool) (xs : List X) → ((k : ℕ) (d : X) → k < length xs → p (get_or xs k d) ≡ true) → sum_by (failing p) xs ≡ 0
none-failing p [] h = refl
none-failing p (x ∷ xs) h =
    let first : failing p x ≡ 0 = ap (λ (t : Bool). cond t 0 1) (h 0 x (omega arith)) in
    let rest : sum_by (failing p) xs ≡ 0 = none-failing p xs (λ k d less. h (suc k) d (omega (arith, less))) in
    let parts : sum_by (failing p) (x ∷ xs) ≡ failing p x + sum_by (failing p) xs = sum_by-cons (failing p) x xs in
    omega (arith, first, rest, parts)

pub all-pass : {X : Type 0} (p : X → Bool) (xs : List X) → sum_by (failing p) xs ≡ 0 → (k : ℕ) (d : X) → k < length xs → p (get_or xs k d) ≡ true
all-pass p xs none k d less =
    let most : failing p (get_or xs k d) ≤ sum_by (failing p) xs = get_or-le-sum_by (failing p) xs k d less in
    by_test (p (get_or xs k d)) refl (omega (arith, most, none))
  where
    by_test : (b : Bool) → p (get_or xs k d) ≡ b → ◌≡◌ {A = ℕ} (cond b 0 1) 0 → b ≡ true
    by_test true e zero = refl
    by_test false e zero = absurd (omega (arith, zero))

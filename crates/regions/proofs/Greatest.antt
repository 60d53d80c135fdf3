-- Greatest values.
use Rattle.std.proofs.Common.{◌≡◌, ◌⊎◌, ◌∙◌, ℕ, ◌+◌, ◌<◌, ◌≤◌, max, List, [], length, get_or, take, Any, inl, inr, refl, sym, ap, subst, arith}
use Rattle.std.proofs.lemmas.Bool.{cases_lt}
use Rattle.std.proofs.lemmas.List.{take_all}
use Rattle.regions.specs.Halo.{IsGreatest}
use Rattle.regions.proofs.Lists.{any_more}
use Rattle.rt_base.proofs.Lists.{Any-none}

pub greatest_none : (P : ℕ → Type 0) → ((v : ℕ) → P v → ⊥) → IsGreatest P 0
greatest_none P none = record { most = λ v p. absurd (none v p); taken = inl refl }

pub greatest_one : (n : ℕ) → IsGreatest (λ v. v ≡ n) n
greatest_one n = record { most = λ v e. omega arith; taken = inr refl }

-- of the values of two kinds
pub greatest_or : (P Q : ℕ → Type 0) (m n : ℕ) → IsGreatest P m → IsGreatest Q n → IsGreatest (λ v. P v ⊎ Q v) (max m n)
greatest_or P Q m n p q = record { most = most; taken = by_order (cases_lt m n) }
  where
    most : (v : ℕ) → P v ⊎ Q v → v ≤ max m n
    most v (inl h) = omega (arith, p.most v h)
    most v (inr h) = omega (arith, q.most v h)

    lesser : m ≤ n → (n ≡ 0) ⊎ Q n → (max m n ≡ 0) ⊎ (P (max m n) ⊎ Q (max m n))
    lesser le (inl none) = inl (omega arith)
    lesser le (inr h) = let e : n ≡ max m n = omega arith in inr (inr (subst Q e h))

    greater : n ≤ m → (m ≡ 0) ⊎ P m → (max m n ≡ 0) ⊎ (P (max m n) ⊎ Q (max m n))
    greater le (inl none) = inl (omega arith)
    greater le (inr h) = let e : m ≡ max m n = omega arith in inr (inl (subst P e h))

    by_order : (m < n) ⊎ (n ≤ m) → (max m n ≡ 0) ⊎ (P (max m n) ⊎ Q (max m n))
    by_order (inl lt) = lesser (omega arith) q.taken
    by_order (inr le) = greater le p.taken

-- the same values, said in another way
pub greatest_same : (P Q : ℕ → Type 0) (n : ℕ) → ((v : ℕ) → P v → Q v) → ((v : ℕ) → Q v → P v) → IsGreatest P n → IsGreatest Q n
greatest_same P Q n to from g = record { most = λ v h. g.most v (from v h); taken = again g.taken }
  where
    again : (n ≡ 0) ⊎ P n → (n ≡ 0) ⊎ Q n
    again (inl none) = inl none
    again (inr h) = inr (to n h)

-- no greater than what bounds the values
pub greatest_below : (P : ℕ → Type 0) (n most : ℕ) → ((v : ℕ) → P v → v ≤ most) → IsGreatest P n → n ≤ most
greatest_below P n most below g = by_taken g.taken
  where
    by_taken : (n ≡ 0) ⊎ P n → n ≤ most
    by_taken (inl none) = omega arith
    by_taken (inr h) = below n h

-- there is only one
pub greatest_unique : (P : ℕ → Type 0) (m n : ℕ) → IsGreatest P m → IsGreatest P n → m ≡ n
greatest_unique P m n g h = omega (arith, greatest_below P m n h.most g, greatest_below P n m g.most h)

-- the values of a function below a number
abbrev pub Upto : (ℕ → ℕ) → ℕ → ℕ → Type 0
Upto f i v = (k : ℕ) × (k < i) × (v ≡ f k)

-- one value more
pub greatest_next : (f : ℕ → ℕ) (i m more : ℕ) → more ≡ max m (f i) → IsGreatest (Upto f i) m → IsGreatest (Upto f (i + 1)) more
greatest_next f i m more is g =
    subst (IsGreatest (Upto f (i + 1))) (sym is)
    (greatest_same (λ v. Upto f i v ⊎ (v ≡ f i)) (Upto f (i + 1)) (max m (f i)) to from (greatest_or (Upto f i) (λ v. v ≡ f i) m (f i) g (greatest_one (f i))))
  where
    to : (v : ℕ) → Upto f i v ⊎ (v ≡ f i) → Upto f (i + 1) v
    to v (inl (k, lt, e)) = (k, omega arith, e)
    to v (inr e) = (i, omega arith, e)

    from : (v : ℕ) → Upto f (i + 1) v → Upto f i v ⊎ (v ≡ f i)
    from v (k, lt, e) =
        elim (cases_lt k i) [
          | inl early ↦ inl (k, early, e)
          | inr late ↦ let at : k ≡ i = omega arith in inr (e ∙ ap f at)
        ]

-- the values of one item more
pub greatest_more : {X : Type 0} → (R : X → ℕ → Type 0) (xs : List X) (i : ℕ) (x : X) (m n more : ℕ) → i < length xs → x ≡ get_or xs i x → IsGreatest (λ v. Any (λ (y : X). R y v) (take i xs)) m → IsGreatest (R x) n → more ≡ max m n → IsGreatest (λ v. Any (λ (y : X). R y v) (take (i + 1) xs)) more
greatest_more {X} R xs i x m n more within at g h is =
    subst (IsGreatest (λ v. Any (λ (y : X). R y v) (take (i + 1) xs))) (sym is)
    (greatest_same (λ v. Any (λ (y : X). R y v) (take i xs) ⊎ R x v) (λ v. Any (λ (y : X). R y v) (take (i + 1) xs)) (max m n)
    (λ v. (any_more (λ (y : X). R y v) xs i x within at).1)
    (λ v. (any_more (λ (y : X). R y v) xs i x within at).0)
    (greatest_or (λ v. Any (λ (y : X). R y v) (take i xs)) (R x) m n g h))

-- the values of a whole list
pub greatest_all : {X : Type 0} → (R : X → ℕ → Type 0) (xs : List X) (i n : ℕ) → length xs ≤ i → IsGreatest (λ v. Any (λ (y : X). R y v) (take i xs)) n → IsGreatest (λ v. Any (λ (y : X). R y v) xs) n
greatest_all {X} R xs i n past g = subst (λ (ys : List X). IsGreatest (λ v. Any (λ (y : X). R y v) ys) n) (take_all i xs past) g

-- no value of no item
pub greatest_empty : {X : Type 0} → (R : X → ℕ → Type 0) → IsGreatest (λ v. Any (λ (y : X). R y v) []) 0
greatest_empty {X} R = greatest_none (λ v. Any (λ (y : X). R y v) []) (λ v h. Any-none (λ (y : X). R y v) h)

pub greatest_start : (f : ℕ → ℕ) → IsGreatest (Upto f 0) 0
greatest_start f = greatest_none (Upto f 0) none
  where
    none : (v : ℕ) → Upto f 0 v → ⊥
    none v (k, lt, e) = omega (arith, lt)

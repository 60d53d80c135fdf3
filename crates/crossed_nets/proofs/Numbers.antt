-- Numbers that are among others, and lists of numbers that ascend.
use Rattle.std.proofs.Common.{◌≡◌, ◌∙◌, ◌↔◌, ℕ, suc, ◌+◌, ◌<◌, ◌≤◌, List, [], ◌∷◌, Bool, true, false, ◌||◌, ◌==◌, ⊎_elim, refl, sym, ap, subst, get_or, All, AllPairs, Contains, arith, eq-eqb, eqb-true}
use Rattle.std.proofs.lemmas.Bool.{cases_Bool, cases_lt}
use Rattle.std.proofs.lemmas.Bool.Decides.{nat_tests}
use Rattle.std.proofs.lemmas.List.Elements.{All-nil, All-cons}
use Rattle.std.proofs.lemmas.List.Kept.{AllPairs-cons}
use Rattle.rt_base.proofs.Lists.{in_cons, none_in}
use Rattle.crossed_nets.specs.Ascents.{Ascend}
use Rattle.crossed_nets.specs.Hits.{has}

or_true : (b : Bool) → (b || true) ≡ true
or_true true = refl
or_true false = refl

pub has-contains : (xs : List ℕ) (m : ℕ) → has xs m ≡ true → Contains xs m
has-contains [] m h = absurd cc
has-contains (x ∷ xs) m h = ⊎_elim
    (λ (here : (x == m) ≡ true). (0, omega arith, eqb-true x m here))
    (λ (other : (x == m) ≡ false).
    let c : Contains xs m = has-contains xs m (subst (λ (b : Bool). (b || has xs m) ≡ true) other h) in
    (suc c.0, omega (arith, c.1), c.2))
    (cases_Bool (x == m))

pub contains-has : (xs : List ℕ) (m : ℕ) → Contains xs m → has xs m ≡ true
contains-has [] m c = absurd (none_in m c)
contains-has (x ∷ xs) m c = ⊎_elim
    (λ (here : m ≡ x). ap (λ (b : Bool). b || has xs m) (eq-eqb x m (sym here)))
    (λ (later : Contains xs m). ap (λ (b : Bool). (x == m) || b) (contains-has xs m later) ∙ or_true (x == m))
    (in_cons x xs m c)

-- lists with the same numbers answer alike
pub has-same : (xs ys : List ℕ) (m : ℕ) → Contains xs m ↔ Contains ys m → has xs m ≡ has ys m
has-same xs ys m h = ⊎_elim
    (λ (e : has xs m ≡ true). e ∙ sym (contains-has ys m (h.0 (has-contains xs m e))))
    (λ (e : has xs m ≡ false). ⊎_elim
    (λ (f : has ys m ≡ true). contains-has xs m (h.1 (has-contains ys m f)) ∙ sym f)
    (λ (f : has ys m ≡ false). e ∙ sym f)
    (cases_Bool (has ys m)))
    (cases_Bool (has xs m))

differ : (x m : ℕ) → m < x → (x == m) ≡ false
differ x m l = grind (arith, nat_tests)

-- none is below the least
ascend-none : (least : ℕ) (xs : List ℕ) (m : ℕ) → Ascend least xs → m < least → has xs m ≡ false
ascend-none least [] m a l = refl
ascend-none least (x ∷ xs) m a l =
    let miss : (x == m) ≡ false = differ x m (omega (arith, a.0, l)) in
    let rest : has xs m ≡ false = ascend-none (x + 1) xs m a.1 (omega (arith, a.0, l)) in
    ap (λ (b : Bool). b || has xs m) miss ∙ rest

pub ascend-down : (least : ℕ) (xs : List ℕ) → Ascend (least + 1) xs → Ascend least xs
ascend-down least [] a = tt
ascend-down least (x ∷ xs) a = (omega (arith, a.0), a.1)

abbrev HaveSame : List ℕ → List ℕ → Type 0
HaveSame xs ys = (m : ℕ) → has xs m ≡ has ys m

-- the first number of the one list isn't below that of the other
not_below : (x y : ℕ) (xs ys : List ℕ) → Ascend (y + 1) ys → HaveSame (x ∷ xs) (y ∷ ys) → x < y → ⊥
not_below x y xs ys a h l =
    let there : has (x ∷ xs) x ≡ true = contains-has (x ∷ xs) x (0, omega arith, refl) in
    let here : has (y ∷ ys) x ≡ false = ascend-none y (y ∷ ys) x (omega arith, a) l in
    let same : has (x ∷ xs) x ≡ has (y ∷ ys) x = h x in
    cc

rest_same : (x : ℕ) (xs ys : List ℕ) → Ascend (x + 1) xs → Ascend (x + 1) ys → HaveSame (x ∷ xs) (x ∷ ys) → HaveSame xs ys
rest_same x xs ys a b h m = ⊎_elim
    (λ (here : (x == m) ≡ true).
    let below : m < x + 1 = omega (arith, eqb-true x m here) in
    ascend-none (x + 1) xs m a below ∙ sym (ascend-none (x + 1) ys m b below))
    (λ (other : (x == m) ≡ false). subst (λ (t : Bool). (t || has xs m) ≡ (t || has ys m)) other (h m))
    (cases_Bool (x == m))

-- lists that ascend and have the same numbers are the same
pub ascend-same : (least : ℕ) (xs ys : List ℕ) → Ascend least xs → Ascend least ys → HaveSame xs ys → xs ≡ ys
ascend-same least [] [] a b h = refl
ascend-same least [] (y ∷ ys) a b h = absurd (let there : has (y ∷ ys) y ≡ true = contains-has (y ∷ ys) y (0, omega arith, refl) in let none : false ≡ has (y ∷ ys) y = h y in cc)
ascend-same least (x ∷ xs) [] a b h = absurd (let there : has (x ∷ xs) x ≡ true = contains-has (x ∷ xs) x (0, omega arith, refl) in let none : has (x ∷ xs) x ≡ false = h x in cc)
ascend-same least (x ∷ xs) (y ∷ ys) a b h =
    let same : x ≡ y = ⊎_elim
    (λ (l : x < y). absurd (not_below x y xs ys b.1 h l))
    (λ (g : y ≤ x). ⊎_elim
    (λ (l : y < x). absurd (not_below y x ys xs a.1 (λ m. sym (h m)) l))
    (λ (e : x ≤ y). omega arith)
    (cases_lt y x))
    (cases_lt x y) in
    let b_rest : Ascend (x + 1) ys = subst (λ (z : ℕ). Ascend (z + 1) ys) (sym same) b.1 in
    let all : HaveSame (x ∷ xs) (x ∷ ys) = subst (λ (z : ℕ). HaveSame (x ∷ xs) (z ∷ ys)) (sym same) h in
    ap (λ (zs : List ℕ). x ∷ zs) (ascend-same (x + 1) xs ys a.1 b_rest (rest_same x xs ys a.1 b_rest all)) ∙ ap (λ (z : ℕ). z ∷ ys) same

-- from pairs to steps, and back
pub ascend-from_pairs : (least : ℕ) (xs : List ℕ) → All (λ y. least ≤ y) xs → AllPairs (λ a b. a < b) xs → Ascend least xs
ascend-from_pairs least [] all pairs = tt
ascend-from_pairs least (x ∷ xs) all pairs = (
  all 0 x (omega arith),
  ascend-from_pairs (x + 1) xs
      (λ k d within. let l : x < get_or xs k d = pairs 0 (suc k) d (omega arith) (omega arith) in omega (arith, l))
      (λ i j d lt within. pairs (suc i) (suc j) d (omega arith) (omega arith)),
)

ascend-all : (least : ℕ) (xs : List ℕ) → Ascend least xs → All (λ y. least ≤ y) xs
ascend-all least [] a = All-nil (λ y. least ≤ y)
ascend-all least (x ∷ xs) a = All-cons (λ y. least ≤ y) x xs a.0 (λ k d within. let l : x + 1 ≤ get_or xs k d = ascend-all (x + 1) xs a.1 k d within in omega (arith, l, a.0))

pub ascend-pairs : (least : ℕ) (xs : List ℕ) → Ascend least xs → AllPairs (λ a b. a < b) xs
ascend-pairs least [] a = λ i j d lt within. absurd (omega (arith, within))
ascend-pairs least (x ∷ xs) a = AllPairs-cons (λ a b. a < b) x xs (λ k d within. let l : x + 1 ≤ get_or xs k d = ascend-all (x + 1) xs a.1 k d within in omega (arith, l)) (ascend-pairs (x + 1) xs a.1)

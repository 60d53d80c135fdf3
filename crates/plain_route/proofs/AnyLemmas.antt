-- Whether some shape of a list passes a test.
use Rattle.std.proofs.Common.{◌≡◌, ℕ, ◌+◌, List, [], ◌∷◌, Bool, true, false, cond, ◌&&◌, ◌||◌, nat_lt, sum_by, All, refl, sym, ap, ◌∙◌, arith}
use Rattle.std.specs.List.{list_any}
use Rattle.std.proofs.lemmas.Bool.Decides.{nat_tests}
use Rattle.std.proofs.lemmas.List.Elements.{All-head, All-tail, All-nil, All-cons}
use Rattle.std.proofs.lemmas.List.Sums.{sum_by-cons}

abbrev one_if : Bool → ℕ
one_if true = 1
one_if false = 0

or_positive : (b : Bool) (n : ℕ) → nat_lt 0 (one_if b + n) ≡ (b || nat_lt 0 n)
or_positive true n = grind (arith, nat_tests)
or_positive false n = ap (nat_lt 0) (omega arith)

any_as_sum : {X : Type 0} (p : X → Bool) (xs : List X) → list_any p xs ≡ nat_lt 0 (sum_by (λ x. one_if (p x)) xs)
any_as_sum p [] = refl
any_as_sum p (x ∷ xs) =
    ap (λ (b : Bool). p x || b) (any_as_sum p xs)
    ∙ sym (or_positive (p x) (sum_by (λ x. one_if (p x)) xs))
    ∙ sym (ap (nat_lt 0) (sum_by-cons (λ x. one_if (p x)) x xs))

-- lists with the same sums pass a test alike
pub any_by_sums : {X : Type 0} (p : X → Bool) (xs ys : List X) → ((measure : X → ℕ) → sum_by measure xs ≡ sum_by measure ys) → list_any p xs ≡ list_any p ys
any_by_sums p xs ys h = any_as_sum p xs ∙ ap (nat_lt 0) (h (λ x. one_if (p x))) ∙ sym (any_as_sum p ys)

pub and_true : (b : Bool) → (b && true) ≡ b
and_true true = refl
and_true false = refl

pub and_false : (b : Bool) → (b && false) ≡ false
and_false true = refl
and_false false = refl

-- a further test that all items answer alike
pub any_const : {X : Type 0} (p q : X → Bool) (t : Bool) (xs : List X) → All (λ x. q x ≡ t) xs → list_any (λ x. p x && q x) xs ≡ list_any p (cond t xs [])
any_const p q t [] h = by_test t
  where
    by_test : (t : Bool) → false ≡ list_any p (cond t [] [])
    by_test true = refl
    by_test false = refl
any_const p q t (x ∷ xs) h =
    ap (λ (b : Bool). (p x && b) || list_any (λ x. p x && q x) xs) (All-head (λ x. q x ≡ t) x xs h)
    ∙ ap (λ (b : Bool). (p x && t) || b) (any_const p q t xs (All-tail (λ x. q x ≡ t) x xs h))
    ∙ by_test t
  where
    by_test : (t : Bool) → ((p x && t) || list_any p (cond t xs [])) ≡ list_any p (cond t (x ∷ xs) [])
    by_test true = ap (λ (b : Bool). b || list_any p xs) (and_true (p x))
    by_test false = ap (λ (b : Bool). b || false) (and_false (p x))

-- what follows item by item
pub all_then : {X : Type 0} (P Q : X → Type 0) (xs : List X) → ((x : X) → P x → Q x) → All P xs → All Q xs
all_then P Q [] f h = All-nil Q
all_then P Q (x ∷ xs) f h = All-cons Q x xs (f x (All-head P x xs h)) (all_then P Q xs f (All-tail P x xs h))

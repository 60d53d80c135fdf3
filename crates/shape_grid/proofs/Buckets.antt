-- Lists of buckets.
use Rattle.std.proofs.Common.{◌≡◌, ℕ, ◌+◌, ◌<◌, List, [], ◌∷◌, ◌++◌, Bool, true, Contains, IsPermutation, length, get_or, zero, suc, set, take, append_assoc, refl, ap, ◌∙◌, inl, inr, arith}
use Rattle.std.specs.List.{flat_map, list_any}
use Rattle.std.proofs.lemmas.List.Elements.{Contains-append_cases, Contains-append_left, Contains-append_right}
use Rattle.std.proofs.lemmas.List.{get_or_default, take_more, append-nil}
use Rattle.std.proofs.lemmas.List.Concat.{flat_map-append}
use Rattle.std.proofs.lemmas.List.Folds.{list_any_at, Any-from_list_any}
use Rattle.std.proofs.lemmas.List.Sorted.{IsPermutation-append_left, IsPermutation-append_right, IsPermutation-sym, IsPermutation-trans, IsPermutation-middle, IsPermutation-append_comm}

-- what is in all is in some bucket
pub in_bucket : {X : Type 0} (bs : List (List X)) (x : X) → Contains (flat_map (λ b. b) bs) x → (b : ℕ) × (b < length bs) × Contains (get_or bs b []) x
in_bucket [] x c = absurd (omega (arith, c.1))
in_bucket (b ∷ bs) x c =
    elim (Contains-append_cases b (flat_map (λ b. b) bs) x c) [
      | inl here ↦ (0, omega arith, here)
      | inr there ↦ (let t = in_bucket bs x there in (suc t.0, omega (arith, t.1), t.2))
    ]

-- what is in some bucket is in all
pub out_of_bucket : {X : Type 0} (bs : List (List X)) (b : ℕ) (x : X) → Contains (get_or bs b []) x → Contains (flat_map (λ b. b) bs) x
out_of_bucket [] b x c = absurd (omega (arith, c.1))
out_of_bucket (y ∷ ys) zero x c = Contains-append_left y (flat_map (λ b. b) ys) x c
out_of_bucket (y ∷ ys) (suc b) x c = Contains-append_right y (flat_map (λ b. b) ys) x (out_of_bucket ys b x c)

-- an element that passes makes a test of some pass
pub any_of : {X : Type 0} (p : X → Bool) (xs : List X) (x : X) → Contains xs x → p x ≡ true → list_any p xs ≡ true
any_of p xs x c passes = list_any_at p xs c.0 x c.1 (rw c.2 passes)

-- x more in one part is x more in all
pub more_in : {X Y : Type 0} (f : Y → List X) (ys : List Y) (i : ℕ) (y d : Y) (x : X) → i < length ys → IsPermutation (x ∷ f (get_or ys i d)) (f y) → IsPermutation (x ∷ flat_map f ys) (flat_map f (set ys i y))
more_in f [] i y d x less p = absurd (omega (arith, less))
more_in f (z ∷ zs) zero y d x less p = IsPermutation-append_left (flat_map f zs) (x ∷ f z) (f y) p
more_in f (z ∷ zs) (suc i) y d x less p =
    let rest = more_in f zs i y d x (omega (arith, less)) p in
    IsPermutation-trans _ (f z ++ (x ∷ flat_map f zs)) _ (IsPermutation-sym _ _ (IsPermutation-middle (f z) x (flat_map f zs))) (IsPermutation-append_right (f z) _ _ rest)

-- x less in one part is x less in all
pub less_in : {X Y : Type 0} (f : Y → List X) (ys : List Y) (i : ℕ) (y d : Y) (x : X) → i < length ys → IsPermutation (x ∷ f y) (f (get_or ys i d)) → IsPermutation (x ∷ flat_map f (set ys i y)) (flat_map f ys)
less_in f [] i y d x less p = absurd (omega (arith, less))
less_in f (z ∷ zs) zero y d x less p = IsPermutation-append_left (flat_map f zs) (x ∷ f y) (f z) p
less_in f (z ∷ zs) (suc i) y d x less p =
    let rest = less_in f zs i y d x (omega (arith, less)) p in
    IsPermutation-trans _ (f z ++ (x ∷ flat_map f (set zs i y))) _ (IsPermutation-sym _ _ (IsPermutation-middle (f z) x (flat_map f (set zs i y)))) (IsPermutation-append_right (f z) _ _ rest)

-- a part that is the same leaves all the same
pub same_in : {X Y : Type 0} (f : Y → List X) (ys : List Y) (i : ℕ) (y d : Y) → f y ≡ f (get_or ys i d) → flat_map f (set ys i y) ≡ flat_map f ys
same_in f [] i y d e = refl
same_in f (z ∷ zs) zero y d e = ap (λ l. l ++ flat_map f zs) e
same_in f (z ∷ zs) (suc i) y d e = ap (λ l. f z ++ l) (same_in f zs i y d e)

-- a bucket of which some element passes makes some element of all pass
pub any_within : {X : Type 0} (p : X → Bool) (bs : List (List X)) (b : ℕ) (bucket : List X) → b < length bs → bucket ≡ get_or bs b bucket → list_any p bucket ≡ true → list_any p (flat_map (λ b. b) bs) ≡ true
any_within p bs b bucket less is some =
    let found = Any-from_list_any p bucket some in
    let x = found.1 in
    let same : bucket ≡ get_or bs b [] = is ∙ get_or_default bs b bucket [] less in
    any_of p _ x (out_of_bucket bs b x (rw (← same) (found.0, found.2, found.3))) found.4

-- some more are put in
pub more_poured : {X : Type 0} (done more old mid new : List X) → IsPermutation (done ++ old) mid → IsPermutation (more ++ mid) new → IsPermutation ((done ++ more) ++ old) new
more_poured done more old mid new before now =
    let turn : IsPermutation ((done ++ more) ++ old) ((more ++ done) ++ old) = IsPermutation-append_left old (done ++ more) (more ++ done) (IsPermutation-append_comm done more) in
    let rest : IsPermutation (more ++ (done ++ old)) (more ++ mid) = IsPermutation-append_right more (done ++ old) mid before in
    let same : (more ++ done) ++ old ≡ more ++ (done ++ old) = append_assoc more done old in
    IsPermutation-trans _ (more ++ (done ++ old)) _ (rw (← same) turn) (IsPermutation-trans _ (more ++ mid) _ rest now)

-- one more part
pub all_more : {X Y : Type 0} (f : Y → List X) (ys : List Y) (i : ℕ) (d : Y) → i < length ys → flat_map f (take (i + 1) ys) ≡ flat_map f (take i ys) ++ f (get_or ys i d)
all_more f ys i d less =
    ap (flat_map f) (take_more ys i d less) ∙ flat_map-append f (take i ys) (get_or ys i d ∷ []) ∙ ap (λ l. flat_map f (take i ys) ++ l) (append-nil (f (get_or ys i d)))

pub one_poured : {X : Type 0} (xs : List X) (i : ℕ) (x : X) (old mid new : List X) → i < length xs → x ≡ get_or xs i x → IsPermutation (take i xs ++ old) mid → IsPermutation (x ∷ mid) new → IsPermutation (take (i + 1) xs ++ old) new
one_poured xs i x old mid new less is before now =
    rw (take_more xs i x less, ← is) (more_poured (take i xs) (x ∷ []) old mid new before now)

pub bucket_poured : {X : Type 0} (bs : List (List X)) (i : ℕ) (b : List X) (old mid new : List X) → i < length bs → b ≡ get_or bs i b → IsPermutation (flat_map (λ l. l) (take i bs) ++ old) mid → IsPermutation (b ++ mid) new → IsPermutation (flat_map (λ l. l) (take (i + 1) bs) ++ old) new
bucket_poured bs i b old mid new less is before now =
    rw (all_more (λ l. l) bs i b less, ← is) (more_poured (flat_map (λ l. l) (take i bs)) b old mid new before now)

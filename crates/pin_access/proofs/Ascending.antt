-- Numbers put in order, each once.
use Rattle.std.proofs.Common.{◌≡◌, ◌↔◌, ℤ, ◌<ℤ◌, List, AllPairs, Contains, subst, inl, inr, arith}
use Rattle.std.specs.Ordering.{int_cmp, int_eq, eq_by_cmp, is_eq, MatchOrdering}
use Rattle.std.specs.declared.cmp.Ordering.{Ordering}
use Rattle.std.specs.declared.cmp.Ordering.TheVariants.{Less, Equal, Greater}
use Rattle.std.specs.Cmp.{int_ranks}
use Rattle.std.specs.List.{dedup}
use Rattle.std.specs.List.Sorted.{IsSorted, IsPermutation}
use Rattle.std.proofs.lemmas.Bool.{cases_Bool}
use Rattle.std.proofs.lemmas.Bool.Decides.{Decides-int_eq}
use Rattle.std.proofs.lemmas.Cmp.{int_cmp_total, int_eq_equiv}
use Rattle.std.proofs.lemmas.Int.{ints}
use Rattle.std.proofs.lemmas.List.Kept.{Contains-dedup, Contains-from_dedup, IsStrictlySortedBy-dedup}
use Rattle.std.proofs.lemmas.List.Sorted.{Contains-permutation, IsPermutation-sym}
use Rattle.std.proofs.lemmas.Map.Keys.{Less-from_sorted}

abbrev Ranked : ℤ → ℤ → Ordering → Type 0
Ranked x y o = MatchOrdering o (x <ℤ y) (x ≡ y) (y <ℤ x)

below_from_less : (x y : ℤ) → int_cmp x y ≡ Less → x <ℤ y
below_from_less x y e = subst (Ranked x y) e (int_ranks x y)

ties : (x y : ℤ) → int_eq x y ≡ eq_by_cmp int_cmp x y
ties x y = by_order (int_cmp x y) (int_ranks x y)
  where
    by_order : (o : Ordering) → Ranked x y o → int_eq x y ≡ is_eq o
    by_order Less r = elim (cases_Bool (int_eq x y)) [ inl hit ↦ absurd (let e : x ≡ y = (Decides-int_eq x y).0 hit in omega (arith, ints)) | inr miss ↦ miss ]
    by_order Equal r = (Decides-int_eq x y).1 r
    by_order Greater r = elim (cases_Bool (int_eq x y)) [ inl hit ↦ absurd (let e : x ≡ y = (Decides-int_eq x y).0 hit in omega (arith, ints)) | inr miss ↦ miss ]

-- what a sort and then a removal of repeated neighbours leave of a list
pub dedup_ascends : (xs : List ℤ) → IsSorted int_cmp xs → AllPairs (λ a b. a <ℤ b) (dedup int_eq xs)
dedup_ascends xs sorted i j d lt within = below_from_less _ _ (Less-from_sorted int_cmp (dedup int_eq xs) i j d (IsStrictlySortedBy-dedup int_cmp_total ties xs sorted) lt within)

pub dedup_has : (xs ys : List ℤ) (z : ℤ) → IsPermutation xs ys → Contains (dedup int_eq ys) z ↔ Contains xs z
dedup_has xs ys z moved = (
  λ h. Contains-permutation ys xs z (IsPermutation-sym xs ys moved) (Contains-from_dedup int_eq ys z h),
  λ h. Contains-dedup int_eq_equiv (λ a b e. (Decides-int_eq a b).0 e) ys z (Contains-permutation xs ys z moved h),
)

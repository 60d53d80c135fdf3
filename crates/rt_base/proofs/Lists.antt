-- What lists have, element by element, and numbers in order.
use Rattle.std.proofs.Common.{◌≡◌, ℕ, ◌+◌, ◌-◌, ℤ, ◌<ℤ◌, ◌≤ℤ◌, zero, suc, ◌<◌, ◌⊎◌, inl, inr, true, false, refl, sym, subst, Some, List, [], ◌∷◌, ◌++◌, length, slice_get, slice_index_or, All, Any, Contains, arith}
use Rattle.std.specs.Prelude.{slice_range}
use Rattle.std.specs.Ordering.{int_cmp, is_lt, MatchOrdering}
use Rattle.std.specs.declared.cmp.Ordering.{Ordering}
use Rattle.std.specs.declared.cmp.Ordering.TheVariants.{Less, Equal, Greater}
use Rattle.std.specs.Cmp.{int_ranks}
use Rattle.std.proofs.lemmas.Int.{ints}
use Rattle.std.proofs.lemmas.Option.{slice_get_within, get_or_from_slice_get}
use Rattle.std.proofs.Math.Seq.{take-append_seam, drop-append_seam}

pub Any-cases : {X : Type 0} → (P : X → Type 0) (x : X) (xs : List X) → Any P (x ∷ xs) → P x ⊎ Any P xs
Any-cases P x xs (zero, y, lt, is, h) = inl (subst P (sym is) h)
Any-cases P x xs (suc k, y, lt, is, h) = inr (k, y, omega arith, is, h)

pub Any-none : {X : Type 0} → (P : X → Type 0) → Any P [] → ⊥
Any-none P (k, y, lt, is, h) = omega arith

pub Any-here : {X : Type 0} → (P : X → Type 0) (x : X) (xs : List X) → P x → Any P (x ∷ xs)
Any-here P x xs h = (0, x, omega arith, refl, h)

pub Any-there : {X : Type 0} → (P : X → Type 0) (x : X) (xs : List X) → Any P xs → Any P (x ∷ xs)
Any-there P x xs (k, y, lt, is, h) = (suc k, y, omega arith, is, h)

pub in_cons : {X : Type 0} (a : X) (xs : List X) (b : X) → Contains (a ∷ xs) b → (b ≡ a) ⊎ Contains xs b
in_cons a xs b (zero, h, e) = inl (sym e)
in_cons a xs b (suc k, h, e) = inr (k, omega arith, e)

pub none_in : {X : Type 0} (b : X) → Contains [] b → ⊥
none_in b h = omega (arith, h.1)

-- what holds of all holds of the one at a place
pub All-at : {X : Type 0} (P : X → Type 0) (xs : List X) (k : ℕ) (x : X) → All P xs → slice_get xs k ≡ Some x → P x
All-at P xs k x all at = subst P (get_or_from_slice_get xs k x x at) (all k x (slice_get_within xs k x at))

-- the middle one of three parts, by its place
pub range-middle : {X : Type 0} (a b c : List X) → slice_range (a ++ (b ++ c)) (length a) (length a + length b) ≡ b
range-middle a b c =
    let n : (length a + length b) - length a ≡ length b = omega arith in
    rw (n, drop-append_seam a (b ++ c)) (take-append_seam b c)

abbrev Ranked : ℤ → ℤ → Ordering → Type 0
Ranked x y o = MatchOrdering o (x <ℤ y) (x ≡ y) (y <ℤ x)

-- the greater of two numbers doesn't come first
pub not_after : (a b : ℤ) → a <ℤ b → is_lt (int_cmp b a) ≡ false
not_after a b h = by_order (int_cmp b a) (int_ranks b a)
  where
    by_order : (o : Ordering) → Ranked b a o → is_lt o ≡ false
    by_order Less r = absurd (omega (arith, ints))
    by_order Equal r = refl
    by_order Greater r = refl

-- a number that doesn't come first is at least the other
pub at_most_from_cmp : (a b : ℤ) → is_lt (int_cmp b a) ≡ false → a ≤ℤ b
at_most_from_cmp a b h = by_order (int_cmp b a) h (int_ranks b a)
  where
    by_order : (o : Ordering) → is_lt o ≡ false → Ranked b a o → a ≤ℤ b
    by_order Less e r = absurd cc
    by_order Equal e r = omega (arith, ints)
    by_order Greater e r = omega (arith, ints)

-- Ascending numbers: where a search parts them, what stands beside a number, and the parts below and above a bound.
use Rattle.std.proofs.Common.{◌≡◌, ◌↔◌, ⊎_elim, ℕ, ◌+◌, ◌-◌, ◌<◌, ◌≤◌, ℤ, ◌<ℤ◌, ◌≤ℤ◌, int_lt, List, true, false, Some, slice_get, length, get_or, take, drop, Contains, Option, None, MatchOption, Bor, subst, sym, ap, ◌∙◌, arith, length-take, length-drop}
use Rattle.std.specs.List.Sorted.{IsPartitionPoint, IsPartitionedBy}
use Rattle.std.proofs.lemmas.Bool.{cases_lt}
use Rattle.std.proofs.lemmas.Int.{ints}
use Rattle.std.proofs.lemmas.List.{get_or-take, get_or-drop, get_or_default}
use Rattle.std.specs.List.{HoldsAt}
use Rattle.std.specs.Option.{option_copied}
use Rattle.std.proofs.lemmas.Option.{slice_get-get_or, slice_get_within, get_or_from_slice_get}
use Rattle.track_graph.specs.Levels.{IsAscending, NoneBetween}

abbrev pub PartsAt : List ℤ → ℤ → ℕ → Type 0
PartsAt xs z i = IsPartitionPoint (λ y. y <ℤ z) (λ y. z ≤ℤ y) xs i

abbrev pub PartsPast : List ℤ → ℤ → ℕ → Type 0
PartsPast xs z i = IsPartitionPoint (λ y. y ≤ℤ z) (λ y. z <ℤ y) xs i

-- the numbers less than a bound come first
pub parted_below : (xs : List ℤ) (bound : ℤ) → IsAscending xs → IsPartitionedBy (λ y. int_lt y bound) xs
parted_below xs bound up i j d le h t = ⊎_elim
    (λ (lt : i < j). below (get_or xs i d) (get_or xs j d) bound (up i j d lt h) t)
    (λ (ge : j ≤ i). let same : i ≡ j = omega arith in rw same t)
    (cases_lt i j)
  where
    below : (a b m : ℤ) → a <ℤ b → int_lt b m ≡ true → int_lt a m ≡ true
    below a b m h t = grind (arith, ints)

pub parts_at : (xs : List ℤ) (bound : ℤ) (i : ℕ) → IsPartitionPoint (λ y. int_lt y bound ≡ true) (λ y. int_lt y bound ≡ false) xs i → PartsAt xs bound i
parts_at xs bound i parts = (λ k d low high. less (get_or xs k d) bound (parts.0 k d low high), λ k d low high. past (get_or xs k d) bound (parts.1 k d low high))
  where
    less : (a m : ℤ) → int_lt a m ≡ true → a <ℤ m
    less a m t = grind (arith, ints)

    past : (a m : ℤ) → int_lt a m ≡ false → m ≤ℤ a
    past a m t = grind (arith, ints)

clash : (a b : ℤ) → a ≤ℤ b → b <ℤ a → ⊥
clash a b h k = omega (arith, ints)

-- a number past z, with none between, is the first one past z
pub next_is : (xs : List ℤ) (z y : ℤ) (i : ℕ) → IsAscending xs → PartsPast xs z i → Contains xs y → z <ℤ y → NoneBetween xs z y → slice_get xs i ≡ Some y
next_is xs z y i up parts (k, within, is) past none = ⊎_elim
    (λ (lt : k < i). absurd (clash y z (subst (λ w. w ≤ℤ z) is (parts.0 k y (omega arith) lt)) past))
    (λ (ge : i ≤ k).
    let inside : i < length xs = omega arith in
    slice_get-get_or xs i y inside ∙ ap (λ w. Some w) (⊎_elim
    (λ (later : i < k). absurd (none (get_or xs i y) (i, inside, get_or_default xs i (get_or xs i y) y inside) (parts.1 i y (omega arith) inside) (subst (λ w. get_or xs i y <ℤ w) is (up i k y later within))))
    (λ (same : k ≤ i). let e : i ≡ k = omega arith in ap (λ j. get_or xs j y) e ∙ is)
    (cases_lt i k)))
    (cases_lt k i)

-- a number before z, with none between, is the last one before z
pub last_is : (xs : List ℤ) (z y : ℤ) (i : ℕ) → IsAscending xs → i ≤ length xs → PartsAt xs z i → Contains xs y → y <ℤ z → NoneBetween xs y z → (0 < i) × (slice_get xs (i - 1) ≡ Some y)
last_is xs z y i up most parts (k, within, is) before none = ⊎_elim
    (λ (lt : k < i).
    let inside : i - 1 < length xs = omega arith in (
      omega arith,
      slice_get-get_or xs (i - 1) y inside ∙ ap (λ w. Some w) (⊎_elim
          (λ (later : k < i - 1). absurd (none (get_or xs (i - 1) y) (i - 1, inside, get_or_default xs (i - 1) (get_or xs (i - 1) y) y inside) (subst (λ w. w <ℤ get_or xs (i - 1) y) is (up k (i - 1) y later inside)) (parts.0 (i - 1) y (omega arith) (omega arith))))
          (λ (same : i - 1 ≤ k). let e : i - 1 ≡ k = omega arith in ap (λ j. get_or xs j y) e ∙ is)
          (cases_lt k (i - 1))),
    ))
    (λ (ge : i ≤ k). absurd (clash z y (subst (λ w. z ≤ℤ w) is (parts.1 k y ge within)) before))
    (cases_lt k i)

-- what `get` gave, copied
pub copied_is : (r : Option (Bor ℤ)) (xs : List ℤ) (i : ℕ) (y : ℤ) → MatchOption r (length xs ≤ i) (λ x. (i < length xs) × HoldsAt (λ w. x.now ≡ w) xs i) → slice_get xs i ≡ Some y → option_copied r ≡ Some y
copied_is None xs i y past at = absurd (omega (arith, slice_get_within xs i y at))
copied_is (Some x) xs i y h at = ap (λ w. Some w) (h.1 y ∙ get_or_from_slice_get xs i y y at)

clash_below : (a b : ℤ) → a <ℤ b → b ≤ℤ a → ⊥
clash_below a b h k = omega (arith, ints)

pub contains_past : (xs : List ℤ) (least : ℤ) (i : ℕ) (z : ℤ) → IsPartitionPoint (λ y. y <ℤ least) (λ y. least ≤ℤ y) xs i → Contains (drop i xs) z ↔ (Contains xs z × (least ≤ℤ z))
contains_past xs least i z parts = (
  λ h.
      let within : i + h.0 < length xs = omega (arith, h.1, length-drop i xs) in
      let is : get_or xs (i + h.0) z ≡ z = sym (get_or-drop i xs h.0 z) ∙ h.2 in
      ((i + h.0, within, is), subst (λ y. least ≤ℤ y) is (parts.1 (i + h.0) z (omega arith) within)),
  λ h. ⊎_elim
      (λ (lt : h.0.0 < i). absurd (clash_below z least (subst (λ y. y <ℤ least) h.0.2 (parts.0 h.0.0 z (omega arith) lt)) h.1))
      (λ (ge : i ≤ h.0.0).
      let k = h.0.0 - i in
      let back : i + k ≡ h.0.0 = omega arith in
      let is : get_or (drop i xs) k z ≡ z = get_or-drop i xs k z ∙ (rw back h.0.2) in
      (k, omega (arith, h.0.1, length-drop i xs), is))
      (cases_lt h.0.0 i),
)

pub contains_before : (xs : List ℤ) (most : ℤ) (i : ℕ) (z : ℤ) → i ≤ length xs → IsPartitionPoint (λ y. y ≤ℤ most) (λ y. most <ℤ y) xs i → Contains (take i xs) z ↔ (Contains xs z × (z ≤ℤ most))
contains_before xs most i z bound parts = (
  λ h.
      let inside : h.0 < i = omega (arith, h.1, length-take i xs) in
      let is : get_or xs h.0 z ≡ z = sym (get_or-take i xs h.0 z inside) ∙ h.2 in
      ((h.0, omega arith, is), subst (λ y. y ≤ℤ most) is (parts.0 h.0 z (omega arith) inside)),
  λ h. ⊎_elim
      (λ (lt : h.0.0 < i). (h.0.0, omega (arith, length-take i xs), get_or-take i xs h.0.0 z lt ∙ h.0.2))
      (λ (ge : i ≤ h.0.0). absurd (clash_below most z (subst (λ y. most <ℤ y) h.0.2 (parts.1 h.0.0 z ge h.0.1)) h.1))
      (cases_lt h.0.0 i),
)

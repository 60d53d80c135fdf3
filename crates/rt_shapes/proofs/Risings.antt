-- Ascending lists with a number put among them or toggled.
use Rattle.std.proofs.Common.{◌≡◌, ℕ, ◌<◌, ◌≤◌, zero, suc, ℤ, ◌<ℤ◌, ◌≤ℤ◌, int_lt, true, false, List, [], ◌∷◌, length, get_or, All, refl, sym, ap, subst, arith}
use Rattle.std.specs.List.{insert, remove}
use Rattle.std.proofs.lemmas.Int.{ints, by_lt_z}
use Rattle.std.proofs.lemmas.List.Elements.{All-nil, All-cons, All-head, All-tail}
use Rattle.std.proofs.lemmas.List.Kept.{AllPairs-cons}
use Rattle.rt_shapes.specs.Polygons.{IsAscending, with_number, toggled}

pub lt_true : (a b : ℤ) → a <ℤ b → int_lt a b ≡ true
lt_true a b h = grind (arith, ints)

pub lt_false : (a b : ℤ) → b ≤ℤ a → int_lt a b ≡ false
lt_false a b h = grind (arith, ints)

le_from_lt : (a b : ℤ) → a <ℤ b → a ≤ℤ b
le_from_lt a b h = omega (arith, ints)

le_self : (a : ℤ) → a ≤ℤ a
le_self a = omega (arith, ints)

pub same_from_both : (a b : ℤ) → a ≤ℤ b → b ≤ℤ a → a ≡ b
same_from_both a b h k = omega (arith, ints)

pub ascending-tail : (x : ℤ) (xs : List ℤ) → IsAscending (x ∷ xs) → IsAscending xs
ascending-tail x xs up i j d lt h = up (suc i) (suc j) d (omega arith) (omega arith)

pub ascending-head : (x : ℤ) (xs : List ℤ) → IsAscending (x ∷ xs) → All (λ y. x <ℤ y) xs
ascending-head x xs up k d h = up 0 (suc k) d (omega arith) (omega arith)

pub ascending-cons : (x : ℤ) (xs : List ℤ) → All (λ y. x <ℤ y) xs → IsAscending xs → IsAscending (x ∷ xs)
ascending-cons x xs all up = AllPairs-cons (λ a b. a <ℤ b) x xs all up

pub ascending-nil : IsAscending []
ascending-nil i j d lt h = absurd (omega arith)

pub above_more : (z y : ℤ) (ys : List ℤ) → z <ℤ y → All (λ x. y <ℤ x) ys → All (λ x. z <ℤ x) ys
above_more z y ys lt all k d h = trans (get_or ys k d) (all k d h)
  where
    trans : (x : ℤ) → y <ℤ x → z <ℤ x
    trans x up = omega (arith, ints)

-- what holds of all numbers and of z holds of all with z among them
pub All-with_number : (P : ℤ → Type 0) (z : ℤ) (xs : List ℤ) → P z → All P xs → All P (with_number z xs)
All-with_number P z [] here all = All-cons P z [] here all
All-with_number P z (y ∷ ys) here all = by_lt_z z y
    (λ lt. rw (lt_true z y lt) (All-cons P z (y ∷ ys) here all))
    (λ ge. by_lt_z y z
    (λ lt. rw (lt_false z y ge, lt_true y z lt) (All-cons P y (with_number z ys) (All-head P y ys all) (All-with_number P z ys here (All-tail P y ys all))))
    (λ le. rw (lt_false z y ge, lt_false y z le) all))

pub All-toggled : (P : ℤ → Type 0) (z : ℤ) (xs : List ℤ) → P z → All P xs → All P (toggled z xs)
All-toggled P z [] here all = All-cons P z [] here all
All-toggled P z (y ∷ ys) here all = by_lt_z z y
    (λ lt. rw (lt_true z y lt) (All-cons P z (y ∷ ys) here all))
    (λ ge. by_lt_z y z
    (λ lt. rw (lt_false z y ge, lt_true y z lt) (All-cons P y (toggled z ys) (All-head P y ys all) (All-toggled P z ys here (All-tail P y ys all))))
    (λ le. rw (lt_false z y ge, lt_false y z le) (All-tail P y ys all)))

pub ascending-with_number : (z : ℤ) (xs : List ℤ) → IsAscending xs → IsAscending (with_number z xs)
ascending-with_number z [] up = ascending-cons z [] (All-nil (λ y. z <ℤ y)) up
ascending-with_number z (y ∷ ys) up = by_lt_z z y
    (λ lt. rw (lt_true z y lt) (ascending-cons z (y ∷ ys) (All-cons (λ x. z <ℤ x) y ys lt (above_more z y ys lt (ascending-head y ys up))) up))
    (λ ge. by_lt_z y z
    (λ lt. rw (lt_false z y ge, lt_true y z lt) (ascending-cons y (with_number z ys) (All-with_number (λ x. y <ℤ x) z ys lt (ascending-head y ys up)) (ascending-with_number z ys (ascending-tail y ys up))))
    (λ le. rw (lt_false z y ge, lt_false y z le) up))

pub ascending-toggled : (z : ℤ) (xs : List ℤ) → IsAscending xs → IsAscending (toggled z xs)
ascending-toggled z [] up = ascending-cons z [] (All-nil (λ y. z <ℤ y)) up
ascending-toggled z (y ∷ ys) up = by_lt_z z y
    (λ lt. rw (lt_true z y lt) (ascending-cons z (y ∷ ys) (All-cons (λ x. z <ℤ x) y ys lt (above_more z y ys lt (ascending-head y ys up))) up))
    (λ ge. by_lt_z y z
    (λ lt. rw (lt_false z y ge, lt_true y z lt) (ascending-cons y (toggled z ys) (All-toggled (λ x. y <ℤ x) z ys lt (ascending-head y ys up)) (ascending-toggled z ys (ascending-tail y ys up))))
    (λ le. rw (lt_false z y ge, lt_false y z le) (ascending-tail y ys up)))

-- where the numbers below z end, z is put
pub with_number-insert : (z : ℤ) (xs : List ℤ) (i : ℕ) → i ≤ length xs → ((k : ℕ) → k < i → get_or xs k z <ℤ z) → ((k : ℕ) → i ≤ k → k < length xs → z <ℤ get_or xs k z) → with_number z xs ≡ insert xs i z
with_number-insert z [] zero le below above = refl
with_number-insert z [] (suc i) le below above = absurd (omega arith)
with_number-insert z (y ∷ ys) zero le below above = rw (lt_true z y (above 0 (omega arith) (omega arith)))
with_number-insert z (y ∷ ys) (suc i) le below above =
    let lt : y <ℤ z = below 0 (omega arith) in
    rw (lt_false z y (le_from_lt y z lt), lt_true y z lt) (ap (λ l. y ∷ l) (with_number-insert z ys i (omega arith) (λ k h. below (suc k) (omega arith)) (λ k h w. above (suc k) (omega arith) (omega arith))))

pub toggled-insert : (z : ℤ) (xs : List ℤ) (i : ℕ) → i ≤ length xs → ((k : ℕ) → k < i → get_or xs k z <ℤ z) → ((k : ℕ) → i ≤ k → k < length xs → z <ℤ get_or xs k z) → toggled z xs ≡ insert xs i z
toggled-insert z [] zero le below above = refl
toggled-insert z [] (suc i) le below above = absurd (omega arith)
toggled-insert z (y ∷ ys) zero le below above = rw (lt_true z y (above 0 (omega arith) (omega arith)))
toggled-insert z (y ∷ ys) (suc i) le below above =
    let lt : y <ℤ z = below 0 (omega arith) in
    rw (lt_false z y (le_from_lt y z lt), lt_true y z lt) (ap (λ l. y ∷ l) (toggled-insert z ys i (omega arith) (λ k h. below (suc k) (omega arith)) (λ k h w. above (suc k) (omega arith) (omega arith))))

-- where z stands, it stays, or it is taken out
pub with_number-same : (z : ℤ) (xs : List ℤ) (i : ℕ) → IsAscending xs → i < length xs → get_or xs i z ≡ z → with_number z xs ≡ xs
with_number-same z [] i up within is = absurd (omega arith)
with_number-same z (y ∷ ys) zero up within is =
    let le : z ≤ℤ y = subst (λ x. z ≤ℤ x) (sym is) (le_self z) in
    let ge : y ≤ℤ z = subst (λ x. x ≤ℤ z) (sym is) (le_self z) in
    rw (lt_false z y ge, lt_false y z le)
with_number-same z (y ∷ ys) (suc i) up within is =
    let lt : y <ℤ z = subst (λ x. y <ℤ x) is (up 0 (suc i) z (omega arith) within) in
    rw (lt_false z y (le_from_lt y z lt), lt_true y z lt) (ap (λ l. y ∷ l) (with_number-same z ys i (ascending-tail y ys up) (omega arith) is))

pub toggled-remove : (z : ℤ) (xs : List ℤ) (i : ℕ) → IsAscending xs → i < length xs → get_or xs i z ≡ z → toggled z xs ≡ remove xs i
toggled-remove z [] i up within is = absurd (omega arith)
toggled-remove z (y ∷ ys) zero up within is =
    let le : z ≤ℤ y = subst (λ x. z ≤ℤ x) (sym is) (le_self z) in
    let ge : y ≤ℤ z = subst (λ x. x ≤ℤ z) (sym is) (le_self z) in
    rw (lt_false z y ge, lt_false y z le)
toggled-remove z (y ∷ ys) (suc i) up within is =
    let lt : y <ℤ z = subst (λ x. y <ℤ x) is (up 0 (suc i) z (omega arith) within) in
    rw (lt_false z y (le_from_lt y z lt), lt_true y z lt) (ap (λ l. y ∷ l) (toggled-remove z ys i (ascending-tail y ys up) (omega arith) is))

-- Counts of lists, and whether they are odd.
use Rattle.std.proofs.Common.{Bool, true, false, cond, ◌≡◌, ℕ, ◌+◌, ◌%◌, ℤ, ◌<ℤ◌, ◌≤ℤ◌, int_lt, int_le, ◌&&◌, List, [], ◌∷◌, fold, length, All, count_by, refl, ap, arith}
use Rattle.std.proofs.lemmas.Int.{ints, by_lt_z}
use Rattle.std.proofs.lemmas.List.Elements.{All-head, All-tail}
use Rattle.std.proofs.lemmas.List.Sums.{sum_by-cons}
use Rattle.rt_base.specs.declared.geometry.Point.{Point}
use Rattle.rt_shapes.specs.Polygons.{Edge, edges_from, edges_of, passes, toggled, crossed, crossings_of}
use Rattle.rt_shapes.proofs.Risings.{lt_true, lt_false, same_from_both}

pub le_true : (a b : ℤ) → a ≤ℤ b → int_le a b ≡ true
le_true a b h = grind (arith, ints)

pub le_false : (a b : ℤ) → b <ℤ a → int_le a b ≡ false
le_false a b h = grind (arith, ints)

pub count-cons : {X : Type 0} (p : X → Bool) (x : X) (xs : List X) → count_by p (x ∷ xs) ≡ cond (p x) 1 0 + count_by p xs
count-cons p x xs = sum_by-cons (λ y. cond (p y) 1 0) x xs

-- tests that agree on a list count the same
pub count-agree : {X : Type 0} (p q : X → Bool) (xs : List X) → All (λ x. p x ≡ q x) xs → count_by p xs ≡ count_by q xs
count-agree p q [] all = refl
count-agree p q (x ∷ xs) all =
    let here : p x ≡ q x = All-head (λ y. p y ≡ q y) x xs all in
    let rest = count-agree p q xs (All-tail (λ y. p y ≡ q y) x xs all) in
    rw (count-cons p x xs, count-cons q x xs, here, rest)

pub count-none : {X : Type 0} (p : X → Bool) (xs : List X) → All (λ x. p x ≡ false) xs → count_by p xs ≡ 0
count-none p [] all = refl
count-none p (x ∷ xs) all =
    let here : p x ≡ false = All-head (λ y. p y ≡ false) x xs all in
    let rest = count-none p xs (All-tail (λ y. p y ≡ false) x xs all) in
    rw (count-cons p x xs, here, rest)

-- one number more or less
pub count-toggled : (p : ℤ → Bool) (z : ℤ) (xs : List ℤ) → count_by p (toggled z xs) % 2 ≡ (cond (p z) 1 0 + count_by p xs) % 2
count-toggled p z [] = ap (λ n. n % 2) (count-cons p z [])
count-toggled p z (y ∷ ys) = by_lt_z z y
    (λ lt. rw (lt_true z y lt) (ap (λ n. n % 2) (count-cons p z (y ∷ ys))))
    (λ ge. by_lt_z y z
    (λ lt. rw (lt_false z y ge, lt_true y z lt) (deeper (count-toggled p z ys)))
    (λ le. rw (lt_false z y ge, lt_false y z le) (gone (same_from_both z y le ge))))
  where
    deeper : count_by p (toggled z ys) % 2 ≡ (cond (p z) 1 0 + count_by p ys) % 2 → count_by p (y ∷ toggled z ys) % 2 ≡ (cond (p z) 1 0 + count_by p (y ∷ ys)) % 2
    deeper h = rw (count-cons p y (toggled z ys), count-cons p y ys) (omega arith)

    gone : z ≡ y → count_by p ys % 2 ≡ (cond (p z) 1 0 + count_by p (y ∷ ys)) % 2
    gone same =
        let bit : ℤ → ℕ = λ w. cond (p w) 1 0 in
        let e : bit z ≡ bit y = ap bit same in
        rw (count-cons p y ys, e) (omega arith)

-- the numbers that are left have the parity of the edges that pass
pub count-crossed : (p : ℤ → Bool) (y : ℤ) (xs : List ℤ) (edges : List Edge) → count_by p (fold (crossed y) xs edges) % 2 ≡ (count_by p xs + count_by (λ (e : Edge). passes y e && p e.from.x) edges) % 2
count-crossed p y xs [] = omega arith
count-crossed p y xs (e ∷ es) =
    let test = λ (f : Edge). passes y f && p f.from.x in
    let rest = count-crossed p y (crossed y xs e) es in
    let more : count_by test (e ∷ es) ≡ cond (passes y e && p e.from.x) 1 0 + count_by test es = count-cons test e es in
    let step : count_by p (crossed y xs e) % 2 ≡ (cond (passes y e && p e.from.x) 1 0 + count_by p xs) % 2 = one (passes y e) refl in
    omega arith
  where
    one : (b : Bool) → passes y e ≡ b → count_by p (crossed y xs e) % 2 ≡ (cond (passes y e && p e.from.x) 1 0 + count_by p xs) % 2
    one true is = rw is (count-toggled p e.from.x xs)
    one false is = rw is (omega arith)

pub count-crossings : (p : ℤ → Bool) (y : ℤ) (edges : List Edge) → count_by p (crossings_of y edges) % 2 ≡ count_by (λ (e : Edge). passes y e && p e.from.x) edges % 2
count-crossings p y edges = let all = count-crossed p y [] edges in omega arith

-- an edge passes where one end is above and the other one isn't
abbrev pub differ : Bool → Bool → Bool
differ true true = false
differ true false = true
differ false b = b

pub passes-differ : (y : ℤ) (e : Edge) → passes y e ≡ differ (int_lt y e.from.y) (int_lt y e.to.y)
passes-differ y e = by_lt_z y e.from.y
    (λ f. by_lt_z y e.to.y
    (λ t. rw (lt_true y e.from.y f, lt_true y e.to.y t, le_false e.from.y y f, le_false e.to.y y t))
    (λ t. rw (lt_true y e.from.y f, lt_false y e.to.y t, le_false e.from.y y f, le_true e.to.y y t)))
    (λ f. by_lt_z y e.to.y
    (λ t. rw (lt_false y e.from.y f, lt_true y e.to.y t, le_true e.from.y y f))
    (λ t. rw (lt_false y e.from.y f, lt_false y e.to.y t, le_true e.from.y y f, le_true e.to.y y t)))

-- round a polygon as many edges go up past y as go down
passes-bits : (y : ℤ) (e : Edge) → cond (passes y e && true) 1 0 % 2 ≡ (cond (int_lt y e.from.y) 1 0 + cond (int_lt y e.to.y) 1 0) % 2
passes-bits y e = rw (passes-differ y e) (by_tests (int_lt y e.from.y) (int_lt y e.to.y))
  where
    by_tests : (a b : Bool) → cond (differ a b && true) 1 0 % 2 ≡ (cond a 1 0 + cond b 1 0) % 2
    by_tests true true = refl
    by_tests true false = refl
    by_tests false true = refl
    by_tests false false = refl

passing_from : (y : ℤ) (first p : Point) (ps : List Point) → count_by (λ (e : Edge). passes y e && true) (edges_from first p ps) % 2 ≡ (cond (int_lt y p.y) 1 0 + cond (int_lt y first.y) 1 0) % 2
passing_from y first p [] =
    let e : Edge = record { from = p; to = first } in
    let more = count-cons (λ (f : Edge). passes y f && true) e [] in
    let here = passes-bits y e in
    omega arith
passing_from y first p (q ∷ qs) =
    let e : Edge = record { from = p; to = q } in
    let more = count-cons (λ (f : Edge). passes y f && true) e (edges_from first q qs) in
    let here = passes-bits y e in
    let rest = passing_from y first q qs in
    omega arith

pub passing-even : (y : ℤ) (points : List Point) → count_by (λ (e : Edge). passes y e && true) (edges_of points) % 2 ≡ 0
passing-even y [] = refl
passing-even y (p ∷ ps) = let all = passing_from y p p ps in omega arith

count-length : (xs : List ℤ) → count_by (λ z. true) xs ≡ length xs
count-length [] = refl
count-length (x ∷ xs) =
    let more = count-cons (λ z. true) x xs in
    let rest = count-length xs in
    omega arith

pub crossings-even : (y : ℤ) (points : List Point) → length (crossings_of y (edges_of points)) % 2 ≡ 0
crossings-even y points =
    let same = count-length (crossings_of y (edges_of points)) in
    let left = count-crossings (λ z. true) y (edges_of points) in
    let even = passing-even y points in
    omega arith

-- The rows of a polygon from the bottom up.
use Rattle.std.proofs.Common.{Bool, true, false, not, cond, ◌≡◌, ◌⊎◌, inl, inr, ℕ, ◌+◌, ◌%◌, ◌<◌, ◌≤◌, zero, suc, ℤ, pos, ◌<ℤ◌, ◌≤ℤ◌, int_lt, int_le, ◌&&◌, List, [], ◌∷◌, ◌++◌, map, fold, length, get_or, take, drop, All, count_by, refl, sym, ap, subst, ◌∙◌, arith}
use Rattle.std.specs.Ordering.{int_cmp, is_lt, int_eq, MatchOrdering}
use Rattle.std.specs.declared.cmp.Ordering.{Ordering}
use Rattle.std.specs.declared.cmp.Ordering.TheVariants.{Less, Equal, Greater}
use Rattle.std.specs.Cmp.{int_ranks}
use Rattle.std.specs.List.Sorted.{IsPermutation, IsPartitionedBy, IsPartitionPoint, IsSortedByKey}
use Rattle.std.specs.List.{AllWithin}
use Rattle.std.proofs.lemmas.Int.{ints, by_lt_z}
use Rattle.std.proofs.lemmas.Cmp.{int_cmp_total}
use Rattle.std.proofs.lemmas.List.Elements.{All-nil, All-cons, All-head, All-tail, All-append}
use Rattle.std.proofs.lemmas.List.Sorted.{ranks_by, sorted_far, sum_by-IsPermutation, IsPermutation-sym, All-permutation}
use Rattle.std.proofs.lemmas.List.Sums.{sum_by-append}
use Rattle.std.proofs.lemmas.List.{append_assoc, take-append-drop}
use Rattle.std.proofs.lemmas.Bool.{cases_lt}
use Rattle.rt_shapes.proofs.PairLemmas.{first_above}
use Rattle.rt_shapes.proofs.EvenOddLemmas.{crossings-ascending}
use Rattle.rt_base.specs.declared.geometry.Point.{Point}
use Rattle.rt_shapes.specs.Polygons.{Edge, IsAscending, edges_from, edges_of, passes, toggled, heights_of, crossings_of, slabs_from, slabs_over, slabs_of}
use Rattle.rt_shapes.specs.Sweep.{turns_of, IsRising}
use Rattle.rt_shapes.proofs.Risings.{lt_true, lt_false, same_from_both, ascending-head, ascending-tail, ascending-nil}
use Rattle.rt_shapes.proofs.Parity.{le_true, le_false, differ, count-cons, count-agree, count-none, count-crossings, count-toggled, passes-differ}
use Rattle.rt_shapes.proofs.SlabLemmas.{ends_of, heights_within}
use Rattle.rt_shapes.proofs.HeightLemmas.{IsOneOf, one_of-all, heights-have, heights-ascending}

-- numbers that were sorted rise
not_after : (a b : ℤ) → is_lt (int_cmp b a) ≡ false → a ≤ℤ b
not_after a b h = by_order (int_cmp b a) h (int_ranks b a)
  where
    by_order : (o : Ordering) → is_lt o ≡ false → MatchOrdering o (b <ℤ a) (b ≡ a) (a <ℤ b) → a ≤ℤ b
    by_order Less e r = absurd cc
    by_order Equal e r = omega (arith, ints)
    by_order Greater e r = omega (arith, ints)

pub rising-sorted : (points : List Point) → IsSortedByKey (λ (p : Point). p.y) int_cmp points → IsRising points
rising-sorted points up i j d lt h = not_after (get_or points i d).y (get_or points j d).y (sorted_far (λ (p q : Point). is_lt (int_cmp p.y q.y)) (ranks_by int_cmp_total (λ (p : Point). p.y)) points up i j d (omega arith) h)

pub rising-parted : (points : List Point) (y : ℤ) → IsRising points → IsPartitionedBy (λ (p : Point). int_le p.y y) points
rising-parted points y up i j d le h passed = by_index (cases_lt i j)
  where
    not_above : (a b : ℤ) → a ≤ℤ b → int_le b y ≡ true → int_le a y ≡ true
    not_above a b low test = by_lt_z y b
        (λ lt. absurd (let e = le_false b y lt in cc))
        (λ ge. le_true a y (omega (arith, ints)))

    by_index : (i < j) ⊎ (j ≤ i) → int_le (get_or points i d).y y ≡ true
    by_index (inl lt) = not_above (get_or points i d).y (get_or points j d).y (up i j d lt h) passed
    by_index (inr ge) = let e : j ≡ i = omega arith in subst (λ k. int_le (get_or points k d).y y ≡ true) e passed

within-take : {X : Type 0} (P : X → Type 0) (xs : List X) (n : ℕ) → AllWithin P xs 0 n → All P (take n xs)
within-take P xs zero w = All-nil P
within-take P [] (suc n) w = All-nil P
within-take P (x ∷ xs) (suc n) w = All-cons P x (take n xs) (w 0 x (omega arith) (omega arith)) (within-take P xs n (λ k d a b. w (suc k) d (omega arith) (omega arith)))

within-drop : {X : Type 0} (P : X → Type 0) (xs : List X) (n : ℕ) → AllWithin P xs n (length xs) → All P (drop n xs)
within-drop P xs zero w = λ k d h. w k d (omega arith) h
within-drop P [] (suc n) w = All-nil P
within-drop P (x ∷ xs) (suc n) w = within-drop P xs n (λ k d a b. w (suc k) d (omega arith) (omega arith))

pub parted-passed : (turns : List Point) (y : ℤ) (n : ℕ) → IsPartitionPoint (λ (q : Point). int_le q.y y ≡ true) (λ (q : Point). int_le q.y y ≡ false) turns n → All (λ (q : Point). q.y ≤ℤ y) (take n turns)
parted-passed turns y n point k d h = at_most (get_or (take n turns) k d).y (within-take (λ (q : Point). int_le q.y y ≡ true) turns n point.0 k d h)
  where
    at_most : (z : ℤ) → int_le z y ≡ true → z ≤ℤ y
    at_most z e = by_lt_z y z (λ lt. absurd (let f = le_false z y lt in cc)) (λ ge. ge)

pub parted-ahead : (turns : List Point) (y : ℤ) (n : ℕ) → IsPartitionPoint (λ (q : Point). int_le q.y y ≡ true) (λ (q : Point). int_le q.y y ≡ false) turns n → All (λ (q : Point). y <ℤ q.y) (drop n turns)
parted-ahead turns y n point k d h = beyond (get_or (drop n turns) k d).y (within-drop (λ (q : Point). int_le q.y y ≡ false) turns n point.1 k d h)
  where
    beyond : (z : ℤ) → int_le z y ≡ false → y <ℤ z
    beyond z e = by_lt_z y z (λ lt. lt) (λ ge. absurd (let f = le_true z y ge in cc))

pub rising-drop : (points : List Point) (n : ℕ) → IsRising points → IsRising (drop n points)
rising-drop points zero up = up
rising-drop [] (suc n) up = up
rising-drop (p ∷ ps) (suc n) up = rising-drop ps n (λ i j d lt h. up (suc i) (suc j) d (omega arith) (omega arith))

-- the parity of numbers toggled one after the other
count-odd : (p : ℤ → Bool) (xs numbers : List ℤ) → count_by p (fold (λ ys x. toggled x ys) xs numbers) % 2 ≡ (count_by p xs + count_by p numbers) % 2
count-odd p xs [] = omega arith
count-odd p xs (x ∷ numbers) =
    let rest = count-odd p (toggled x xs) numbers in
    let here = count-toggled p x xs in
    let more = count-cons p x numbers in
    omega arith

pub count-odd_of : (p : ℤ → Bool) (numbers : List ℤ) → count_by p (fold (λ ys x. toggled x ys) [] numbers) % 2 ≡ count_by p numbers % 2
count-odd_of p numbers = let all = count-odd p [] numbers in omega arith

count-append : {X : Type 0} (p : X → Bool) (xs ys : List X) → count_by p (xs ++ ys) ≡ count_by p xs + count_by p ys
count-append p xs ys = sum_by-append (λ x. cond (p x) 1 0) xs ys

count-map : (p : ℤ → Bool) (points : List Point) → count_by p (map (λ (q : Point). q.x) points) ≡ count_by (λ (q : Point). p q.x) points
count-map p [] = refl
count-map p (q ∷ qs) = rw (count-cons p q.x (map (λ (r : Point). r.x) qs), count-cons (λ (r : Point). p r.x) q qs, count-map p qs)

count-permutation : {X : Type 0} (p : X → Bool) (xs ys : List X) → IsPermutation xs ys → count_by p ys ≡ count_by p xs
count-permutation p xs ys same = sum_by-IsPermutation (λ x. cond (p x) 1 0) xs ys same

pub count-turned : (p : ℤ → Bool) (xs all : List ℤ) (turns : List Point) → IsPermutation (xs ++ map (λ (q : Point). q.x) turns) all → count_by p all ≡ count_by p xs + count_by (λ (q : Point). p q.x) turns
count-turned p xs all turns same = count-permutation p (xs ++ map (λ (q : Point). q.x) turns) all same ∙ (count-append p xs (map (λ (q : Point). q.x) turns) ∙ ap (λ n. count_by p xs + n) (count-map p turns))

-- ascending numbers are known by what stands among them an odd number of times
abbrev is : ℤ → ℤ → Bool
is z x = int_eq x z

eq_self : (z : ℤ) → int_eq z z ≡ true
eq_self z = grind (arith, ints)

eq_above : (z x : ℤ) → z <ℤ x → int_eq x z ≡ false
eq_above z x lt = grind (arith, ints)

alone-first : (z : ℤ) (xs : List ℤ) → IsAscending (z ∷ xs) → count_by (is z) (z ∷ xs) ≡ 1
alone-first z xs up =
    let here = eq_self z in
    let none = count-none (is z) xs (λ k d h. eq_above z (get_or xs k d) (ascending-head z xs up k d h)) in
    rw (count-cons (is z) z xs, here, none)

none-below : (z x : ℤ) (xs : List ℤ) → z <ℤ x → IsAscending (x ∷ xs) → count_by (is z) (x ∷ xs) ≡ 0
none-below z x xs lt up = count-none (is z) (x ∷ xs) (λ k d h. eq_above z (get_or (x ∷ xs) k d) (first_above z x xs lt up k d h))

pub ascending-unique : (xs ys : List ℤ) → IsAscending xs → IsAscending ys → ((p : ℤ → Bool) → count_by p xs % 2 ≡ count_by p ys % 2) → xs ≡ ys
ascending-unique [] [] left right same = refl
ascending-unique [] (y ∷ ys) left right same = let one = alone-first y ys right in let h = same (is y) in absurd (omega arith)
ascending-unique (x ∷ xs) [] left right same = let one = alone-first x xs left in let h = same (is x) in absurd (omega arith)
ascending-unique (x ∷ xs) (y ∷ ys) left right same = by_lt_z x y
    (λ lt. let one = alone-first x xs left in let none = none-below x y ys lt right in let h = same (is x) in absurd (omega arith))
    (λ ge. by_lt_z y x
    (λ lt. let one = alone-first y ys right in let none = none-below y x xs lt left in let h = same (is y) in absurd (omega arith))
    (λ le. let e = same_from_both x y le ge in let rest = ascending-unique xs ys (ascending-tail x xs left) (ascending-tail y ys right) (λ p. tails p e (same p)) in cc))
  where
    tails : (p : ℤ → Bool) → x ≡ y → count_by p (x ∷ xs) % 2 ≡ count_by p (y ∷ ys) % 2 → count_by p xs % 2 ≡ count_by p ys % 2
    tails p e h =
        let bit : ℤ → ℕ = λ w. cond (p w) 1 0 in
        let first : bit x ≡ bit y = ap bit e in
        let left = count-cons p x xs in
        let right = count-cons p y ys in
        omega arith

-- the turns that aren't above y have the parity of the edges that pass y
turn-bits : (y : ℤ) (e : Edge) (b : Bool) → (cond (int_le e.from.y y && b) 1 0 + cond (int_le e.to.y y && b) 1 0) % 2 ≡ cond (passes y e && b) 1 0 % 2
turn-bits y e b = rw (passes-differ y e, le_not e.from.y, le_not e.to.y) (by_tests (int_lt y e.from.y) (int_lt y e.to.y) b)
  where
    le_not : (z : ℤ) → int_le z y ≡ not (int_lt y z)
    le_not z = by_lt_z y z
        (λ lt. rw (lt_true y z lt, le_false z y lt))
        (λ ge. rw (lt_false y z ge, le_true z y ge))

    by_tests : (f t c : Bool) → (cond (not f && c) 1 0 + cond (not t && c) 1 0) % 2 ≡ cond (differ f t && c) 1 0 % 2
    by_tests true true true = refl
    by_tests true true false = refl
    by_tests true false true = refl
    by_tests true false false = refl
    by_tests false true true = refl
    by_tests false true false = refl
    by_tests false false true = refl
    by_tests false false false = refl

turns-parity : (p : ℤ → Bool) (y : ℤ) (edges : List Edge) → count_by (λ (q : Point). int_le q.y y && p q.x) (turns_of edges) % 2 ≡ count_by (λ (e : Edge). passes y e && p e.from.x) edges % 2
turns-parity p y [] = refl
turns-parity p y (e ∷ es) =
    let test = λ (q : Point). int_le q.y y && p q.x in
    let end : Point = record { x = e.from.x; y = e.to.y } in
    let first = count-cons test e.from (end ∷ turns_of es) in
    let second = count-cons test end (turns_of es) in
    let more = count-cons (λ (f : Edge). passes y f && p f.from.x) e es in
    let here = turn-bits y e (p e.from.x) in
    let rest = turns-parity p y es in
    omega arith

-- the turns are parted into those that are passed, whose x are toggled in xs, and the rest
pub record IsSwept (turns rest : List Point) (low : ℤ) (xs : List ℤ) : Type 0 where
  pub done : List Point
  pub split : done ++ rest ≡ turns
  pub passed : All (λ (q : Point). q.y ≤ℤ low) done
  pub parity : (p : ℤ → Bool) → count_by p xs % 2 ≡ count_by (λ (q : Point). p q.x) done % 2

pub swept-none : (turns : List Point) (low : ℤ) → IsSwept turns turns low []
swept-none turns low = record { done = []; split = refl; passed = All-nil (λ (q : Point). q.y ≤ℤ low); parity = λ p. refl }

pub swept-more : (turns rest : List Point) (low : ℤ) (xs : List ℤ) (n : ℕ) (more : List ℤ) → IsSwept turns rest low xs → All (λ (q : Point). q.y ≤ℤ low) (take n rest) → ((p : ℤ → Bool) → count_by p more % 2 ≡ (count_by p xs + count_by (λ (q : Point). p q.x) (take n rest)) % 2) → IsSwept turns (drop n rest) low more
swept-more turns rest low xs n more h passed parity = record {
  done = h.done ++ take n rest;
  split = append_assoc h.done (take n rest) (drop n rest) ∙ (ap (λ l. h.done ++ l) (take-append-drop n rest) ∙ h.split);
  passed = All-append (λ (q : Point). q.y ≤ℤ low) h.done (take n rest) h.passed passed;
  parity = λ p. both p (count-append (λ (q : Point). p q.x) h.done (take n rest)) (parity p) (h.parity p);
}
  where
    both : (p : ℤ → Bool) → count_by (λ (q : Point). p q.x) (h.done ++ take n rest) ≡ count_by (λ (q : Point). p q.x) h.done + count_by (λ (q : Point). p q.x) (take n rest) → count_by p more % 2 ≡ (count_by p xs + count_by (λ (q : Point). p q.x) (take n rest)) % 2 → count_by p xs % 2 ≡ count_by (λ (q : Point). p q.x) h.done % 2 → count_by p more % 2 ≡ count_by (λ (q : Point). p q.x) (h.done ++ take n rest) % 2
    both p all step before = omega arith

pub swept-higher : (turns rest : List Point) (low high : ℤ) (xs : List ℤ) → low <ℤ high → IsSwept turns rest low xs → IsSwept turns rest high xs
swept-higher turns rest low high xs lt h = record { done = h.done; split = h.split; passed = λ k d w. higher (get_or h.done k d).y (h.passed k d w); parity = h.parity }
  where
    higher : (z : ℤ) → z ≤ℤ low → z ≤ℤ high
    higher z le = omega (arith, ints)

-- the crossings at y, where the turns up to y are passed
pub swept_is : (edges : List Edge) (turns rest : List Point) (y : ℤ) (xs : List ℤ) → IsPermutation (turns_of edges) turns → IsSwept turns rest y xs → All (λ (q : Point). y <ℤ q.y) rest → IsAscending xs → xs ≡ crossings_of y edges
swept_is edges turns rest y xs same h ahead up = ascending-unique xs (crossings_of y edges) up (crossings-ascending y edges) (λ p. h.parity p ∙ (ap (λ n. n % 2) (whole p) ∙ (turns-parity p y edges ∙ sym (count-crossings p y edges))))
  where
    whole : (p : ℤ → Bool) → count_by (λ (q : Point). p q.x) h.done ≡ count_by (λ (q : Point). int_le q.y y && p q.x) (turns_of edges)
    whole p =
        let t = λ (q : Point). int_le q.y y && p q.x in
        let all : count_by t turns ≡ count_by t (turns_of edges) = count-permutation t (turns_of edges) turns same in
        let parts : count_by t turns ≡ count_by t h.done + count_by t rest = ap (count_by t) (sym h.split) ∙ count-append t h.done rest in
        let none : count_by t rest ≡ 0 = count-none t rest (λ k d w. ap (λ b. b && p (get_or rest k d).x) (le_false (get_or rest k d).y y (ahead k d w))) in
        let agree : count_by (λ (q : Point). p q.x) h.done ≡ count_by t h.done = count-agree (λ (q : Point). p q.x) t h.done (λ k d w. sym (ap (λ b. b && p (get_or h.done k d).x) (le_true (get_or h.done k d).y y (h.passed k d w)))) in
        omega arith

-- the turns stand at the heights of the points
turns-all : (P : ℤ → Type 0) (edges : List Edge) → All (λ (e : Edge). P e.from.y × P e.to.y) edges → All (λ (q : Point). P q.y) (turns_of edges)
turns-all P [] all = All-nil (λ (q : Point). P q.y)
turns-all P (e ∷ es) all =
    let here = All-head (λ (f : Edge). P f.from.y × P f.to.y) e es all in
    let end : Point = record { x = e.from.x; y = e.to.y } in
    All-cons (λ (q : Point). P q.y) e.from (end ∷ turns_of es) here.0 (All-cons (λ (q : Point). P q.y) end (turns_of es) here.1 (turns-all P es (All-tail (λ (f : Edge). P f.from.y × P f.to.y) e es all)))

points_from : (P : ℤ → Type 0) (first p : Point) (ps : List Point) → All (λ (q : Point). P q.y) (turns_of (edges_from first p ps)) → All (λ (q : Point). P q.y) (p ∷ ps)
points_from P first p [] all = All-cons (λ (q : Point). P q.y) p [] (All-head (λ (q : Point). P q.y) p (record { x = p.x; y = first.y } ∷ []) all) (All-nil (λ (q : Point). P q.y))
points_from P first p (r ∷ rs) all =
    let end : Point = record { x = p.x; y = r.y } in
    let more = turns_of (edges_from first r rs) in
    All-cons (λ (q : Point). P q.y) p (r ∷ rs) (All-head (λ (q : Point). P q.y) p (end ∷ more) all) (points_from P first r rs (All-tail (λ (q : Point). P q.y) end more (All-tail (λ (q : Point). P q.y) p (end ∷ more) all)))

points-all : (P : ℤ → Type 0) (points : List Point) → All (λ (q : Point). P q.y) (turns_of (edges_of points)) → All (λ (q : Point). P q.y) points
points-all P [] all = All-nil (λ (q : Point). P q.y)
points-all P (p ∷ ps) all = points_from P p p ps all

-- ascending numbers are known by their members
members-unique : (xs ys : List ℤ) → IsAscending xs → IsAscending ys → All (λ z. IsOneOf z ys) xs → All (λ z. IsOneOf z xs) ys → xs ≡ ys
members-unique [] [] left right there back = refl
members-unique [] (y ∷ ys) left right there back = absurd (All-head (λ z. IsOneOf z []) y ys back)
members-unique (x ∷ xs) [] left right there back = absurd (All-head (λ z. IsOneOf z []) x xs there)
members-unique (x ∷ xs) (y ∷ ys) left right there back = by_lt_z x y
    (λ lt. absurd (apart x y ys lt right (All-head (λ z. IsOneOf z (y ∷ ys)) x xs there)))
    (λ ge. by_lt_z y x
    (λ lt. absurd (apart y x xs lt left (All-head (λ z. IsOneOf z (x ∷ xs)) y ys back)))
    (λ le.
    let e = same_from_both x y le ge in
    let rest = members-unique xs ys (ascending-tail x xs left) (ascending-tail y ys right)
    (λ k d h. later y (get_or xs k d) ys (subst (λ w. w <ℤ get_or xs k d) e (ascending-head x xs left k d h)) (there (suc k) d (omega arith)))
    (λ k d h. later x (get_or ys k d) xs (subst (λ w. w <ℤ get_or ys k d) (sym e) (ascending-head y ys right k d h)) (back (suc k) d (omega arith))) in
    cc))
  where
    apart : (a b : ℤ) (bs : List ℤ) → a <ℤ b → IsAscending (b ∷ bs) → IsOneOf a (b ∷ bs) → ⊥
    apart a b bs lt up one = let own : a <ℤ a = one_of-all (λ w. a <ℤ w) a (b ∷ bs) (first_above a b bs lt up) one in absurd (omega (arith, ints))

    later : (b z : ℤ) (bs : List ℤ) → b <ℤ z → IsOneOf z (b ∷ bs) → IsOneOf z bs
    later b z bs lt (inl e) = absurd (omega (arith, ints))
    later b z bs lt (inr one) = one

heights-turned : (points turns : List Point) → IsPermutation (turns_of (edges_of points)) turns → heights_of turns ≡ heights_of points
heights-turned points turns same =
    let there = All-permutation (λ (q : Point). IsOneOf q.y (heights_of points)) (turns_of (edges_of points)) turns same (turns-all (λ z. IsOneOf z (heights_of points)) (edges_of points) (ends_of (λ (p : Point). IsOneOf p.y (heights_of points)) points (heights-have [] points))) in
    let back = points-all (λ z. IsOneOf z (heights_of turns)) points (All-permutation (λ (q : Point). IsOneOf q.y (heights_of turns)) turns (turns_of (edges_of points)) (IsPermutation-sym (turns_of (edges_of points)) turns same) (heights-have [] turns)) in
    members-unique (heights_of turns) (heights_of points) (heights-ascending [] turns ascending-nil) (heights-ascending [] points ascending-nil)
    (heights_within (λ z. IsOneOf z (heights_of points)) [] turns (All-nil (λ z. IsOneOf z (heights_of points))) there)
    (heights_within (λ z. IsOneOf z (heights_of turns)) [] points (All-nil (λ z. IsOneOf z (heights_of turns))) back)

-- what the heights and the rows give together
same_over : (points turns : List Point) (ys : List ℤ) → IsPermutation (turns_of (edges_of points)) turns → ys ≡ heights_of turns → slabs_over (edges_of points) ys ≡ slabs_of points
same_over points turns ys same is = ap (slabs_over (edges_of points)) (is ∙ heights-turned points turns same)

pub no_slabs : (points turns : List Point) (ys : List ℤ) → IsPermutation (turns_of (edges_of points)) turns → ys ≡ heights_of turns → length ys < 1 → [] ≡ slabs_of points
no_slabs points turns [] same is short = same_over points turns [] same is
no_slabs points turns (y ∷ ys) same is short = absurd (omega arith)

pub all_slabs : (points turns : List Point) (ys : List ℤ) → IsPermutation (turns_of (edges_of points)) turns → ys ≡ heights_of turns → 1 ≤ length ys → slabs_from (edges_of points) (get_or ys 0 (pos 0)) (drop 1 ys) ≡ slabs_of points
all_slabs points turns [] same is long = absurd (omega arith)
all_slabs points turns (y ∷ ys) same is long = same_over points turns (y ∷ ys) same is

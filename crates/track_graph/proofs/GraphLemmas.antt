-- Ascending lists of numbers, and how they are searched.
use Rattle.std.proofs.Common.{◌⊎◌, ◌++◌, zero, suc, [], ◌∷◌, Some, None, slice_get, option_map, is_some, unwrap_or, ◌≡◌, ◌↔◌, ℕ, ◌+◌, ◌<◌, ◌≤◌, ℤ, ◌<ℤ◌, ◌≤ℤ◌, int_lt, true, false, List, length, get_or, AllPairs, Contains, IsTrue, Result, Ok, Err, is_ok, ⊎_elim, not, refl, sym, subst, ◌∙◌, arith, rules}
use Rattle.std.specs.Ordering.{int_cmp, is_lt, MatchOrdering}
use Rattle.std.specs.declared.cmp.Ordering.{Ordering}
use Rattle.std.specs.declared.cmp.Ordering.TheVariants.{Less, Equal, Greater}
use Rattle.std.specs.Cmp.{int_ranks}
use Rattle.std.specs.List.Sorted.{IsSortedBy, IsBinarySearchResult, IsSearchInRange, IsPartitionPoint, IsPartitionedBy}
use Rattle.std.proofs.lemmas.Cmp.{int_cmp_total}
use Rattle.std.proofs.lemmas.Bool.{cases_lt}
use Rattle.std.proofs.lemmas.Int.{ints, by_lt_z}
use Rattle.std.proofs.lemmas.List.Elements.{Contains-append_left, Contains-append_right, Contains-append_cases}
use Rattle.std.proofs.lemmas.List.Sorted.{searchable_from_sorted}
use Rattle.std.proofs.lemmas.Option.{slice_get_cases, slice_get_within, get_or_from_slice_get}
use Rattle.rt_base.specs.declared.tech.Layer.{Layer}
use Rattle.rt_base.specs.declared.tech.Tech.{Tech}
use Rattle.track_graph.specs.declared.design.Tracks.{Tracks}
use Rattle.track_graph.specs.Designs.{AreTracks}
use Rattle.track_graph.specs.Levels.{number_of, lines_of, lines_below, NoneBetween}

abbrev pub IsAscending : List ℤ → Type 0
IsAscending lines = AllPairs (λ a b. a <ℤ b) lines

-- what an answer of `cmp` says
abbrev Ranked : ℤ → ℤ → Ordering → Type 0
Ranked x y o = MatchOrdering o (x <ℤ y) (x ≡ y) (y <ℤ x)

ranked : (x y : ℤ) (o : Ordering) → int_cmp x y ≡ o → Ranked x y o
ranked x y o e = subst (Ranked x y) e (int_ranks x y)

not_irreflexive : (x : ℤ) → x <ℤ x → ⊥
not_irreflexive x h = omega (arith, ints)

not_after : (a b : ℤ) → a <ℤ b → is_lt (int_cmp b a) ≡ false
not_after a b h = by_order (int_cmp b a) (int_ranks b a)
  where
    by_order : (o : Ordering) → Ranked b a o → is_lt o ≡ false
    by_order Less r = absurd (omega (arith, ints))
    by_order Equal r = refl
    by_order Greater r = refl

sorted_from_ascending : (xs : List ℤ) → IsAscending xs → IsSortedBy (λ a b. is_lt (int_cmp a b)) xs
sorted_from_ascending xs up k d low h = not_after (get_or xs k d) (get_or xs (k + 1) d) (up k (k + 1) d (omega arith) h)

-- a binary search of an ascending list tells whether it has the number
pub found_exactly : (xs : List ℤ) (z : ℤ) (r : Result ℕ ℕ) → IsAscending xs → IsSearchInRange r (length xs) → IsBinarySearchResult (λ y. int_cmp y z) xs r → IsTrue (is_ok r) ↔ Contains xs z
found_exactly xs z (Ok i) up in_range found = (λ _. (i, in_range, ranked _ z Equal (found z)), λ _. search rules)
found_exactly xs z (Err i) up in_range apart =
    let parts = apart (searchable_from_sorted int_cmp_total (λ y. y) xs z (sorted_from_ascending xs up)) in
    (λ t. search rules, λ h. absurd (elsewhere h parts))
  where
    elsewhere : Contains xs z → IsPartitionPoint (λ y. int_cmp y z ≡ Less) (λ y. int_cmp y z ≡ Greater) xs i → ⊥
    elsewhere h parts = ⊎_elim
        (λ (lt : h.0 < i). not_irreflexive z (subst (λ y. y <ℤ z) h.2 (ranked (get_or xs h.0 z) z Less (parts.0 h.0 z (omega arith) lt))))
        (λ (ge : i ≤ h.0). not_irreflexive z (subst (λ y. z <ℤ y) h.2 (ranked (get_or xs h.0 z) z Greater (parts.1 h.0 z ge h.1))))
        (cases_lt h.0 i)

-- the numbers up to a bound come first
pub partitioned_by_bound : (xs : List ℤ) (most : ℤ) → IsAscending xs → IsPartitionedBy (λ y. not (int_lt most y)) xs
partitioned_by_bound xs most up i j d le h t = ⊎_elim
    (λ (lt : i < j). below (get_or xs i d) (get_or xs j d) most (up i j d lt h) t)
    (λ (ge : j ≤ i). let same : i ≡ j = omega arith in rw same t)
    (cases_lt i j)
  where
    below : (a b m : ℤ) → a <ℤ b → not (int_lt m b) ≡ true → not (int_lt m a) ≡ true
    below a b m h t = grind (arith, ints)

-- the lines of each level ascend, also where there is no such level
pub lines_of-ascending : (tech : Tech) (tracks : Tracks) (level : ℕ) → AreTracks tech tracks → IsAscending (lines_of tracks level)
lines_of-ascending tech tracks level ok = read (slice_get_cases tracks.lines level).1
  where
    read : ((xs : List ℤ) × (level < length tracks.lines) × (slice_get tracks.lines level ≡ Some xs) × (get_or tracks.lines level xs ≡ xs)) ⊎ ((length tracks.lines ≤ level) × (slice_get tracks.lines level ≡ None)) → IsAscending (unwrap_or (slice_get tracks.lines level) [])
    read w = ⊎_elim
        (λ (h : (xs : List ℤ) × (level < length tracks.lines) × (slice_get tracks.lines level ≡ Some xs) × (get_or tracks.lines level xs ≡ xs)). rw h.2 (subst IsAscending h.3 (ok.ascending level h.0 h.1)))
        (λ (h : (length tracks.lines ≤ level) × (slice_get tracks.lines level ≡ None)). rw h.1 (λ i j d lt within. absurd (omega arith)))
        w

pub lines_below-ascending : (tech : Tech) (tracks : Tracks) (level : ℕ) → AreTracks tech tracks → IsAscending (lines_below tracks level)
lines_below-ascending tech tracks zero ok = λ i j d lt within. absurd (omega arith)
lines_below-ascending tech tracks (suc level) ok = lines_of-ascending tech tracks level ok

-- a level that has a number is one of the levels
pub level_within : (ls : List (ℕ × Layer)) (k : ℕ) → is_some (option_map number_of (slice_get ls k)) ≡ true → k < length ls
level_within [] k h = cc
level_within (l ∷ ls) zero h = omega arith
level_within (l ∷ ls) (suc k) h = omega (arith, level_within ls k h)

-- none of two lists stands between two numbers where none of each does
pub none_between_append : (xs ys : List ℤ) (low high : ℤ) → NoneBetween xs low high → NoneBetween ys low high → NoneBetween (xs ++ ys) low high
none_between_append xs ys low high hx hy z h above below = ⊎_elim (λ (l : Contains xs z). hx z l above below) (λ (r : Contains ys z). hy z r above below) (Contains-append_cases xs ys z h)

pub none_between_left : (xs ys : List ℤ) (low high : ℤ) → NoneBetween (xs ++ ys) low high → NoneBetween xs low high
none_between_left xs ys low high h z in_left = h z (Contains-append_left xs ys z in_left)

pub none_between_right : (xs ys : List ℤ) (low high : ℤ) → NoneBetween (xs ++ ys) low high → NoneBetween ys low high
none_between_right xs ys low high h z in_right = h z (Contains-append_right xs ys z in_right)

-- the tests of a search say where the numbers stand
pub partition_point_is : (xs : List ℤ) (most : ℤ) (i : ℕ) → IsPartitionPoint (λ y. not (int_lt most y) ≡ true) (λ y. not (int_lt most y) ≡ false) xs i → IsPartitionPoint (λ y. y ≤ℤ most) (λ y. most <ℤ y) xs i
partition_point_is xs most i parts = (λ k d low high. at_most (get_or xs k d) most (parts.0 k d low high), λ k d low high. past (get_or xs k d) most (parts.1 k d low high))
  where
    at_most : (a m : ℤ) → not (int_lt m a) ≡ true → a ≤ℤ m
    at_most a m t = grind (arith, ints)

    past : (a m : ℤ) → not (int_lt m a) ≡ false → m <ℤ a
    past a m t = grind (arith, ints)

-- the first number past a bound tells whether any stands in the gap
pub gap_ends_at_next : (xs : List ℤ) (low high : ℤ) (i : ℕ) (next : ℤ) → IsAscending xs → IsPartitionPoint (λ y. y ≤ℤ low) (λ y. low <ℤ y) xs i → slice_get xs i ≡ Some next → (high ≤ℤ next) ↔ NoneBetween xs low high
gap_ends_at_next xs low high i next up parts at =
    let inside : i < length xs = slice_get_within xs i next at in
    let is_next : (d : ℤ) → get_or xs i d ≡ next = λ d. get_or_from_slice_get xs i next d at in (
      λ reaches z h above below. ⊎_elim
          (λ (lt : h.0 < i). clash z low (subst (λ y. y ≤ℤ low) h.2 (parts.0 h.0 z (omega arith) lt)) above)
          (λ (ge : i ≤ h.0). clash high z (by_place h.0 z ge h.1 h.2 reaches) below)
          (cases_lt h.0 i),
      λ none. reached next high (λ below. none next (i, inside, is_next next) (subst (λ y. low <ℤ y) (is_next low) (parts.1 i low (omega arith) inside)) below),
    )
  where
    clash : (z low : ℤ) → z ≤ℤ low → low <ℤ z → ⊥
    clash z low a b = omega (arith, ints)

    reached : (next high : ℤ) → (next <ℤ high → ⊥) → high ≤ℤ next
    reached next high h = by_lt_z next high (λ lt. absurd (h lt)) (λ le. le)

    after : (next high z : ℤ) → high ≤ℤ next → next <ℤ z → high ≤ℤ z
    after next high z a b = omega (arith, ints)

    by_place : (k : ℕ) (z : ℤ) → i ≤ k → k < length xs → get_or xs k z ≡ z → high ≤ℤ next → high ≤ℤ z
    by_place k z ge within is reaches = ⊎_elim
        (λ (later : i < k). let l : get_or xs i z <ℤ get_or xs k z = up i k z later within in after next high z reaches (rw (is, get_or_from_slice_get xs i next z at) at l))
        (λ (same : k ≤ i). let e : k ≡ i = omega arith in let n : next ≡ z = sym (get_or_from_slice_get xs i next z at) ∙ (rw e at is) in rw (← n) reaches)
        (cases_lt i k)

pub gap_without_next : (xs : List ℤ) (low high : ℤ) (i : ℕ) → IsPartitionPoint (λ y. y ≤ℤ low) (λ y. low <ℤ y) xs i → length xs ≤ i → NoneBetween xs low high
gap_without_next xs low high i parts past z h above below = clash z low (subst (λ y. y ≤ℤ low) h.2 (parts.0 h.0 z (omega arith) (omega (arith, h.1)))) above
  where
    clash : (z low : ℤ) → z ≤ℤ low → low <ℤ z → ⊥
    clash z low a b = omega (arith, ints)

-- The routable nets with their extents, and what sorting them gives.
use Rattle.std.proofs.Common.{◌≡◌, ◌∙◌, ◌⊎◌, ⊎_elim, inl, inr, ℕ, zero, suc, ◌+◌, ◌-◌, ◌<◌, ◌≤◌, ◌==◌, List, [], ◌∷◌, ◌++◌, Bool, true, false, cond, Some, Option, option_map, unwrap_or, ap, subst, refl, sym, length, map, get_or, reverse, slice_get, flat_map, sum_by, All, Contains, zero-add, arith}
use Rattle.std.specs.List.{AllPairs}
use Rattle.std.specs.List.Sorted.{IsPermutation, IsSorted}
use Rattle.std.specs.Ordering.{nat_cmp, ordering_then, is_lt}
use Rattle.std.specs.declared.cmp.Ordering.{Ordering}
use Rattle.std.specs.declared.cmp.Ordering.TheVariants.{Less, Equal}
use Rattle.std.proofs.lemmas.Bool.{cases_eq, cases_lt}
use Rattle.std.proofs.lemmas.Bool.Decides.{nat_tests}
use Rattle.std.proofs.lemmas.Cmp.{then_total, on_total, nat_cmp_total}
use Rattle.std.proofs.lemmas.List.{get_or-map, get_or-reverse, length-map, length-reverse}
use Rattle.std.proofs.lemmas.List.Elements.{All-nil, All-contains, All-map, All-push, Contains-get_or, Contains-append_left, Contains-append_right}
use Rattle.std.proofs.lemmas.List.Sums.{sum_by-cons}
use Rattle.std.proofs.lemmas.List.Quantifiers.{all_pairs_push}
use Rattle.std.proofs.lemmas.List.Sorted.{All-permutation, ranks_by, sorted_far, sum_by-IsPermutation, Contains-permutation, IsPermutation-map, IsPermutation-reverse, IsPermutation-trans}
use Rattle.std.proofs.lemmas.Option.{same_Some}
use Rattle.track_graph.specs.declared.design.Design.{Design}
use Rattle.track_graph.specs.declared.design.Net.{Net}
use Rattle.track_graph.specs.declared.design.Pin.{Pin}
use Rattle.track_graph.specs.declared.design.NetKind.{NetKind}
use Rattle.track_graph.specs.declared.design.NetKind.TheVariants.{Routable}
use Rattle.track_graph.specs.Histories.{IsRoutable}
use Rattle.track_graph.specs.Orders.{hull_extent, net_extent, IsBefore, IsOrder}
use Rattle.track_graph.proofs.WalkLemmas.{routable_within}
use Rattle.ripup.specs.Hulls.{rank_of, AreRanked, IsBeforeOrSame, IsLastFirst, IsRank}

pub AreRanked-none : (d : Design) → AreRanked d 0 []
AreRanked-none d = record {
  only = All-nil (IsRank d 0);
  has = λ n l r. absurd (omega arith);
  ascending = λ i j x lt l. absurd (omega arith);
}

IsRank-more : (d : Design) (past : ℕ) (rank : ℕ × ℕ) → IsRank d past rank → IsRank d (past + 1) rank
IsRank-more d past rank h = record { below = omega arith; routable = h.routable; extent = h.extent }

-- a net that isn't routable is passed over
pub AreRanked-skip : (d : Design) (past : ℕ) (ranks : List (ℕ × ℕ)) → AreRanked d past ranks → (IsRoutable d past → ⊥) → AreRanked d (past + 1) ranks
AreRanked-skip d past ranks h none = record {
  only = λ k x l. IsRank-more d past (get_or ranks k x) (h.only k x l);
  has = λ n l r. ⊎_elim
      (λ (e : n ≡ past). absurd (none (subst (IsRoutable d) e r)))
      (λ (other : n ≡ past → ⊥). h.has n (omega arith) r)
      (cases_eq n past);
  ascending = h.ascending;
}

-- a routable net is taken behind those before it
pub AreRanked-push : (d : Design) (past : ℕ) (ranks : List (ℕ × ℕ)) → AreRanked d past ranks → IsRoutable d past → AreRanked d (past + 1) (ranks ++ (net_extent d past, past) ∷ [])
AreRanked-push d past ranks h routable = record {
  only = All-push (IsRank d (past + 1)) ranks (net_extent d past, past) (λ k x l. IsRank-more d past (get_or ranks k x) (h.only k x l)) (record { below = omega arith; routable = routable; extent = refl });
  has = λ n l r. ⊎_elim
      (λ (e : n ≡ past). subst (λ (k : ℕ). Contains (ranks ++ (net_extent d past, past) ∷ []) (net_extent d k, k)) (sym e) (Contains-append_right ranks _ _ (0, omega arith, refl)))
      (λ (other : n ≡ past → ⊥). Contains-append_left ranks _ _ (h.has n (omega arith) r))
      (cases_eq n past);
  ascending = all_pairs_push (λ a b. a.1 < b.1) ranks (net_extent d past, past) h.ascending (λ k x l. (h.only k x l).below);
}

-- how often a number stands there
abbrev tally : ℕ → List (ℕ × ℕ) → ℕ
tally n ranks = sum_by (λ rank. cond (rank.1 == n) 1 0) ranks

pair_cmp_far : (ranks : List (ℕ × ℕ)) → IsSorted (λ a b. ordering_then (nat_cmp a.0 b.0) (nat_cmp a.1 b.1)) ranks → (i j : ℕ) (x : ℕ × ℕ) → i ≤ j → j < length ranks → is_lt (ordering_then (nat_cmp (get_or ranks j x).0 (get_or ranks i x).0) (nat_cmp (get_or ranks j x).1 (get_or ranks i x).1)) ≡ false
pair_cmp_far ranks up i j x le l =
    sorted_far (λ a b. is_lt (ordering_then (nat_cmp a.0 b.0) (nat_cmp a.1 b.1)))
    (ranks_by (then_total (on_total (λ (p : ℕ × ℕ). p.0) nat_cmp_total) (on_total (λ (p : ℕ × ℕ). p.1) nat_cmp_total)) (λ (p : ℕ × ℕ). p))
    ranks up i j x le l

clash : true ≡ false → ⊥
clash h = cc

nat_cmp-less : (a b : ℕ) → a < b → nat_cmp a b ≡ Less
nat_cmp-less a b h = grind (arith, nat_tests)

nat_cmp-equal : (a b : ℕ) → a ≡ b → nat_cmp a b ≡ Equal
nat_cmp-equal a b h = grind (arith, nat_tests)

-- what the order of pairs says of two that stand as they should
not_after : (a b p q : ℕ) → is_lt (ordering_then (nat_cmp b a) (nat_cmp q p)) ≡ false → (a < b) ⊎ ((a ≡ b) × (p ≤ q))
not_after a b p q h =
    let at : (o r : Ordering) → nat_cmp b a ≡ o → nat_cmp q p ≡ r → is_lt (ordering_then o r) ≡ false =
    λ o r e f. ap (λ (s : Ordering). is_lt (ordering_then s r)) (sym e) ∙ ap (λ (s : Ordering). is_lt (ordering_then (nat_cmp b a) s)) (sym f) ∙ h in
    ⊎_elim
    (λ (l : b < a). absurd (clash (at Less (nat_cmp q p) (nat_cmp-less b a l) refl)))
    (λ (u : a ≤ b). ⊎_elim
    (λ (l : a < b). inl l)
    (λ (v : b ≤ a).
    let same : b ≡ a = omega arith in
    ⊎_elim
    (λ (l : q < p). absurd (clash (at Equal Less (nat_cmp-equal b a same) (nat_cmp-less q p l))))
    (λ (w : p ≤ q). inr (sym same, w))
    (cases_lt q p))
    (cases_lt a b))
    (cases_lt b a)

is_number : (m n : ℕ) → m ≡ n → (m == n) ≡ true
is_number m n e = grind (arith, nat_tests)

another_number : (m n : ℕ) → (m ≡ n → ⊥) → (m == n) ≡ false
another_number m n other = grind (arith, nat_tests)

tally-cons : (n : ℕ) (r : ℕ × ℕ) (rs : List (ℕ × ℕ)) → tally n (r ∷ rs) ≡ cond (r.1 == n) 1 0 + tally n rs
tally-cons n r rs = sum_by-cons (λ rank. cond (rank.1 == n) 1 0) r rs

tally-same : (n : ℕ) (r : ℕ × ℕ) (rs : List (ℕ × ℕ)) → r.1 ≡ n → tally n (r ∷ rs) ≡ 1 + tally n rs
tally-same n r rs e = tally-cons n r rs ∙ ap (λ (b : Bool). cond b 1 0 + tally n rs) (is_number r.1 n e)

tally-other : (n : ℕ) (r : ℕ × ℕ) (rs : List (ℕ × ℕ)) → (r.1 ≡ n → ⊥) → tally n (r ∷ rs) ≡ 0 + tally n rs
tally-other n r rs other = tally-cons n r rs ∙ ap (λ (b : Bool). cond b 1 0 + tally n rs) (another_number r.1 n other)

-- the number stands there
one_counted : (n : ℕ) (ranks : List (ℕ × ℕ)) (j : ℕ) (x : ℕ × ℕ) → j < length ranks → (get_or ranks j x).1 ≡ n → 1 ≤ tally n ranks
one_counted n [] j x l e = absurd (omega arith)
one_counted n (r ∷ rs) zero x l e = omega (arith, tally-same n r rs e)
one_counted n (r ∷ rs) (suc j) x l e = omega (arith, tally-cons n r rs, one_counted n rs j x (omega arith) e)

two_counted : (n : ℕ) (ranks : List (ℕ × ℕ)) (i j : ℕ) (x : ℕ × ℕ) → i < j → j < length ranks → (get_or ranks i x).1 ≡ n → (get_or ranks j x).1 ≡ n → 2 ≤ tally n ranks
two_counted n [] i j x lt l e f = absurd (omega arith)
two_counted n (r ∷ rs) i zero x lt l e f = absurd (omega arith)
two_counted n (r ∷ rs) zero (suc j) x lt l e f = omega (arith, one_counted n rs j x (omega arith) f, tally-same n r rs e)
two_counted n (r ∷ rs) (suc i) (suc j) x lt l e f = omega (arith, tally-cons n r rs, two_counted n rs i j x (omega arith) (omega arith) e f)

none_counted : (n : ℕ) (ranks : List (ℕ × ℕ)) → All (λ r. n < r.1) ranks → tally n ranks ≡ 0
none_counted n [] h = refl
none_counted n (r ∷ rs) h =
    let here : n < r.1 = h 0 r (omega arith) in
    tally-other n r rs (λ e. omega arith) ∙ zero-add (tally n rs) ∙ none_counted n rs (λ k x l. h (suc k) x (omega arith))

-- where the numbers ascend, none stands there twice
once_counted : (n : ℕ) (ranks : List (ℕ × ℕ)) → AllPairs (λ a b. a.1 < b.1) ranks → tally n ranks ≤ 1
once_counted n [] h = omega arith
once_counted n (r ∷ rs) h =
    let later : tally n rs ≤ 1 = once_counted n rs (λ i j x lt l. h (suc i) (suc j) x (omega arith) (omega arith)) in
    ⊎_elim
    (λ (e : r.1 ≡ n).
    let none : tally n rs ≡ 0 = none_counted n rs (λ k x l. subst (λ (m : ℕ). m < (get_or rs k x).1) e (h 0 (suc k) x (omega arith) (omega arith))) in
    omega (arith, tally-same n r rs e))
    (λ (other : r.1 ≡ n → ⊥). omega (arith, tally-other n r rs other))
    (cases_eq r.1 n)

abbrev number_of : ℕ × ℕ → ℕ
number_of rank = rank.1

Contains-numbers : (ranks : List (ℕ × ℕ)) (r : ℕ × ℕ) → Contains ranks r → Contains (map number_of ranks) r.1
Contains-numbers ranks r (k, l, e) = (k, subst (λ (m : ℕ). k < m) (sym (length-map ranks number_of)) l, get_or-map number_of ranks k r r.1 l ∙ ap number_of e)

Contains-from_numbers : (ranks : List (ℕ × ℕ)) (n : ℕ) → Contains (map number_of ranks) n → (r : ℕ × ℕ) × (Contains ranks r) × (r.1 ≡ n)
Contains-from_numbers ranks n (k, l, e) =
    let within : k < length ranks = subst (λ (m : ℕ). k < m) (length-map ranks number_of) l in
    (get_or ranks k (0, 0), Contains-get_or ranks k (0, 0) within, sym (get_or-map number_of ranks k (0, 0) n within) ∙ e)

-- a routable net is one of the design's
below_other : (m n : ℕ) → (m ≡ n → ⊥) → m ≤ n → m < n
below_other m n other le = omega arith

-- sorted by extent and number the routable nets stand in their order
pub IsOrder-sorted : (d : Design) (ranks sorted : List (ℕ × ℕ)) → AreRanked d (length d.nets) ranks → IsPermutation ranks sorted → IsSorted (λ a b. ordering_then (nat_cmp a.0 b.0) (nat_cmp a.1 b.1)) sorted → IsOrder d (map number_of sorted)
IsOrder-sorted d ranks sorted h moved up =
    let only : All (IsRank d (length d.nets)) sorted = All-permutation (IsRank d (length d.nets)) ranks sorted moved h.only in
    record {
      has = λ n. (
        (λ (c : Contains (map number_of sorted) n).
            let (r, at, e) = Contains-from_numbers sorted n c in
            subst (IsRoutable d) e (All-contains (IsRank d (length d.nets)) sorted r only at).routable),
        (λ (routable : IsRoutable d n).
            Contains-numbers sorted (net_extent d n, n) (Contains-permutation ranks sorted _ moved (h.has n (routable_within d n routable) routable))),
      );
      ordered = λ i j x lt l.
          let past : j < length sorted = subst (λ (m : ℕ). j < m) (length-map sorted number_of) l in
          let a : ℕ × ℕ = get_or sorted i (0, 0) in
          let b : ℕ × ℕ = get_or sorted j (0, 0) in
          let first : IsRank d (length d.nets) a = only i (0, 0) (omega arith) in
          let second : IsRank d (length d.nets) b = only j (0, 0) past in
          let different : a.1 ≡ b.1 → ⊥ = λ e.
          let twice : 2 ≤ tally a.1 sorted = two_counted a.1 sorted i j (0, 0) lt past refl (sym e) in
          let kept : tally a.1 sorted ≡ tally a.1 ranks = sum_by-IsPermutation (λ rank. cond (rank.1 == a.1) 1 0) ranks sorted moved in
          let once : tally a.1 ranks ≤ 1 = once_counted a.1 ranks h.ascending in
          omega arith in
          let before : IsBefore d a.1 b.1 = ⊎_elim
          (λ (less : a.0 < b.0). inl (subst (λ (m : ℕ). m < net_extent d b.1) first.extent (subst (λ (m : ℕ). a.0 < m) second.extent less)))
          (λ (tie : (a.0 ≡ b.0) × (a.1 ≤ b.1)). inr (sym first.extent ∙ tie.0 ∙ second.extent, below_other a.1 b.1 different tie.1))
          (not_after a.0 b.0 a.1 b.1 (pair_cmp_far sorted up i j (0, 0) (omega arith) past)) in
          subst (λ (n : ℕ). IsBefore d n (get_or (map number_of sorted) j x)) (sym (get_or-map number_of sorted i (0, 0) x (omega arith)))
          (subst (λ (n : ℕ). IsBefore d a.1 n) (sym (get_or-map number_of sorted j (0, 0) x past)) before);
    }

pub routable-at : (d : Design) (n : ℕ) (net : Net) → slice_get d.nets n ≡ Some net → net.kind ≡ Routable → IsRoutable d n
routable-at d n net at kind = ap (λ (o : Option Net). option_map (λ (x : Net). x.kind) o) at ∙ ap (λ (k : NetKind). Some k) kind

pub not_routable-at : (d : Design) (n : ℕ) (net : Net) → slice_get d.nets n ≡ Some net → (net.kind ≡ Routable → ⊥) → IsRoutable d n → ⊥
not_routable-at d n net at other r = other (same_Some _ _ (sym (ap (λ (o : Option Net). option_map (λ (x : Net). x.kind) o) at) ∙ r))

pub extent-at : (d : Design) (n : ℕ) (net : Net) → slice_get d.nets n ≡ Some net → hull_extent (flat_map (λ (pin : Pin). pin.rects) net.pins) ≡ net_extent d n
extent-at d n net at = sym (ap (λ (o : Option Net). hull_extent (flat_map (λ (pin : Pin). pin.rects) (unwrap_or (option_map (λ (x : Net). x.pins) o) []))) at)

numbers-of_ranks : (d : Design) (nets : List ℕ) → map number_of (map (rank_of d) nets) ≡ nets
numbers-of_ranks d [] = refl
numbers-of_ranks d (n ∷ nets) = ap (λ (ns : List ℕ). n ∷ ns) (numbers-of_ranks d nets)

abbrev IsRankOf : Design → ℕ × ℕ → Type 0
IsRankOf d rank = rank.0 ≡ net_extent d rank.1

-- of two nets that stand sorted by extent and number the first one is before the other, or the same
before_or_same : (d : Design) (a b : ℕ × ℕ) → IsRankOf d a → IsRankOf d b → (a.0 < b.0) ⊎ ((a.0 ≡ b.0) × (a.1 ≤ b.1)) → IsBeforeOrSame d a.1 b.1
before_or_same d a b first second h = ⊎_elim
    (λ (less : a.0 < b.0). inl (inl (subst (λ (m : ℕ). m < net_extent d b.1) first (subst (λ (m : ℕ). a.0 < m) second less))))
    (λ (tie : (a.0 ≡ b.0) × (a.1 ≤ b.1)). ⊎_elim
    (λ (e : a.1 ≡ b.1). inr e)
    (λ (other : a.1 ≡ b.1 → ⊥). inl (inr (sym first ∙ tie.0 ∙ second, below_other a.1 b.1 other tie.1)))
    (cases_eq a.1 b.1))
    h

-- nets sorted by extent and number, and turned round
pub IsLastFirst-sorted : (d : Design) (nets : List ℕ) (sorted : List (ℕ × ℕ)) → IsPermutation (map (rank_of d) nets) sorted → IsSorted (λ a b. ordering_then (nat_cmp a.0 b.0) (nat_cmp a.1 b.1)) sorted → IsLastFirst d nets (map number_of (reverse sorted))
IsLastFirst-sorted d nets sorted moved up =
    let only : All (IsRankOf d) sorted = All-permutation (IsRankOf d) (map (rank_of d) nets) sorted moved (All-map (IsRankOf d) (rank_of d) nets (λ k x l. refl)) in
    record {
      same = subst (λ (ns : List ℕ). IsPermutation ns (map number_of (reverse sorted))) (numbers-of_ranks d nets)
          (IsPermutation-map number_of (map (rank_of d) nets) (reverse sorted) (IsPermutation-trans (map (rank_of d) nets) sorted (reverse sorted) moved (IsPermutation-reverse sorted)));
      order = λ i j x lt l.
          let past : j < length sorted = subst (λ (m : ℕ). j < m) (length-map (reverse sorted) number_of ∙ length-reverse sorted) l in
          let p : ℕ = length sorted - 1 - i in
          let q : ℕ = length sorted - 1 - j in
          let at : (k : ℕ) → k < length sorted → get_or (map number_of (reverse sorted)) k x ≡ (get_or sorted (length sorted - 1 - k) (0, 0)).1 = λ k within.
          get_or-map number_of (reverse sorted) k (0, 0) x (subst (λ (m : ℕ). k < m) (sym (length-reverse sorted)) within) ∙ ap number_of (get_or-reverse sorted k (0, 0) within) in
          let before : IsBeforeOrSame d (get_or sorted q (0, 0)).1 (get_or sorted p (0, 0)).1 =
          before_or_same d (get_or sorted q (0, 0)) (get_or sorted p (0, 0)) (only q (0, 0) (omega arith)) (only p (0, 0) (omega arith))
          (not_after (get_or sorted q (0, 0)).0 (get_or sorted p (0, 0)).0 (get_or sorted q (0, 0)).1 (get_or sorted p (0, 0)).1 (pair_cmp_far sorted up q p (0, 0) (omega arith) (omega arith))) in
          subst (λ (m : ℕ). IsBeforeOrSame d m (get_or (map number_of (reverse sorted)) i x)) (sym (at j past))
          (subst (λ (m : ℕ). IsBeforeOrSame d (get_or sorted q (0, 0)).1 m) (sym (at i (omega arith))) before);
    }

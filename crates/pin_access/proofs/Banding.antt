-- Bands: rectangles as the tracks of a level see them.
use Rattle.std.proofs.Common.{◌⊎◌, refl, ap, ◌∙◌, FitsSigned, [], ◌∷◌, ◌++◌, take, ⊎_elim, inl, inr, sym, ◌≡◌, ◌↔◌, ℕ, zero, suc, false, List, length, get_or, Any, Contains, ◌<◌, ◌<ℤ◌, subst, ◌+◌, ◌-◌, ◌^◌, ◌≤◌, ℤ, pos, ◌≤ℤ◌, ◌+ℤ◌, ◌-ℤ◌, unsigned_abs, to_z, of_z, w64, arith}
use Rattle.std.specs.Ordering.{int_cmp, is_lt, ordering_then, MatchOrdering}
use Rattle.std.specs.declared.cmp.Ordering.{Ordering}
use Rattle.std.specs.declared.cmp.Ordering.TheVariants.{Less, Equal, Greater}
use Rattle.std.specs.Cmp.{int_ranks}
use Rattle.std.specs.List.Sorted.{IsPermutation}
use Rattle.std.proofs.lemmas.Int.{ints, clamps}
use Rattle.std.proofs.lemmas.List.Sorted.{Contains-permutation, IsPermutation-sym}
use Rattle.rt_base.specs.Geometry.{nearest}
use Rattle.rt_base.specs.Ranges.{IsWithin}
use Rattle.rt_base.specs.declared.geometry.Span.{Span}
use Rattle.rt_base.proofs.Ranges.{sides_from_within, within_from_sides}
use Rattle.pin_access.specs.declared.bands.Band.{Band}
use Rattle.track_graph.specs.Levels.{IsAscending}
use Rattle.pin_access.specs.Bands.{IsIn, IsBand, IsNearBand, IsNearBands, beyond}
use Rattle.pin_access.specs.Counts.{Counts}
use Rattle.pin_access.proofs.HowMany.{counts_same, counts_both, counts_image}
use Rattle.pin_access.proofs.Members.{contains_here}
use Rattle.std.specs.Int.{int_min, int_max}
use Rattle.std.proofs.lemmas.Bool.{cases_lt}
use Rattle.std.proofs.lemmas.List.{take_more, length-take, get_or-take}
use Rattle.std.proofs.lemmas.List.Elements.{Contains-push_cases, Contains-append_left, Contains-append_right}
use Rattle.pin_access.proofs.Sweeping.{AreInOrder, through, any_push, any_take_more}
use Rattle.std.proofs.lemmas.List.{get_or_default}

-- sides that are moved by a reach
pub low_is : (a : ℤ) (k : ℕ) → IsWithin (2 ^ 61) a → k ≤ 2 ^ 34 → to_z w64 (of_z w64 (to_z w64 (of_z w64 a) -ℤ to_z w64 k)) ≡ a -ℤ pos k
low_is a k h most = let sides = sides_from_within (2 ^ 61) a h in omega (arith, ints)

pub high_is : (a : ℤ) (k : ℕ) → IsWithin (2 ^ 61) a → k ≤ 2 ^ 34 → to_z w64 (of_z w64 (to_z w64 (of_z w64 a) +ℤ to_z w64 k)) ≡ a +ℤ pos k
high_is a k h most = let sides = sides_from_within (2 ^ 61) a h in omega (arith, ints)

-- near a range is in the range made larger
in_larger : (lo hi z : ℤ) (m : ℕ) → lo ≤ℤ hi → unsigned_abs (nearest lo hi z -ℤ z) ≤ m → ((lo -ℤ pos m) ≤ℤ z) × (z ≤ℤ (hi +ℤ pos m))
in_larger lo hi z m up h =
    let sides = sides_from_within m (nearest lo hi z -ℤ z) h in
    (omega (arith, ints, clamps), omega (arith, ints, clamps))

from_larger : (lo hi z : ℤ) (m : ℕ) → lo ≤ℤ hi → (lo -ℤ pos m) ≤ℤ z → z ≤ℤ (hi +ℤ pos m) → unsigned_abs (nearest lo hi z -ℤ z) ≤ m
from_larger lo hi z m up low high = within_from_sides m (nearest lo hi z -ℤ z) (omega (arith, ints, clamps)) (omega (arith, ints, clamps))

pub larger_is : (b : Band) (reach : ℕ) (line z lo hi : ℤ) → IsBand b → beyond b.across line ≤ reach → lo ≡ b.along.lo -ℤ pos (reach - beyond b.across line) → hi ≡ b.along.hi +ℤ pos (reach - beyond b.across line) → IsIn z (record { lo = lo; hi = hi }) ↔ IsNearBand reach line z b
larger_is b reach line z lo hi is within low high =
    let rest = reach - beyond b.across line in (
      λ h. omega (arith, from_larger b.along.lo b.along.hi z rest is.along.0 (omega (arith, ints, low, h.0)) (omega (arith, ints, high, h.1))),
      λ h.
          let both = in_larger b.along.lo b.along.hi z rest is.along.0 (omega arith) in
          (omega (arith, ints, low, both.0), omega (arith, ints, high, both.1)),
    )

-- ranges in the order that a sort leaves
abbrev RiseBy : List Span → Type 0
RiseBy ss = (k : ℕ) (d : Span) → 0 ≤ k → k + 1 < length ss → is_lt (ordering_then (int_cmp (get_or ss (k + 1) d).lo (get_or ss k d).lo) (int_cmp (get_or ss (k + 1) d).hi (get_or ss k d).hi)) ≡ false

at_most : (a b : ℤ) (o : Ordering) → is_lt (ordering_then (int_cmp b a) o) ≡ false → a ≤ℤ b
at_most a b o h = by_order (int_cmp b a) (int_ranks b a) h
  where
    by_order : (p : Ordering) → MatchOrdering p (b <ℤ a) (b ≡ a) (a <ℤ b) → is_lt (ordering_then p o) ≡ false → a ≤ℤ b
    by_order Less r e = absurd cc
    by_order Equal r e = omega (arith, ints)
    by_order Greater r e = omega (arith, ints)

chained : (f : ℕ → ℤ) (n : ℕ) → ((k : ℕ) → k + 1 < n → f k ≤ℤ f (k + 1)) → (i m : ℕ) → i + m < n → f i ≤ℤ f (i + m)
chained f n rise i zero lt = let same : i + 0 ≡ i = omega arith in rw same (omega (arith, ints))
chained f n rise i (suc m) lt =
    let next : i + suc m ≡ (i + m) + 1 = omega arith in
    rw next (through (f i) (f (i + m)) (f ((i + m) + 1)) (chained f n rise i m (omega arith)) (rise (i + m) (omega arith)))

pub in_order_from_sorted : (ss : List Span) → RiseBy ss → AreInOrder ss
in_order_from_sorted ss h i j d lt within =
    let far : i + (j - i) ≡ j = omega arith in
    let f : ℕ → ℤ = λ k. (get_or ss k d).lo in
    subst (λ (k : ℕ). (get_or ss i d).lo ≤ℤ (get_or ss k d).lo) far (chained f (length ss) (λ k inside. at_most (f k) (f (k + 1)) _ (h k d (omega arith) inside)) i (j - i) (omega arith))

-- a list with the same elements has the same kinds
any_moved : {X : Type 0} → (P : X → Type 0) (xs ys : List X) → IsPermutation xs ys → Any P xs → Any P ys
any_moved {X} P xs ys moved (k, x, lt, is, h) =
    let c : Contains ys x = Contains-permutation xs ys x moved (k, lt, is) in
    (c.0, x, c.1, c.2, h)

pub any_permutation : {X : Type 0} → (P : X → Type 0) (xs ys : List X) → IsPermutation xs ys → Any P ys ↔ Any P xs
any_permutation P xs ys moved = (any_moved P ys xs (IsPermutation-sym xs ys moved), any_moved P xs ys moved)

-- one band more, with its range and without
pub spans_more : (reach : ℕ) (line z : ℤ) (bands : List Band) (i : ℕ) (d : Band) (old new : List Span) (span : Span) → i < length bands → new ≡ old ++ span ∷ [] → (IsIn z span ↔ IsNearBand reach line z (get_or bands i d)) → (Any (IsIn z) old ↔ Any (IsNearBand reach line z) (take i bands)) → Any (IsIn z) new ↔ Any (IsNearBand reach line z) (take (i + 1) bands)
spans_more reach line z bands i d old new span within is here before =
    let more = any_take_more (IsNearBand reach line z) bands i (get_or bands i d) within (get_or_default bands i d (get_or bands i d) within) in
    let push = any_push (IsIn z) old span in (
      λ h. more.1 (⊎_elim
          (λ (o : Any (IsIn z) old). inl (before.0 o))
          (λ (n : IsIn z span). inr (here.0 n))
          (push.0 (subst (λ (ss : List Span). Any (IsIn z) ss) is h))),
      λ h. subst (λ (ss : List Span). Any (IsIn z) ss) (sym is) (push.1 (⊎_elim
          (λ (o : Any (IsNearBand reach line z) (take i bands)). inl (before.1 o))
          (λ (n : IsNearBand reach line z (get_or bands i d)). inr (here.1 n))
          (more.0 h))),
    )

pub spans_skip : (reach : ℕ) (line z : ℤ) (bands : List Band) (i : ℕ) (d : Band) (old new : List Span) → i < length bands → new ≡ old → (IsNearBand reach line z (get_or bands i d) → ⊥) → (Any (IsIn z) old ↔ Any (IsNearBand reach line z) (take i bands)) → Any (IsIn z) new ↔ Any (IsNearBand reach line z) (take (i + 1) bands)
spans_skip reach line z bands i d old new within is far before =
    let more = any_take_more (IsNearBand reach line z) bands i (get_or bands i d) within (get_or_default bands i d (get_or bands i d) within) in (
      λ h. more.1 (inl (before.0 (subst (λ (ss : List Span). Any (IsIn z) ss) is h))),
      λ h. subst (λ (ss : List Span). Any (IsIn z) ss) (sym is) (⊎_elim
          (λ (o : Any (IsNearBand reach line z) (take i bands)). before.1 o)
          (λ (n : IsNearBand reach line z (get_or bands i d)). absurd (far n))
          (more.0 h)),
    )

pub high_fits : (a : ℤ) (k : ℕ) → IsWithin (2 ^ 61) a → k ≤ 2 ^ 34 → FitsSigned w64 (to_z w64 (of_z w64 a) +ℤ to_z w64 k)
high_fits a k h most = let sides = sides_from_within (2 ^ 61) a h in omega (arith, ints)

-- a line that is near a band is between the ends of any range that holds the larger band
pub reached_between : (b : Band) (reach : ℕ) (z lo hi : ℤ) → IsBand b → beyond b.across z ≤ reach → lo ≤ℤ (b.across.lo -ℤ pos reach) → (b.across.hi +ℤ pos reach) ≤ℤ hi → (lo ≤ℤ z) × (z ≤ℤ hi)
reached_between b reach z lo hi is near low high =
    let both = in_larger b.across.lo b.across.hi z reach is.across.0 near in
    (through lo (b.across.lo -ℤ pos reach) z low both.0, through z (b.across.hi +ℤ pos reach) hi both.1 high)

least_first : (a b : ℤ) → int_min a b ≤ℤ a
least_first a b = omega (arith, ints, clamps)

least_second : (a b : ℤ) → int_min a b ≤ℤ b
least_second a b = omega (arith, ints, clamps)

most_first : (a b : ℤ) → a ≤ℤ int_max a b
most_first a b = omega (arith, ints, clamps)

most_second : (a b : ℤ) → b ≤ℤ int_max a b
most_second a b = omega (arith, ints, clamps)

-- every one of the first k larger bands lies between two ends
abbrev pub IsHull : ℕ → List Band → ℕ → ℤ → ℤ → Type 0
IsHull reach bands n lo hi = (k : ℕ) (d : Band) → k < n → (lo ≤ℤ ((get_or bands k d).across.lo -ℤ pos reach)) × (((get_or bands k d).across.hi +ℤ pos reach) ≤ℤ hi)

pub hull_more : (reach : ℕ) (bands : List Band) (i : ℕ) (b : Band) (lo hi least most : ℤ) → i < length bands → b ≡ get_or bands i b → least ≡ int_min lo (b.across.lo -ℤ pos reach) → most ≡ int_max hi (b.across.hi +ℤ pos reach) → IsHull reach bands i lo hi → IsHull reach bands (i + 1) least most
hull_more reach bands i b lo hi least most within at low high before k d lt = rw (low, high) (⊎_elim
    (λ (less : k < i).
    let old = before k d less in (
      through (int_min lo (b.across.lo -ℤ pos reach)) lo ((get_or bands k d).across.lo -ℤ pos reach) (least_first lo (b.across.lo -ℤ pos reach)) old.0,
      through ((get_or bands k d).across.hi +ℤ pos reach) hi (int_max hi (b.across.hi +ℤ pos reach)) old.1 (most_first hi (b.across.hi +ℤ pos reach)),
    ))
    (λ (ge : i ≤ k).
    let same : i ≡ k = omega arith in
    let is : b ≡ get_or bands k d = at ∙ get_or_default bands i b d within ∙ ap (λ (j : ℕ). get_or bands j d) same in
    subst (λ (c : Band). (int_min lo (b.across.lo -ℤ pos reach) ≤ℤ (c.across.lo -ℤ pos reach)) × ((c.across.hi +ℤ pos reach) ≤ℤ int_max hi (b.across.hi +ℤ pos reach))) is
    (least_second lo (b.across.lo -ℤ pos reach), most_second hi (b.across.hi +ℤ pos reach)))
    (cases_lt k i))

-- a line more
contains_take_more : (lines : List ℤ) (i : ℕ) (line z : ℤ) → i < length lines → line ≡ get_or lines i line → Contains (take (i + 1) lines) z ↔ (Contains (take i lines) z ⊎ (line ≡ z))
contains_take_more lines i line z within at =
    let split : take (i + 1) lines ≡ take i lines ++ line ∷ [] = take_more lines i line within ∙ ap (λ (y : ℤ). take i lines ++ y ∷ []) (sym at) in (
      λ h. Contains-push_cases (take i lines) line z (subst (λ (ys : List ℤ). Contains ys z) split h),
      λ h. subst (λ (ys : List ℤ). Contains ys z) (sym split) (⊎_elim
          (λ (old : Contains (take i lines) z). Contains-append_left (take i lines) (line ∷ []) z old)
          (λ (new : line ≡ z). Contains-append_right (take i lines) (line ∷ []) z (subst (λ (y : ℤ). Contains (line ∷ []) y) new (contains_here line [])))
          h),
    )

not_again : (lines : List ℤ) (i : ℕ) (line : ℤ) → IsAscending lines → i < length lines → line ≡ get_or lines i line → Contains (take i lines) line → ⊥
not_again lines i line up within at (k, lt, is) =
    let less : k < i = omega (arith, lt, length-take i lines) in
    let there : get_or lines k line ≡ line = sym (get_or-take i lines k line less) ∙ is in
    apart (get_or lines k line) (get_or lines i line) (up k i line less within) (there ∙ at)
  where
    apart : (a b : ℤ) → a <ℤ b → a ≡ b → ⊥
    apart a b h e = omega (arith, ints)

pub lines_more : (reach : ℕ) (bands : List Band) (lines positions : List ℤ) (i : ℕ) (line : ℤ) (m n : ℕ) → IsAscending lines → i < length lines → line ≡ get_or lines i line → Counts (IsNearBands reach bands (take i lines) positions) m → Counts (λ (z : ℤ). Contains positions z × Any (IsNearBand reach line z) bands) n → Counts (IsNearBands reach bands (take (i + 1) lines) positions) (m + n)
lines_more reach bands lines positions i line m n up within at old new =
    counts_same Either (IsNearBands reach bands (take (i + 1) lines) positions) (m + n) same
    (counts_both (IsNearBands reach bands (take i lines) positions) OnLine m n apart old (counts_image (λ (z : ℤ). (line, z)) OfLine n (λ a b e. ap (λ (p : ℤ × ℤ). p.1) e) new))
  where
    OfLine : ℤ → Type 0
    OfLine z = Contains positions z × Any (IsNearBand reach line z) bands

    OnLine : ℤ × ℤ → Type 0
    OnLine p = (z : ℤ) × OfLine z × (◌≡◌ {A = ℤ × ℤ} (line, z) p)

    Either : ℤ × ℤ → Type 0
    Either p = IsNearBands reach bands (take i lines) positions p ⊎ OnLine p

    apart : (p : ℤ × ℤ) → IsNearBands reach bands (take i lines) positions p → OnLine p → ⊥
    apart p b o = not_again lines i line up within at (subst (λ (y : ℤ). Contains (take i lines) y) (sym (ap (λ (q : ℤ × ℤ). q.0) o.2)) b.line)

    on_line : (p : ℤ × ℤ) → line ≡ p.0 → IsNearBands reach bands (take (i + 1) lines) positions p → OnLine p
    on_line (a, z) e h = (z, (h.position, subst (λ (y : ℤ). Any (IsNearBand reach y z) bands) (sym e) h.near), ap (λ (y : ℤ). (y, z)) e)

    more : (p : ℤ × ℤ) → OnLine p → IsNearBands reach bands (take (i + 1) lines) positions p
    more p o = subst (λ (q : ℤ × ℤ). IsNearBands reach bands (take (i + 1) lines) positions q) o.2 (record {
      line = (contains_take_more lines i line line within at).1 (inr refl);
      position = o.1.0;
      near = o.1.1;
    })

    same : (p : ℤ × ℤ) → Either p ↔ IsNearBands reach bands (take (i + 1) lines) positions p
    same p = (
      λ h. ⊎_elim
          (λ (b : IsNearBands reach bands (take i lines) positions p). let r : IsNearBands reach bands (take (i + 1) lines) positions p = record { line = (contains_take_more lines i line p.0 within at).1 (inl b.line); position = b.position; near = b.near } in r)
          (λ (o : OnLine p). more p o)
          h,
      λ h. ⊎_elim
          (λ (b : Contains (take i lines) p.0). inl (record { line = b; position = h.position; near = h.near }))
          (λ (e : line ≡ p.0). inr (on_line p e h))
          ((contains_take_more lines i line p.0 within at).0 h.line),
    )

-- the lines that are near are all that matter
pub near_lines_do : (reach : ℕ) (bands : List Band) (near lines positions : List ℤ) (n : ℕ) → ((z : ℤ) → Contains near z → Contains lines z) → ((z : ℤ) → Contains lines z → Any (λ (b : Band). beyond b.across z ≤ reach) bands → Contains near z) → Counts (IsNearBands reach bands near positions) n → Counts (IsNearBands reach bands lines positions) n
near_lines_do reach bands near lines positions n into back c = counts_same (IsNearBands reach bands near positions) (IsNearBands reach bands lines positions) n (λ p. (
  λ h. record { line = into p.0 h.line; position = h.position; near = h.near },
  λ h. record { line = back p.0 h.line (h.near.0, h.near.1, h.near.2, h.near.3, omega (arith, h.near.4)); position = h.position; near = h.near },
)) c

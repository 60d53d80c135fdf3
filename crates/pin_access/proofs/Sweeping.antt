-- Counting the numbers that lie in some of several ranges, range by range from the lowest lower end.
use Rattle.std.proofs.Common.{◌≡◌, ◌≢◌, ◌⊎◌, ◌↔◌, inl, inr, ⊎_elim, ℕ, ◌+◌, ◌-◌, ◌<◌, ◌≤◌, ℤ, ◌<ℤ◌, ◌≤ℤ◌, List, [], ◌∷◌, ◌++◌, length, get_or, take, drop, AllPairs, Any, Contains, refl, sym, ap, subst, ◌∙◌, arith}
use Rattle.std.specs.List.Sorted.{IsPartitionPoint}
use Rattle.std.proofs.lemmas.Bool.{cases_lt}
use Rattle.std.proofs.lemmas.Int.{ints}
use Rattle.std.proofs.lemmas.List.{take_more, length-drop, length-take, get_or-drop, get_or-take, take_all, length-append, get_or_append_left, get_or-append_right, get_or_default}
use Rattle.std.specs.Ordering.{int_cmp, MatchOrdering}
use Rattle.std.specs.declared.cmp.Ordering.{Ordering}
use Rattle.std.specs.declared.cmp.Ordering.TheVariants.{Less, Equal, Greater}
use Rattle.std.specs.Cmp.{int_ranks}
use Rattle.rt_base.proofs.Lists.{Any-none}
use Rattle.rt_base.specs.declared.geometry.Span.{Span}
use Rattle.track_graph.specs.Levels.{IsAscending}
use Rattle.pin_access.specs.Bands.{IsIn}
use Rattle.pin_access.specs.Counts.{Counts}
use Rattle.pin_access.proofs.HowMany.{counts_none, counts_same, counts_both, counts_within, counts_list}

-- some element of a list with one more
pub any_push : {X : Type 0} → (P : X → Type 0) (xs : List X) (x : X) → Any P (xs ++ x ∷ []) ↔ (Any P xs ⊎ P x)
any_push {X} P xs x = (
  λ (k, y, lt, is, h). ⊎_elim
      (λ (before : k < length xs). inl (k, y, before, sym (get_or_append_left xs (x ∷ []) y k before) ∙ is, h))
      (λ (at : length xs ≤ k).
      let last : k - length xs ≡ 0 = omega (arith, lt, length-append xs (x ∷ [])) in
      let same : x ≡ y = sym (get_or-append_right xs (x ∷ []) (length xs) k y refl at ∙ ap (λ (j : ℕ). get_or (x ∷ []) j y) last) ∙ is in
      inr (subst P (sym same) h))
      (cases_lt k (length xs)),
  λ h. ⊎_elim
      (λ (some : Any P xs). (some.0, some.1, omega (arith, some.2, length-append xs (x ∷ [])), get_or_append_left xs (x ∷ []) some.1 some.0 some.2 ∙ some.3, some.4))
      (λ (here : P x). let zero_left : length xs - length xs ≡ 0 = omega arith in (length xs, x, omega (arith, length-append xs (x ∷ [])), get_or-append_right xs (x ∷ []) (length xs) (length xs) x refl (omega arith) ∙ ap (λ (j : ℕ). get_or (x ∷ []) j x) zero_left, here))
      h,
)

-- some of the first elements, with one more
pub any_take_more : {X : Type 0} → (P : X → Type 0) (xs : List X) (i : ℕ) (x : X) → i < length xs → x ≡ get_or xs i x → Any P (take (i + 1) xs) ↔ (Any P (take i xs) ⊎ P x)
any_take_more {X} P xs i x within at =
    let split : take (i + 1) xs ≡ take i xs ++ x ∷ [] = take_more xs i x within ∙ ap (λ (y : X). take i xs ++ y ∷ []) (sym at) in
    subst (λ (ys : List X). Any P ys ↔ (Any P (take i xs) ⊎ P x)) (sym split) (any_push P (take i xs) x)

pub cases_le : (a b : ℤ) → (a ≤ℤ b) ⊎ (b <ℤ a)
cases_le a b = by_order (int_cmp a b) (int_ranks a b)
  where
    by_order : (o : Ordering) → MatchOrdering o (a <ℤ b) (a ≡ b) (b <ℤ a) → (a ≤ℤ b) ⊎ (b <ℤ a)
    by_order Less r = inl (omega (arith, ints))
    by_order Equal r = inl (omega (arith, ints))
    by_order Greater r = inr r

clash : (a b : ℤ) → a ≤ℤ b → b <ℤ a → ⊥
clash a b h k = omega (arith, ints)

pub through : (a b c : ℤ) → a ≤ℤ b → b ≤ℤ c → a ≤ℤ c
through a b c h k = omega (arith, ints)

abbrev pub AreInOrder : List Span → Type 0
AreInOrder spans = AllPairs (λ (a b : Span). a.lo ≤ℤ b.lo) spans

-- of the numbers, those in the first k ranges are counted, and the rest are those that a later range may have
pub record Swept (numbers : List ℤ) (spans : List Span) (k : ℕ) (rest : List ℤ) (count : ℕ) : Type 0 where
  pub ascending : IsAscending rest
  pub counted : Counts (λ (z : ℤ). Contains numbers z × Any (IsIn z) (take k spans)) count
  pub untold : (z : ℤ) → Contains rest z → Contains numbers z × (Any (IsIn z) (take k spans) → ⊥)
  pub kept : (z : ℤ) (j : ℕ) (d : Span) → k ≤ j → j < length spans → IsIn z (get_or spans j d) → Contains numbers z → Contains rest z ⊎ Any (IsIn z) (take k spans)

pub swept_none : (numbers : List ℤ) (spans : List Span) → IsAscending numbers → Swept numbers spans 0 numbers 0
swept_none numbers spans up = record {
  ascending = up;
  counted = counts_none (λ (z : ℤ). Contains numbers z × Any (IsIn z) (take 0 spans)) (λ z h. Any-none (IsIn z) h.1);
  untold = λ z h. (h, λ a. Any-none (IsIn z) a);
  kept = λ z j d le within in_range has. inl has;
}

-- what the next range takes of the rest
pub record Takes (span : Span) (rest inside : List ℤ) : Type 0 where
  pub inside_up : IsAscending inside
  pub inside_is : (z : ℤ) → Contains inside z ↔ (Contains rest z × (span.lo ≤ℤ z) × (z ≤ℤ span.hi))

-- and what it leaves
pub record Leaves (span : Span) (rest after : List ℤ) : Type 0 where
  pub after_up : IsAscending after
  pub after_is : (z : ℤ) → Contains after z ↔ (Contains rest z × (span.hi <ℤ z))

pub differ_ascending : (xs : List ℤ) → IsAscending xs → AllPairs (λ (a b : ℤ). a ≢ b) xs
differ_ascending xs up i j d lt within e = apart (get_or xs i d) (get_or xs j d) (up i j d lt within) e
  where
    apart : (a b : ℤ) → a <ℤ b → a ≡ b → ⊥
    apart a b h e = omega (arith, ints)

-- how many numbers an ascending list has
pub counts_ascending : (xs : List ℤ) → IsAscending xs → Counts (λ (z : ℤ). Contains xs z) (length xs)
counts_ascending xs up = counts_list xs (differ_ascending xs up)

counted_more : (numbers : List ℤ) (spans : List Span) (k : ℕ) (span : Span) (rest inside : List ℤ) (count : ℕ) → k < length spans → span ≡ get_or spans k span → Swept numbers spans k rest count → Takes span rest inside → Counts (λ (z : ℤ). Contains numbers z × Any (IsIn z) (take (k + 1) spans)) (count + length inside)
counted_more numbers spans k span rest inside count within at s t =
    counts_same Either After (count + length inside) same
    (counts_both Before (λ (z : ℤ). Contains inside z) count (length inside) apart s.counted (counts_ascending inside t.inside_up))
  where
    Before : ℤ → Type 0
    Before z = Contains numbers z × Any (IsIn z) (take k spans)

    After : ℤ → Type 0
    After z = Contains numbers z × Any (IsIn z) (take (k + 1) spans)

    Either : ℤ → Type 0
    Either z = Before z ⊎ Contains inside z

    apart : (z : ℤ) → Before z → Contains inside z → ⊥
    apart z b c = (s.untold z ((t.inside_is z).0 c).0).1 b.1

    same : (z : ℤ) → Either z ↔ After z
    same z = (
      λ h. ⊎_elim
          (λ (b : Before z). (b.0, (any_take_more (IsIn z) spans k span within at).1 (inl b.1)))
          (λ (c : Contains inside z).
          let it = (t.inside_is z).0 c in
          ((s.untold z it.0).0, (any_take_more (IsIn z) spans k span within at).1 (inr (it.1, it.2))))
          h,
      λ h. ⊎_elim
          (λ (a : Any (IsIn z) (take k spans)). inl (h.0, a))
          (λ (here : IsIn z span). ⊎_elim
          (λ (r : Contains rest z). inr ((t.inside_is z).1 (r, here.0, here.1)))
          (λ (a : Any (IsIn z) (take k spans)). inl (h.0, a))
          (s.kept z k span (omega arith) within (subst (IsIn z) at here) h.0))
          ((any_take_more (IsIn z) spans k span within at).0 h.1),
    )

-- what is counted with one range more is at most all
pub counted_most : (numbers : List ℤ) (spans : List Span) (k : ℕ) (span : Span) (rest inside : List ℤ) (count : ℕ) → k < length spans → span ≡ get_or spans k span → Swept numbers spans k rest count → Takes span rest inside → count + length inside ≤ length numbers
counted_most numbers spans k span rest inside count within at s t = counts_within (λ (z : ℤ). Contains numbers z × Any (IsIn z) (take (k + 1) spans)) (count + length inside) numbers (counted_more numbers spans k span rest inside count within at s t) (λ z h. h.0)

-- one range more
pub swept_more : (numbers : List ℤ) (spans : List Span) (k : ℕ) (span : Span) (rest inside after : List ℤ) (count : ℕ) → AreInOrder spans → k < length spans → span ≡ get_or spans k span → Swept numbers spans k rest count → Takes span rest inside → Leaves span rest after → Swept numbers spans (k + 1) after (count + length inside)
swept_more numbers spans k span rest inside after count ordered within at s t l = record {
  ascending = l.after_up;
  counted = counted_more numbers spans k span rest inside count within at s t;
  untold = λ z h.
      let past = (l.after_is z).0 h in
      let there = s.untold z past.0 in (
        there.0,
        λ a. ⊎_elim
            (λ (b : Any (IsIn z) (take k spans)). there.1 b)
            (λ (here : IsIn z span). clash z span.hi here.1 past.1)
            ((any_take_more (IsIn z) spans k span within at).0 a),
      );
  kept = λ z j d le inside_list in_range has. ⊎_elim
      (λ (r : Contains rest z).
      let low : span.lo ≤ℤ (get_or spans j d).lo = subst (λ (a : Span). a.lo ≤ℤ (get_or spans j d).lo) (get_or_default spans k d span within ∙ sym at) (ordered k j d (omega arith) inside_list) in
      let reached : span.lo ≤ℤ z = through span.lo (get_or spans j d).lo z low in_range.0 in
      ⊎_elim
      (λ (le_hi : z ≤ℤ span.hi). inr ((any_take_more (IsIn z) spans k span within at).1 (inr (reached, le_hi))))
      (λ (past : span.hi <ℤ z). inl ((l.after_is z).1 (r, past)))
      (cases_le z span.hi))
      (λ (a : Any (IsIn z) (take k spans)). inr ((any_take_more (IsIn z) spans k span within at).1 (inl a)))
      (s.kept z j d (omega arith) inside_list in_range has);
}

-- what is counted is at most all
pub swept_most : (numbers : List ℤ) (spans : List Span) (k : ℕ) (rest : List ℤ) (count : ℕ) → Swept numbers spans k rest count → count ≤ length numbers
swept_most numbers spans k rest count s = counts_within (λ (z : ℤ). Contains numbers z × Any (IsIn z) (take k spans)) count numbers s.counted (λ z h. h.0)

-- all ranges
pub swept_all : (numbers : List ℤ) (spans : List Span) (k : ℕ) (rest : List ℤ) (count : ℕ) → length spans ≤ k → Swept numbers spans k rest count → Counts (λ (z : ℤ). Contains numbers z × Any (IsIn z) spans) count
swept_all numbers spans k rest count past s = subst (λ (ss : List Span). Counts (λ (z : ℤ). Contains numbers z × Any (IsIn z) ss) count) (take_all k spans past) s.counted

-- the numbers past a bound
pub contains_after : (xs : List ℤ) (most : ℤ) (i : ℕ) (z : ℤ) → IsPartitionPoint (λ (y : ℤ). y ≤ℤ most) (λ (y : ℤ). most <ℤ y) xs i → Contains (drop i xs) z ↔ (Contains xs z × (most <ℤ z))
contains_after xs most i z parts = (
  λ h.
      let within : i + h.0 < length xs = omega (arith, h.1, length-drop i xs) in
      let is : get_or xs (i + h.0) z ≡ z = sym (get_or-drop i xs h.0 z) ∙ h.2 in
      ((i + h.0, within, is), subst (λ y. most <ℤ y) is (parts.1 (i + h.0) z (omega arith) within)),
  λ h. ⊎_elim
      (λ (lt : h.0.0 < i). absurd (clash z most (subst (λ y. y ≤ℤ most) h.0.2 (parts.0 h.0.0 z (omega arith) lt)) h.1))
      (λ (ge : i ≤ h.0.0).
      let k = h.0.0 - i in
      let back : i + k ≡ h.0.0 = omega arith in
      let is : get_or (drop i xs) k z ≡ z = get_or-drop i xs k z ∙ (rw back h.0.2) in
      (k, omega (arith, h.0.1, length-drop i xs), is))
      (cases_lt h.0.0 i),
)

-- parts of ascending lists ascend
pub drop_ascending : (xs : List ℤ) (i : ℕ) → IsAscending xs → IsAscending (drop i xs)
drop_ascending xs i up a b d lt within = rw (get_or-drop i xs a d, get_or-drop i xs b d) (up (i + a) (i + b) d (omega arith) (omega (arith, length-drop i xs)))

pub take_ascending : (xs : List ℤ) (i : ℕ) → IsAscending xs → IsAscending (take i xs)
take_ascending xs i up a b d lt within =
    let inside : b < i = omega (arith, length-take i xs) in
    rw (get_or-take i xs a d (omega arith), get_or-take i xs b d inside) (up a b d lt (omega (arith, length-take i xs)))

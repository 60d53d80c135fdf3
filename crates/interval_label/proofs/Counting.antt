use Rattle.std.proofs.Common.{◌≡◌, ◌⊎◌, ℕ, zero, suc, ◌+◌, ◌*◌, ◌<◌, ◌≤◌, ℤ, pos, ◌≤ℤ◌, sym, refl, ap, ◌∙◌, List, [], ◌∷◌, ◌||◌, Bool, true, false, length, map, sum_by, Option, Some, slice_get, option_map, unwrap_or, eqb, arith, ⊎_elim}
use Rattle.std.specs.List.{IsDistinct, AllByRecursion, list_any}
use Rattle.std.proofs.lemmas.Bool.{cases_eq}
use Rattle.std.proofs.lemmas.Int.{ints}
use Rattle.std.proofs.lemmas.Grind.{common_steps}
use Rattle.std.proofs.lemmas.Option.{same_Some, slice_get_within}
use Rattle.std.proofs.lemmas.List.Sums.{sum_by-cons}
use Rattle.std.proofs.lemmas.Map.Steps.{length-le_from_distinct_below}
use Rattle.std.proofs.Math.Nat.{mul-le-mul_right}
use Rattle.label_arena.specs.declared.place.Place.{Place}
use Rattle.label_arena.specs.declared.place.IntervalNo.{IntervalNo}
use Rattle.label_arena.specs.declared.place.Interval.{Interval}
use Rattle.label_arena.specs.Lists.{Graph}
use Rattle.label_arena.specs.Plain.{gap, IsInside}
use Rattle.interval_label.specs.State.{widest, most_places}
use Rattle.interval_label.proofs.Sliding.{at}
use Rattle.interval_label.proofs.Costs.{interval_same}

-- places of the graph, each once
pub record AreOnce (g : Graph) (ps : List Place) : Type 0 where
  pub inside : (k : ℕ) (p : Place) → slice_get ps k ≡ Some p → IsInside g p
  pub apart : (i j : ℕ) (p q : Place) → slice_get ps i ≡ Some p → slice_get ps j ≡ Some q → p ≡ q → i ≡ j

low_at : Graph → ℕ → ℤ
low_at g n = unwrap_or (option_map (λ (i : Interval). i.span.lo) (slice_get g.intervals n)) (pos 0)

-- a number for each place
code : Graph → Place → ℕ
code g p = p.interval.0 * widest g + gap (low_at g p.interval.0) p.coord

low_is : (g : Graph) (p : Place) (h : IsInside g p) → low_at g p.interval.0 ≡ h.interval.span.lo
unfolding low_at
low_is g p h = ap (λ (o : Option Interval). unwrap_or (option_map (λ (i : Interval). i.span.lo) o) (pos 0)) h.at

gap_far : (l h x : ℤ) → l ≤ℤ x → x ≤ℤ h → gap l x ≤ gap l h
gap_far l h x a b = omega (arith, ints)

gap_cancel : (l x y : ℤ) → l ≤ℤ x → l ≤ℤ y → gap l x ≡ gap l y → x ≡ y
gap_cancel l x y a b e = omega (arith, ints)

-- each interval is narrower than all together
narrow : (is : List Interval) (k : ℕ) (i : Interval) → slice_get is k ≡ Some i → gap i.span.lo i.span.hi < sum_by (λ (i : Interval). gap i.span.lo i.span.hi + 1) is
narrow [] k i h = let l : k < 0 = slice_get_within [] k i h in absurd (omega (arith, l))
narrow (j ∷ is) zero i h = rw sum_by-cons (let e : j ≡ i = same_Some j i h in let f : gap j.span.lo j.span.hi ≡ gap i.span.lo i.span.hi = ap (λ (z : Interval). gap z.span.lo z.span.hi) e in omega (arith, f))
narrow (j ∷ is) (suc k) i h = rw sum_by-cons (omega (arith, narrow is k i h))

gap_low : (g : Graph) (p : Place) → IsInside g p → gap (low_at g p.interval.0) p.coord < widest g
gap_low g p h = rw (low_is g p h) (omega (arith, narrow g.intervals p.interval.0 h.interval h.at, gap_far h.interval.span.lo h.interval.span.hi p.coord h.low h.high))

step_below : (m n w r : ℕ) → m < n → r < w → m * w + r < n * w
step_below m n w r h k = let l : (m + 1) * w ≤ n * w = mul-le-mul_right w (omega (arith, h)) in omega (arith, l)

code_below : (g : Graph) (p : Place) → IsInside g p → code g p < most_places g
unfolding code
code_below g p h = step_below p.interval.0 (length g.intervals) (widest g) _ (slice_get_within g.intervals p.interval.0 h.interval h.at) (gap_low g p h)

same_row : (m n w r s : ℕ) → r < w → s < w → m * w + r ≡ n * w + s → m ≡ n
same_row m n w r s h k e = ⊎_elim
    (λ (i : m ≡ n). i)
    (λ (i : m ≡ n → ⊥). absurd (less m n w r s h k e i))
    (cases_eq m n)
  where
    below : (m n w r s : ℕ) → r < w → m < n → m * w + r ≡ n * w + s → ⊥
    below m n w r s h l e = omega (arith, step_below m n w r l h)

    less : (m n w r s : ℕ) → r < w → s < w → m * w + r ≡ n * w + s → (m ≡ n → ⊥) → ⊥
    less m n w r s h k e i = ⊎_elim (λ (l : m < n). below m n w r s h l e) (λ (l : n < m). below n m w s r k l (sym e)) (order m n i)
      where
        order : (m n : ℕ) → (m ≡ n → ⊥) → (m < n) ⊎ (n < m)
        order m n i = search (arith)

code_same : (g : Graph) (p q : Place) → IsInside g p → IsInside g q → code g p ≡ code g q → p ≡ q
unfolding code
code_same g p q hp hq e =
    let n : p.interval.0 ≡ q.interval.0 = same_row p.interval.0 q.interval.0 (widest g) _ _ (gap_low g p hp) (gap_low g q hq) e in
    let i : p.interval ≡ q.interval = interval_same p.interval q.interval n in
    let low : low_at g q.interval.0 ≡ low_at g p.interval.0 = ap (low_at g) (sym n) in
    let rows : p.interval.0 * widest g ≡ q.interval.0 * widest g = ap (λ k. k * widest g) n in
    let t : gap (low_at g p.interval.0) p.coord ≡ gap (low_at g q.interval.0) q.coord = omega (arith, e, rows) in
    let gs : gap (low_at g p.interval.0) p.coord ≡ gap (low_at g p.interval.0) q.coord = t ∙ ap (λ (z : ℤ). gap z q.coord) low in
    let x : p.coord ≡ q.coord = gap_cancel (low_at g p.interval.0) p.coord q.coord (rw (low_is g p hp) hp.low) (rw (← low, low_is g q hq) hq.low) gs in
    ap (λ (n : IntervalNo). at n p.coord) i ∙ ap (λ (w : ℤ). at q.interval w) x

module _ (g : Graph) where
  differs : (x : Place) (ls : List Place) → IsInside g x → ((k : ℕ) (y : Place) → slice_get ls k ≡ Some y → IsInside g y) → ((k : ℕ) (y : Place) → slice_get ls k ≡ Some y → x ≡ y → ⊥) → AllByRecursion (λ n. eqb (code g x) n ≡ false) (map (code g) ls)
  differs x [] h i d = tt
  differs x (y ∷ ls) h i d = (unequal (code g x) (code g y) (λ e. d 0 y refl (code_same g x y h (i 0 y refl) e)), differs x ls h (λ k z e. i (suc k) z e) (λ k z e. d (suc k) z e))
    where
      unequal : (m n : ℕ) → (m ≡ n → ⊥) → eqb m n ≡ false
      unequal m n h = grind (arith, common_steps, h)

  distinct : (ls : List Place) → ((k : ℕ) (y : Place) → slice_get ls k ≡ Some y → IsInside g y) → ((i j : ℕ) (p q : Place) → slice_get ls i ≡ Some p → slice_get ls j ≡ Some q → p ≡ q → i ≡ j) → IsDistinct eqb (map (code g) ls)
  unfolding IsDistinct
  distinct [] i a = tt
  distinct (x ∷ ls) i a = (differs x ls (i 0 x refl) (λ k z e. i (suc k) z e) (λ k z e p. let n : 0 ≡ suc k = a 0 (suc k) x z refl e p in absurd (omega (arith, n))), distinct ls (λ k z e. i (suc k) z e) (λ j k y z ye ze p. let n : suc j ≡ suc k = a (suc j) (suc k) y z ye ze p in omega (arith, n)))

  below : (ls : List Place) → ((k : ℕ) (y : Place) → slice_get ls k ≡ Some y → IsInside g y) → (q : ℕ) → list_any (eqb q) (map (code g) ls) ≡ true → q < most_places g
  below [] i q h = cc
  below (x ∷ ls) i q h = ⊎_elim
      (λ (e : q ≡ code g x). rw e (code_below g x (i 0 x refl)))
      (λ (n : q ≡ code g x → ⊥). below ls (λ k z e. i (suc k) z e) q (rest q (code g x) n h))
      (cases_eq q (code g x))
    where
      rest : (q m : ℕ) {b : Bool} → (q ≡ m → ⊥) → (eqb q m || b) ≡ true → b ≡ true
      rest q m n h = grind (arith, common_steps, n, h)

  length_map : (ls : List Place) → length (map (code g) ls) ≡ length ls
  length_map [] = refl
  length_map (x ∷ ls) = omega (arith, length_map ls)

  -- there are no more than all places
  pub few_places : (ls : List Place) → AreOnce g ls → length ls ≤ most_places g
  few_places ls h = omega (arith, length_map ls, length-le_from_distinct_below (map (code g) ls) (most_places g) (distinct ls h.inside h.apart) (below ls h.inside))

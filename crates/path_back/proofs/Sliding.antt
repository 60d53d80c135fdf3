-- A slide is a list of steps between neighbouring places.
use Rattle.std.proofs.Common.{◌≡◌, ◌⊎◌, inl, inr, ℕ, zero, suc, ◌+◌, ◌*◌, ◌<◌, ◌≤◌, ℤ, pos, ◌+ℤ◌, ◌-ℤ◌, ◌≤ℤ◌, unsigned_abs, sym, refl, ap, ◌∙◌, subst, List, Some, slice_get, arith, ⊎_elim}
use Rattle.std.proofs.lemmas.Int.{ints}
use Rattle.std.proofs.lemmas.Option.{same_Some}
use Rattle.label_arena.specs.declared.place.Place.{Place}
use Rattle.label_arena.specs.declared.place.IntervalNo.{IntervalNo}
use Rattle.label_arena.specs.declared.place.Interval.{Interval}
use Rattle.label_arena.specs.Lists.{Graph}
use Rattle.label_arena.specs.Plain.{gap, factor_at, slide, IsInside, IsNext}

gap_sym : (x y : ℤ) → gap x y ≡ gap y x
gap_sym x y = omega (arith, ints)

far_up : (n : ℕ) (x y : ℤ) → x ≤ℤ y → gap x y ≡ n → y ≡ x +ℤ pos n
far_up n x y h e = omega (arith, ints)

abbrev at : IntervalNo → ℤ → Place
at n x = record { interval = n; coord = x }

module _ (g : Graph) (n : IntervalNo) (i : Interval) (is : slice_get g.intervals n.0 ≡ Some i) (P : Place → ℕ → Type 0) (next : (u v : Place) (c e : ℕ) → P u c → IsNext g u v e → P v (c + e)) where
  step_up : (x y : ℤ) (c : ℕ) → i.span.lo ≤ℤ x → y ≡ x +ℤ pos 1 → y ≤ℤ i.span.hi → P (at n x) c → P (at n y) (c + factor_at g n.0)
  step_up x y c l e h p = next (at n x) (at n y) c (factor_at g n.0) p (record {
    from = record { interval = i; at = is; low = l; high = omega (arith, ints) };
    to = record { interval = i; at = is; low = omega (arith, ints); high = h };
    one_interval = refl;
    near = omega (arith, ints);
    cost = refl;
  })

  step_down : (x y : ℤ) (c : ℕ) → i.span.lo ≤ℤ y → x ≡ y +ℤ pos 1 → x ≤ℤ i.span.hi → P (at n x) c → P (at n y) (c + factor_at g n.0)
  step_down x y c l e h p = next (at n x) (at n y) c (factor_at g n.0) p (record {
    from = record { interval = i; at = is; low = omega (arith, ints); high = h };
    to = record { interval = i; at = is; low = l; high = omega (arith, ints) };
    one_interval = refl;
    near = omega (arith, ints);
    cost = refl;
  })

  walk_up : (m : ℕ) (x y : ℤ) (c : ℕ) → i.span.lo ≤ℤ x → y ≡ x +ℤ pos m → y ≤ℤ i.span.hi → P (at n x) c → P (at n y) (c + factor_at g n.0 * m)
  walk_up zero x y c l e h p =
      let xy : x ≡ y = omega (arith, ints) in
      let none : c ≡ c + factor_at g n.0 * 0 = omega arith in
      subst (λ (d : ℕ). P (at n y) d) none (subst (λ (z : ℤ). P (at n z) c) xy p)
  walk_up (suc m) x y c l e h p =
      let z : ℤ = x +ℤ pos 1 in
      let d : c + factor_at g n.0 + factor_at g n.0 * m ≡ c + factor_at g n.0 * (suc m) = omega arith in
      subst (λ (d : ℕ). P (at n y) d) d
      (walk_up m z y (c + factor_at g n.0) (omega (arith, ints)) (omega (arith, ints)) h (step_up x z c l refl (omega (arith, ints)) p))

  walk_down : (m : ℕ) (x y : ℤ) (c : ℕ) → i.span.lo ≤ℤ y → x ≡ y +ℤ pos m → x ≤ℤ i.span.hi → P (at n x) c → P (at n y) (c + factor_at g n.0 * m)
  walk_down zero x y c l e h p =
      let xy : x ≡ y = omega (arith, ints) in
      let none : c ≡ c + factor_at g n.0 * 0 = omega arith in
      subst (λ (d : ℕ). P (at n y) d) none (subst (λ (z : ℤ). P (at n z) c) xy p)
  walk_down (suc m) x y c l e h p =
      let z : ℤ = x -ℤ pos 1 in
      let d : c + factor_at g n.0 + factor_at g n.0 * m ≡ c + factor_at g n.0 * (suc m) = omega arith in
      subst (λ (d : ℕ). P (at n y) d) d
      (walk_down m z y (c + factor_at g n.0) l (omega (arith, ints)) (omega (arith, ints)) (step_down x z c (omega (arith, ints)) (omega (arith, ints)) h p))

  walk_to : (x y : ℤ) (c : ℕ) → i.span.lo ≤ℤ x → x ≤ℤ i.span.hi → i.span.lo ≤ℤ y → y ≤ℤ i.span.hi → P (at n x) c → P (at n y) (c + factor_at g n.0 * gap x y)
  walk_to x y c a b d e p = ⊎_elim
      (λ (h : x ≤ℤ y). walk_up (gap x y) x y c a (far_up (gap x y) x y h refl) e p)
      (λ (h : y ≤ℤ x). walk_down (gap x y) x y c d (far_up (gap x y) y x h (gap_sym y x)) b p)
      (total x y)
    where
      total : (x y : ℤ) → (x ≤ℤ y) ⊎ (y ≤ℤ x)
      total x y = search (arith, ints)

-- what each step to a neighbour carries on, a slide carries on
pub slid : (g : Graph) (P : Place → ℕ → Type 0) → ((u v : Place) (c e : ℕ) → P u c → IsNext g u v e → P v (c + e)) → (u v : Place) (c : ℕ) → IsInside g u → IsInside g v → u.interval ≡ v.interval → P u c → P v (c + slide g u v.coord)
slid g P next u v c a b e p =
    let same : a.interval ≡ b.interval = same_Some a.interval b.interval (sym a.at ∙ ap (λ (n : IntervalNo). slice_get g.intervals n.0) e ∙ b.at) in
    let to : P (at u.interval v.coord) (c + slide g u v.coord) =
    walk_to g u.interval a.interval a.at P next u.coord v.coord c a.low a.high
    (subst (λ (i : Interval). i.span.lo ≤ℤ v.coord) (sym same) b.low) (subst (λ (i : Interval). v.coord ≤ℤ i.span.hi) (sym same) b.high) p in
    subst (λ (n : IntervalNo). P (at n v.coord) (c + slide g u v.coord)) e to

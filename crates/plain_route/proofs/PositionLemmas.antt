-- The next positions on either side of one.
use Rattle.std.proofs.Common.{◌≡◌, ◌⊎◌, inl, inr, ⊎_elim, suc, ℤ, ◌<ℤ◌, ◌≤ℤ◌, List, [], ◌∷◌, ◌++◌, Option, Some, None, IfSome, Contains, refl, sym, subst, ap, ◌∙◌, arith}
use Rattle.std.specs.Int.{int_min, int_max}
use Rattle.std.proofs.lemmas.Int.{ints, clamps, by_lt_z}
use Rattle.std.proofs.lemmas.List.Elements.{Contains-append_left, Contains-append_right, Contains-append_cases}
use Rattle.std.proofs.lemmas.Option.{same_Some}
use Rattle.rt_base.proofs.Lists.{in_cons, none_in}
use Rattle.track_graph.specs.Edges.{AreNeighbours}
use Rattle.track_graph.specs.Levels.{NoneBetween}
use Rattle.track_graph.proofs.GraphLemmas.{none_between_left, none_between_right}
use Rattle.plain_route.specs.Positions.{lesser, greater}

-- the next number past another among those of two lists
module _ (xs ys : List ℤ) (a b : Option ℤ) where
  pub lesser-next : (at : ℤ) → ((z : ℤ) → Contains xs z → at <ℤ z → NoneBetween xs at z → a ≡ Some z) → IfSome a (λ z. Contains xs z × (at <ℤ z)) → ((z : ℤ) → Contains ys z → at <ℤ z → NoneBetween ys at z → b ≡ Some z) → IfSome b (λ z. Contains ys z × (at <ℤ z)) → (z : ℤ) → Contains (xs ++ ys) z → at <ℤ z → NoneBetween (xs ++ ys) at z → lesser a b ≡ Some z
  lesser-next at next past next2 past2 z c lt none = ⊎_elim
      (λ (l : Contains xs z). ap (λ (o : Option ℤ). lesser o b) (next z l lt (none_between_left xs ys at z none)) ∙ first b past2)
      (λ (r : Contains ys z). ap (lesser a) (next2 z r lt (none_between_right xs ys at z none)) ∙ second a past)
      (Contains-append_cases xs ys z c)
    where
      ends : (y : ℤ) → (y <ℤ z → ⊥) → int_min z y ≡ z
      ends y h = by_lt_z y z (λ (l : y <ℤ z). absurd (h l)) (λ (g : z ≤ℤ y). let e : int_min z y ≡ z = omega (arith, ints, clamps) in e)

      ends2 : (x : ℤ) → (x <ℤ z → ⊥) → int_min x z ≡ z
      ends2 x h = by_lt_z x z (λ (l : x <ℤ z). absurd (h l)) (λ (g : z ≤ℤ x). let e : int_min x z ≡ z = omega (arith, ints, clamps) in e)

      first : (o : Option ℤ) → IfSome o (λ y. Contains ys y × (at <ℤ y)) → lesser (Some z) o ≡ Some z
      first None h = refl
      first (Some y) h = ap Some (ends y (λ l. none_between_right xs ys at z none y h.0 h.1 l))

      second : (o : Option ℤ) → IfSome o (λ x. Contains xs x × (at <ℤ x)) → lesser o (Some z) ≡ Some z
      second None h = refl
      second (Some x) h = ap Some (ends2 x (λ l. none_between_left xs ys at z none x h.0 h.1 l))

  pub greater-next : (at : ℤ) → ((z : ℤ) → Contains xs z → z <ℤ at → NoneBetween xs z at → a ≡ Some z) → IfSome a (λ z. Contains xs z × (z <ℤ at)) → ((z : ℤ) → Contains ys z → z <ℤ at → NoneBetween ys z at → b ≡ Some z) → IfSome b (λ z. Contains ys z × (z <ℤ at)) → (z : ℤ) → Contains (xs ++ ys) z → z <ℤ at → NoneBetween (xs ++ ys) z at → greater a b ≡ Some z
  greater-next at next past next2 past2 z c lt none = ⊎_elim
      (λ (l : Contains xs z). ap (λ (o : Option ℤ). greater o b) (next z l lt (none_between_left xs ys z at none)) ∙ first b past2)
      (λ (r : Contains ys z). ap (greater a) (next2 z r lt (none_between_right xs ys z at none)) ∙ second a past)
      (Contains-append_cases xs ys z c)
    where
      ends : (y : ℤ) → (z <ℤ y → ⊥) → int_max z y ≡ z
      ends y h = by_lt_z z y (λ (l : z <ℤ y). absurd (h l)) (λ (g : y ≤ℤ z). let e : int_max z y ≡ z = omega (arith, ints, clamps) in e)

      ends2 : (x : ℤ) → (z <ℤ x → ⊥) → int_max x z ≡ z
      ends2 x h = by_lt_z z x (λ (l : z <ℤ x). absurd (h l)) (λ (g : x ≤ℤ z). let e : int_max x z ≡ z = omega (arith, ints, clamps) in e)

      first : (o : Option ℤ) → IfSome o (λ y. Contains ys y × (y <ℤ at)) → greater (Some z) o ≡ Some z
      first None h = refl
      first (Some y) h = ap Some (ends y (λ l. none_between_right xs ys z at none y h.0 l h.1))

      second : (o : Option ℤ) → IfSome o (λ x. Contains xs x × (x <ℤ at)) → greater o (Some z) ≡ Some z
      second None h = refl
      second (Some x) h = ap Some (ends2 x (λ l. none_between_left xs ys z at none x h.0 l h.1))

-- the lesser and the greater of two numbers that are there are one of them
module _ (P Q : ℤ → Type 0) where
  pub lesser-one : (a b : Option ℤ) → IfSome a P → IfSome b Q → IfSome (lesser a b) (λ z. P z ⊎ Q z)
  lesser-one None None p q = tt
  lesser-one None (Some y) p q = inr q
  lesser-one (Some x) None p q = inl p
  lesser-one (Some x) (Some y) p q = by_lt_z y x
      (λ (l : y <ℤ x). let e : int_min x y ≡ y = omega (arith, ints, clamps) in subst (λ z. P z ⊎ Q z) (sym e) (inr q))
      (λ (g : x ≤ℤ y). let e : int_min x y ≡ x = omega (arith, ints, clamps) in subst (λ z. P z ⊎ Q z) (sym e) (inl p))

  pub greater-one : (a b : Option ℤ) → IfSome a P → IfSome b Q → IfSome (greater a b) (λ z. P z ⊎ Q z)
  greater-one None None p q = tt
  greater-one None (Some y) p q = inr q
  greater-one (Some x) None p q = inl p
  greater-one (Some x) (Some y) p q = by_lt_z x y
      (λ (l : x <ℤ y). let e : int_max x y ≡ y = omega (arith, ints, clamps) in subst (λ z. P z ⊎ Q z) (sym e) (inr q))
      (λ (g : y ≤ℤ x). let e : int_max x y ≡ x = omega (arith, ints, clamps) in subst (λ z. P z ⊎ Q z) (sym e) (inl p))

-- one of two lists in their sum
pub of_either : (xs ys : List ℤ) (R : ℤ → Type 0) (o : Option ℤ) → IfSome o (λ z. (Contains xs z × R z) ⊎ (Contains ys z × R z)) → IfSome o (λ z. Contains (xs ++ ys) z × R z)
of_either xs ys R None h = tt
of_either xs ys R (Some z) h = ⊎_elim
    (λ (l : Contains xs z × R z). (Contains-append_left xs ys z l.0, l.1))
    (λ (r : Contains ys z × R z). (Contains-append_right xs ys z r.0, r.1))
    h

-- what is next past a number in the order R
module _ (R : ℤ → ℤ → Type 0) (through : (a b c : ℤ) → R a b → R b c → R a c) (never : (a : ℤ) → R a a → ⊥) (or_not : (a b : ℤ) → R a b ⊎ (R a b → ⊥)) where
  abbrev pub NonePast : List ℤ → ℤ → ℤ → Type 0
  NonePast ps a m = (z : ℤ) → Contains ps z → R a z → R z m → ⊥

  first_in : (ps : List ℤ) (a b : ℤ) → R a b → (m : ℤ) × R a m × ((m ≡ b) ⊎ Contains ps m) × NonePast ps a m
  first_in [] a b lt = (b, lt, inl refl, λ z c u w. none_in z c)
  first_in (x ∷ ps) a b lt = step (first_in ps a b lt)
    where
      later : (m : ℤ) → (m ≡ b) ⊎ Contains ps m → (m ≡ b) ⊎ Contains (x ∷ ps) m
      later m h = ⊎_elim (λ (e : m ≡ b). inl e) (λ (c : Contains ps m). inr (suc c.0, omega (arith, c.1), c.2)) h

      keeps : (m : ℤ) → R a m → (m ≡ b) ⊎ Contains ps m → NonePast ps a m → (R a x → R x m → ⊥) → (n : ℤ) × R a n × ((n ≡ b) ⊎ Contains (x ∷ ps) n) × NonePast (x ∷ ps) a n
      keeps m past is none not = (
        m,
        past,
        later m is,
        λ z c u w. ⊎_elim
            (λ (e : z ≡ x). not (subst (λ (y : ℤ). R a y) e u) (subst (λ (y : ℤ). R y m) e w))
            (λ (t : Contains ps z). none z t u w)
            (in_cons x ps z c),
      )

      takes : (m : ℤ) → NonePast ps a m → R a x → R x m → (n : ℤ) × R a n × ((n ≡ b) ⊎ Contains (x ∷ ps) n) × NonePast (x ∷ ps) a n
      takes m none h k = (
        x,
        h,
        inr (0, omega arith, refl),
        λ z c u w. ⊎_elim
            (λ (e : z ≡ x). never x (subst (λ (y : ℤ). R y x) e w))
            (λ (t : Contains ps z). none z t u (through z x m w k))
            (in_cons x ps z c),
      )

      step : (m : ℤ) × R a m × ((m ≡ b) ⊎ Contains ps m) × NonePast ps a m → (n : ℤ) × R a n × ((n ≡ b) ⊎ Contains (x ∷ ps) n) × NonePast (x ∷ ps) a n
      step r = ⊎_elim
          (λ (h : R a x). ⊎_elim
          (λ (k : R x r.0). takes r.0 r.3 h k)
          (λ (k : R x r.0 → ⊥). keeps r.0 r.1 r.2 r.3 (λ u w. k w))
          (or_not x r.0))
          (λ (h : R a x → ⊥). keeps r.0 r.1 r.2 r.3 (λ u w. h u))
          (or_not a x)

  pub exact : (ps : List ℤ) (a : ℤ) (o : Option ℤ) → ((z : ℤ) → Contains ps z → R a z → NonePast ps a z → o ≡ Some z) → IfSome o (λ z. Contains ps z × R a z) → IfSome o (λ z. Contains ps z × R a z × NonePast ps a z)
  exact ps a None next h = tt
  exact ps a (Some r) next h =
      let f : (m : ℤ) × R a m × ((m ≡ r) ⊎ Contains ps m) × NonePast ps a m = first_in ps a r h.1 in
      let c : Contains ps f.0 = ⊎_elim (λ (e : f.0 ≡ r). subst (Contains ps) (sym e) h.0) (λ (c : Contains ps f.0). c) f.2 in
      let same : r ≡ f.0 = same_Some r f.0 (next f.0 c f.1 f.3) in
      (h.0, h.1, subst (λ (z : ℤ). NonePast ps a z) (sym same) f.3)

pub exact_up : (ps : List ℤ) (at : ℤ) (o : Option ℤ) → ((z : ℤ) → Contains ps z → at <ℤ z → NoneBetween ps at z → o ≡ Some z) → IfSome o (λ z. Contains ps z × (at <ℤ z)) → IfSome o (λ z. Contains ps z × (at <ℤ z) × NoneBetween ps at z)
exact_up ps at o next h = exact (λ a b. a <ℤ b) (λ a b c l k. omega (arith, ints)) (λ a l. omega (arith, ints)) below_or_not ps at o next h
  where
    below_or_not : (a b : ℤ) → (a <ℤ b) ⊎ (a <ℤ b → ⊥)
    below_or_not a b = by_lt_z a b (λ l. inl l) (λ g. inr (λ l. omega (arith, ints)))

pub exact_down : (ps : List ℤ) (at : ℤ) (o : Option ℤ) → ((z : ℤ) → Contains ps z → z <ℤ at → NoneBetween ps z at → o ≡ Some z) → IfSome o (λ z. Contains ps z × (z <ℤ at)) → IfSome o (λ z. Contains ps z × (z <ℤ at) × NoneBetween ps z at)
exact_down ps at o next h = turned o (exact (λ a b. b <ℤ a) (λ a b c l k. omega (arith, ints)) (λ a l. omega (arith, ints)) above_or_not ps at o (λ z c lt none. next z c lt (λ y i above below. none y i below above)) h)
  where
    above_or_not : (a b : ℤ) → (b <ℤ a) ⊎ (b <ℤ a → ⊥)
    above_or_not a b = by_lt_z b a (λ l. inl l) (λ g. inr (λ l. omega (arith, ints)))

    turned : (o : Option ℤ) → IfSome o (λ z. Contains ps z × (z <ℤ at) × ((y : ℤ) → Contains ps y → y <ℤ at → z <ℤ y → ⊥)) → IfSome o (λ z. Contains ps z × (z <ℤ at) × NoneBetween ps z at)
    turned None h = tt
    turned (Some z) h = (h.0, h.1, λ y c above below. h.2 y c below above)

-- neighbours, upwards and downwards
pub neighbours-up : (ps : List ℤ) (from to : ℤ) → from <ℤ to → NoneBetween ps from to → AreNeighbours ps from to
neighbours-up ps from to lt none =
    let lo : int_min from to ≡ from = omega (arith, ints, clamps) in
    let hi : int_max from to ≡ to = omega (arith, ints, clamps) in
    (λ e. differ e lt, rw (lo, hi) none)
  where
    differ : from ≡ to → from <ℤ to → ⊥
    differ e l = omega (arith, ints)

pub up-neighbours : (ps : List ℤ) (from to : ℤ) → from <ℤ to → AreNeighbours ps from to → NoneBetween ps from to
up-neighbours ps from to lt near =
    let lo : int_min from to ≡ from = omega (arith, ints, clamps) in
    let hi : int_max from to ≡ to = omega (arith, ints, clamps) in
    rw (lo, hi) at near.1

pub neighbours-down : (ps : List ℤ) (from to : ℤ) → to <ℤ from → NoneBetween ps to from → AreNeighbours ps from to
neighbours-down ps from to lt none =
    let lo : int_min from to ≡ to = omega (arith, ints, clamps) in
    let hi : int_max from to ≡ from = omega (arith, ints, clamps) in
    (λ e. differ e lt, rw (lo, hi) none)
  where
    differ : from ≡ to → to <ℤ from → ⊥
    differ e l = omega (arith, ints)

pub down-neighbours : (ps : List ℤ) (from to : ℤ) → to <ℤ from → AreNeighbours ps from to → NoneBetween ps to from
down-neighbours ps from to lt near =
    let lo : int_min from to ≡ to = omega (arith, ints, clamps) in
    let hi : int_max from to ≡ from = omega (arith, ints, clamps) in
    rw (lo, hi) at near.1

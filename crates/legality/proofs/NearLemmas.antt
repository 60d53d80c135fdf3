-- Rectangles that move along a line, by the gaps along it and across it.
use Rattle.std.proofs.Common.{◌≡◌, ◌∙◌, ◌↔◌, inl, inr, ℕ, ◌+◌, ◌-◌, ◌*◌, ◌<◌, ◌≤◌, ℤ, pos, ◌+ℤ◌, ◌-ℤ◌, ◌≤ℤ◌, ◌<ℤ◌, ◌^◌, FitsSigned, to_z, of_z, w64, Bool, true, false, nat_lt, refl, sym, ap, subst, arith}
use Rattle.std.specs.Int.{int_gap}
use Rattle.std.proofs.lemmas.Bool.{cases_lt}
use Rattle.std.proofs.lemmas.Bool.Decides.{nat_tests}
use Rattle.std.proofs.lemmas.Int.{ints, to_z_pos, fits_signed_from_abs}
use Rattle.std.proofs.lemmas.Nat.{mul-le}
use Rattle.rt_base.specs.Conflict.{is_near_of}
use Rattle.rt_base.specs.Geometry.{gap_between}
use Rattle.rt_base.specs.Ranges.{IsWithin, AreSidesWithin}
use Rattle.rt_base.proofs.Ranges.{sides_from_within, within_from_sides, diff_is}
use Rattle.rt_base.specs.Sides.{Sides}
use Rattle.rt_base.specs.declared.geometry.Span.{Span}
use Rattle.legality.specs.declared.mover.Mover.{Mover}
use Rattle.legality.specs.Forbidden.{is_near_at, IsSpanOf}
use Rattle.legality.specs.Gaps.{extent_of, gap_across, IsInside}

less_test : (m n : ℕ) → m < n → nat_lt m n ≡ true
less_test m n h = grind (arith, nat_tests)

test_less : (m n : ℕ) → nat_lt m n ≡ true → m < n
test_less m n h = grind (arith, nat_tests)

test_not : (m n : ℕ) → n ≤ m → nat_lt m n ≡ false
test_not m n h = grind (arith, nat_tests)

-- the product of the numbers beside s, without a square: what is left for the other square
left_over : (a s : ℕ) → a < s → ((s - 1) * (s + 1) - a * a) + a * a + 1 ≡ s * s
left_over a s less =
    let small : a * a ≤ (s - 1) * (s - 1) = mul-le a a (s - 1) (s - 1) (omega arith) (omega arith) in
    let t : ℕ = s - 1 in
    let is : s ≡ t + 1 = omega arith in
    let wide : (s - 1) * (s + 1) ≡ t * t + 2 * t = subst (λ (k : ℕ). (s - 1) * (k + 1) ≡ t * t + 2 * t) (sym is) (grind arith) in
    let whole : s * s ≡ t * t + 2 * t + 1 = subst (λ (k : ℕ). k * k ≡ t * t + 2 * t + 1) (sym is) (grind arith) in
    omega (arith, small, wide, whole)

-- the root of what is left is the greatest gap that is near
pub root_near : (a s r : ℕ) → a < s → r * r ≤ (s - 1) * (s + 1) - a * a → (s - 1) * (s + 1) - a * a < (r + 1) * (r + 1) → (g : ℕ) → (g ≤ r) ↔ (is_near_of g a s ≡ true)
root_near a s r less low high g = (
  λ le. (let square : g * g ≤ r * r = mul-le g g r r le le in less_test (g * g + a * a) (s * s) (omega (arith, left_over a s less))),
  λ near. elim (cases_lt r g) [
    | inl past ↦ (
        let square : (r + 1) * (r + 1) ≤ g * g = mul-le (r + 1) (r + 1) g g (omega arith) (omega arith) in
        let under : g * g + a * a < s * s = test_less (g * g + a * a) (s * s) near in
        absurd (omega (arith, left_over a s less))
        )
    | inr within ↦ within
  ],
)

-- a gap across as large as the spacing is near at no gap along
pub far_across : (g a s : ℕ) → s ≤ a → is_near_of g a s ≡ false
far_across g a s le = let square : s * s ≤ a * a = mul-le s s a a le le in test_not (g * g + a * a) (s * s) (omega arith)

pub root_room : (a s : ℕ) → a < s → a * a ≤ (s - 1) * (s + 1)
root_room a s less =
    let small : a * a ≤ (s - 1) * (s - 1) = mul-le a a (s - 1) (s - 1) (omega arith) (omega arith) in
    let more : (s - 1) * (s - 1) ≤ (s - 1) * (s + 1) = mul-le (s - 1) (s - 1) (s - 1) (s + 1) (omega arith) (omega arith) in
    omega arith

-- the gaps in either order
near_turned : (g a s : ℕ) → is_near_of a g s ≡ is_near_of g a s
near_turned g a s = let e : a * a + g * g ≡ g * g + a * a = omega arith in ap (λ (n : ℕ). nat_lt n (s * s)) e

-- the gap along the line between the rectangle at z and another
abbrev gap_along : Mover → Sides → ℤ → ℕ
gap_along m other z =
    gap_between ((extent_of m.line.in_x m.rect).lo +ℤ z) ((extent_of m.line.in_x m.rect).hi +ℤ z) (extent_of m.line.in_x other).lo (extent_of m.line.in_x other).hi

-- near there, by the gap along and the gap across
pub near_by_gaps : (m : Mover) (other : Sides) (z : ℤ) → is_near_at m other z ≡ is_near_of (gap_along m other z) (gap_across m other) m.spacing
near_by_gaps m other z = by_direction m.line.in_x m.line.at m.rect m.spacing
  where
    by_direction : (b : Bool) (at : ℤ) (rect : Sides) (s : ℕ) → (let n : Mover = record { line = record { in_x = b; at = at }; rect = rect; spacing = s } in is_near_at n other z ≡ is_near_of (gap_along n other z) (gap_across n other) s)
    by_direction true at rect s = refl
    by_direction false at rect s = near_turned _ _ s

-- a gap is at most r where the one end is at most r above the other
gap_at_most : (a b : ℤ) (r : ℕ) → (int_gap a b ≤ r) ↔ (b ≤ℤ (a +ℤ pos r))
gap_at_most a b r = (λ h. grind (arith, ints), λ h. grind (arith, ints))

-- the numbers at which the gap along is at most r
pub gap_within : (ml mh ol oh z : ℤ) (r : ℕ) → (gap_between (ml +ℤ z) (mh +ℤ z) ol oh ≤ r) ↔ ((((ol -ℤ mh) -ℤ pos r) ≤ℤ z) × (z ≤ℤ ((oh -ℤ ml) +ℤ pos r)))
gap_within ml mh ol oh z r =
    let low = gap_at_most (mh +ℤ z) ol r in
    let high = gap_at_most oh (ml +ℤ z) r in (
      λ h. (
          let l : ol ≤ℤ ((mh +ℤ z) +ℤ pos r) = low.0 (omega (arith, h)) in
          let u : (ml +ℤ z) ≤ℤ (oh +ℤ pos r) = high.0 (omega (arith, h)) in
          (lower l, upper u)
          ),
      λ h. (
          let l : int_gap (mh +ℤ z) ol ≤ r = low.1 (lower_back h.0) in
          let u : int_gap oh (ml +ℤ z) ≤ r = high.1 (upper_back h.1) in
          omega (arith, l, u)
          ),
    )
  where
    lower : ol ≤ℤ ((mh +ℤ z) +ℤ pos r) → ((ol -ℤ mh) -ℤ pos r) ≤ℤ z
    lower l = omega (arith, ints, l)

    upper : (ml +ℤ z) ≤ℤ (oh +ℤ pos r) → z ≤ℤ ((oh -ℤ ml) +ℤ pos r)
    upper u = omega (arith, ints, u)

    lower_back : ((ol -ℤ mh) -ℤ pos r) ≤ℤ z → ol ≤ℤ ((mh +ℤ z) +ℤ pos r)
    lower_back l = omega (arith, ints, l)

    upper_back : z ≤ℤ ((oh -ℤ ml) +ℤ pos r) → (ml +ℤ z) ≤ℤ (oh +ℤ pos r)
    upper_back u = omega (arith, ints, u)

-- the span of those numbers
pub span_of_gaps : (m : Mover) (other : Sides) (r : ℕ) (s : Span) → ((along : ℕ) → (along ≤ r) ↔ (is_near_of along (gap_across m other) m.spacing ≡ true)) → s.lo ≡ ((extent_of m.line.in_x other).lo -ℤ (extent_of m.line.in_x m.rect).hi) -ℤ pos r → s.hi ≡ ((extent_of m.line.in_x other).hi -ℤ (extent_of m.line.in_x m.rect).lo) +ℤ pos r → s.lo ≤ℤ s.hi → IsSpanOf (is_near_at m other) s
span_of_gaps m other r s near lo hi full = record {
  full = full;
  exact = λ z. (
    λ h. near_by_gaps m other z ∙ (near (gap_along m other z)).0 ((within z).1 (subst (λ (l : ℤ). l ≤ℤ z) lo h.0, subst (λ (l : ℤ). z ≤ℤ l) hi h.1)),
    λ t. (let w = (within z).0 ((near (gap_along m other z)).1 (sym (near_by_gaps m other z) ∙ t)) in (subst (λ (l : ℤ). l ≤ℤ z) (sym lo) w.0, subst (λ (l : ℤ). z ≤ℤ l) (sym hi) w.1)),
  );
}
  where
    within : (z : ℤ) → (gap_along m other z ≤ r) ↔ (((((extent_of m.line.in_x other).lo -ℤ (extent_of m.line.in_x m.rect).hi) -ℤ pos r) ≤ℤ z) × (z ≤ℤ (((extent_of m.line.in_x other).hi -ℤ (extent_of m.line.in_x m.rect).lo) +ℤ pos r)))
    within z = gap_within (extent_of m.line.in_x m.rect).lo (extent_of m.line.in_x m.rect).hi (extent_of m.line.in_x other).lo (extent_of m.line.in_x other).hi z r

-- no number where no gap is near
pub none_by_gaps : (m : Mover) (other : Sides) → ((along : ℕ) → is_near_of along (gap_across m other) m.spacing ≡ false) → (z : ℤ) → is_near_at m other z ≡ false
none_by_gaps m other far z = near_by_gaps m other z ∙ far (gap_along m other z)

-- what is clear of a rectangle is clear of all that lies in it
across_inside : (al ah ol oh il ih : ℤ) → ol ≤ℤ il → ih ≤ℤ oh → gap_between al ah ol oh ≤ gap_between al ah il ih
across_inside al ah ol oh il ih low high = grind (arith, ints)

pub clear_inside : (m : Mover) (outer inner : Sides) (z : ℤ) → IsInside outer inner → m.spacing ≤ gap_across m outer → is_near_at m inner z ≡ false
clear_inside m outer inner z inside clear = near_by_gaps m inner z ∙ far_across (gap_along m inner z) (gap_across m inner) m.spacing (by_direction m.line.in_x m.line.at m.rect m.spacing clear)
  where
    by_direction : (b : Bool) (at : ℤ) (rect : Sides) (s : ℕ) → (let n : Mover = record { line = record { in_x = b; at = at }; rect = rect; spacing = s } in s ≤ gap_across n outer → s ≤ gap_across n inner)
    by_direction true at rect s h =
        let wider = across_inside (rect.yl +ℤ at) (rect.yh +ℤ at) outer.yl outer.yh inner.yl inner.yh inside.low inside.high in omega (arith, wider, h)
    by_direction false at rect s h =
        let wider = across_inside (rect.xl +ℤ at) (rect.xh +ℤ at) outer.xl outer.xh inner.xl inner.xh inside.left inside.right in omega (arith, wider, h)

-- the ends of an extent in range
pub extent_within : (b : Bool) (m : ℕ) (s : Sides) → AreSidesWithin m s → IsWithin m (extent_of b s).lo × IsWithin m (extent_of b s).hi
extent_within true m s h = (h.0, h.2)
extent_within false m s h = (h.1, h.3)

-- the ends of a forbidden span in range, and as they are computed
pub low_fits : (a b : ℤ) (r : ℕ) → IsWithin (2 ^ 61) a → IsWithin (2 ^ 61) b → r < 2 ^ 32 → FitsSigned w64 ((a -ℤ b) -ℤ pos r)
low_fits a b r ha hb small =
    let la = sides_from_within (2 ^ 61) a ha in
    let lb = sides_from_within (2 ^ 61) b hb in
    fits_signed_from_abs w64 _ (omega (arith, within_from_sides (2 ^ 62 + 2 ^ 33) ((a -ℤ b) -ℤ pos r) (omega (arith, ints)) (omega (arith, ints))))

pub high_fits : (a b : ℤ) (r : ℕ) → IsWithin (2 ^ 61) a → IsWithin (2 ^ 61) b → r < 2 ^ 32 → FitsSigned w64 ((a -ℤ b) +ℤ pos r)
high_fits a b r ha hb small =
    let la = sides_from_within (2 ^ 61) a ha in
    let lb = sides_from_within (2 ^ 61) b hb in
    fits_signed_from_abs w64 _ (omega (arith, within_from_sides (2 ^ 62 + 2 ^ 33) ((a -ℤ b) +ℤ pos r) (omega (arith, ints)) (omega (arith, ints))))

-- the difference and the reach, as they are computed
pub parts_are : (a a' b b' : ℤ) (r : ℕ) → a ≡ a' → b ≡ b' → IsWithin (2 ^ 61) a' → IsWithin (2 ^ 61) b' → r < 2 ^ 32 → (to_z w64 (of_z w64 (to_z w64 (of_z w64 a) -ℤ to_z w64 (of_z w64 b))) ≡ a' -ℤ b') × (to_z w64 r ≡ pos r)
parts_are a a' b b' r ea eb ha hb small = (subst (λ (y : ℤ). to_z w64 (of_z w64 (to_z w64 (of_z w64 a) -ℤ to_z w64 (of_z w64 y))) ≡ a' -ℤ b') (sym eb) (diff_is a a' b' ea ha hb), to_z_pos w64 r (omega arith))

pub hi_small : (a b : ℤ) (r : ℕ) → IsWithin (2 ^ 61) a → IsWithin (2 ^ 60 + 2 ^ 30) b → r < 2 ^ 32 → ((a -ℤ b) +ℤ pos r) <ℤ pos (2 ^ 62)
hi_small a b r ha hb small =
    let la = sides_from_within (2 ^ 61) a ha in
    let lb = sides_from_within (2 ^ 60 + 2 ^ 30) b hb in
    omega (arith, ints)

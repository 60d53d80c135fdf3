use Rattle.std.proofs.Common.{◌≡◌, ◌⊎◌, inl, inr, ℕ, ◌+◌, ◌*◌, ◌<◌, ◌≤◌, ℤ, ◌≤ℤ◌, sym, refl, ap, ◌∙◌, subst, List, Option, Some, None, slice_get, length, arith, ⊎_elim}
use Rattle.std.proofs.lemmas.Int.{ints}
use Rattle.std.proofs.lemmas.Option.{slice_get_within}
use Rattle.label_arena.specs.declared.place.Place.{Place}
use Rattle.label_arena.specs.declared.place.IntervalNo.{IntervalNo}
use Rattle.label_arena.specs.declared.place.LabelNo.{LabelNo}
use Rattle.label_arena.specs.declared.place.Label.{Label}
use Rattle.label_arena.specs.Lists.{Graph}
use Rattle.label_arena.specs.Plain.{gap, factor_at, slide}
use Rattle.label_arena.specs.Ways.{IsBelow, IsAbove}
use Rattle.interval_label.specs.Search.{IsExplained, IsExplainedBy, IsOn, AreSettled}
use Rattle.interval_label.proofs.Gaps.{gap_between}
use Rattle.interval_label.proofs.Costs.{interval_same}

-- a label next to the place explains it where one beyond it does
nearer : (f d e c z y v : ℕ) → f * z ≡ f * (y + v) → d + f * z ≤ c → e ≤ d + f * y → e + f * v ≤ c
nearer f d e c z y v a b h = omega (arith, a)

pub on_below : (ls : List Label) (v : Place) (o : Option LabelNo) → IsBelow ls v o → IsOn ls v o
on_below ls v None h n e = absurd (clash n e)
  where
    clash : (n : LabelNo) → None ≡ Some n → ⊥
    clash n e = cc
on_below ls v (Some m) h n e = let same : m ≡ n = cc in subst (λ (k : LabelNo). (x : Label) × (slice_get ls k.0 ≡ Some x) × (x.place.interval ≡ v.interval)) same (h.label, h.is.at, interval_same h.label.place.interval v.interval h.is.on)

pub on_above : (ls : List Label) (v : Place) (o : Option LabelNo) → IsAbove ls v o → IsOn ls v o
on_above ls v None h n e = absurd (clash n e)
  where
    clash : (n : LabelNo) → None ≡ Some n → ⊥
    clash n e = cc
on_above ls v (Some m) h n e = let same : m ≡ n = cc in subst (λ (k : LabelNo). (x : Label) × (slice_get ls k.0 ≡ Some x) × (x.place.interval ≡ v.interval)) same (h.label, h.is.at, interval_same h.label.place.interval v.interval h.is.on)

module _ (g : Graph) (ls : List Label) (settled : AreSettled g ls) (y : Label) where
  -- by a label at the place or below it
  by_below : (o : Option LabelNo) → IsBelow ls y.place o → (e : IsExplained g ls y.place y.dist) → e.label.place.coord ≤ℤ y.place.coord → IsExplainedBy g ls o y
  by_below None none e l = absurd (none e.number e.label (record { at = e.is; on = ap (λ (n : IntervalNo). n.0) e.one_interval }) l)
  by_below (Some n) next e l =
      let close : e.label.place.coord ≤ℤ next.label.place.coord = next.nearest e.number e.label (record { at = e.is; on = ap (λ (n : IntervalNo). n.0) e.one_interval }) l in
      let here : e.label.place.interval ≡ next.label.place.interval = interval_same _ _ (ap (λ (n : IntervalNo). n.0) e.one_interval ∙ sym next.is.on) in
      let f : ℕ = factor_at g e.label.place.interval.0 in
      let low : next.label.dist ≤ e.label.dist + f * gap e.label.place.coord next.label.place.coord = settled.smooth e.number n.0 e.label next.label e.is next.is.at here in
      let split : f * gap e.label.place.coord y.place.coord ≡ f * (gap e.label.place.coord next.label.place.coord + gap next.label.place.coord y.place.coord) = ap (λ m. f * m) (gap_between e.label.place.coord next.label.place.coord y.place.coord close next.below) in
      let own : next.label.dist + f * gap next.label.place.coord y.place.coord ≤ y.dist = nearer f e.label.dist next.label.dist y.dist _ _ _ split e.cheap low in
      (n, refl, (next.label, next.is.at, subst (λ (i : IntervalNo). next.label.dist + factor_at g i.0 * gap next.label.place.coord y.place.coord ≤ y.dist) here own))

  -- by a label at the place or above it
  by_above : (o : Option LabelNo) → IsAbove ls y.place o → (e : IsExplained g ls y.place y.dist) → y.place.coord ≤ℤ e.label.place.coord → IsExplainedBy g ls o y
  by_above None none e l = absurd (none e.number e.label (record { at = e.is; on = ap (λ (n : IntervalNo). n.0) e.one_interval }) l)
  by_above (Some n) next e l =
      let close : next.label.place.coord ≤ℤ e.label.place.coord = next.nearest e.number e.label (record { at = e.is; on = ap (λ (n : IntervalNo). n.0) e.one_interval }) l in
      let here : e.label.place.interval ≡ next.label.place.interval = interval_same _ _ (ap (λ (n : IntervalNo). n.0) e.one_interval ∙ sym next.is.on) in
      let f : ℕ = factor_at g e.label.place.interval.0 in
      let low : next.label.dist ≤ e.label.dist + f * gap e.label.place.coord next.label.place.coord = settled.smooth e.number n.0 e.label next.label e.is next.is.at here in
      let split : f * gap e.label.place.coord y.place.coord ≡ f * (gap e.label.place.coord next.label.place.coord + gap next.label.place.coord y.place.coord) = ap (λ m. f * m) (down e.label.place.coord next.label.place.coord y.place.coord close next.above) in
      let own : next.label.dist + f * gap next.label.place.coord y.place.coord ≤ y.dist = nearer f e.label.dist next.label.dist y.dist _ _ _ split e.cheap low in
      (n, refl, (next.label, next.is.at, subst (λ (i : IntervalNo). next.label.dist + factor_at g i.0 * gap next.label.place.coord y.place.coord ≤ y.dist) here own))
    where
      down : (x m v : ℤ) → m ≤ℤ x → v ≤ℤ m → gap x v ≡ gap x m + gap m v
      down x m v h k = omega (arith, ints)

  -- one of both labels next to the place explains it where any does
  pub explained_near : (o p : Option LabelNo) → IsBelow ls y.place o → IsAbove ls y.place p → IsExplained g ls y.place y.dist → IsExplainedBy g ls o y ⊎ IsExplainedBy g ls p y
  explained_near o p b a e = ⊎_elim
      (λ (l : e.label.place.coord ≤ℤ y.place.coord). inl (by_below o b e l))
      (λ (l : y.place.coord ≤ℤ e.label.place.coord). inr (by_above p a e l))
      (total e.label.place.coord y.place.coord)
    where
      total : (x y : ℤ) → (x ≤ℤ y) ⊎ (y ≤ℤ x)
      total x y = search (arith, ints)

pub explained_by_is : (g : Graph) (ls : List Label) (y : Label) (o : Option LabelNo) → IsOn ls y.place o → IsExplainedBy g ls o y → IsExplained g ls y.place y.dist
explained_by_is g ls y o on h =
    let there : (x : Label) × (slice_get ls h.0.0 ≡ Some x) × (x.place.interval ≡ y.place.interval) = on h.0 h.1 in
    let same : there.0 ≡ h.2.0 = same_one there.0 h.2.0 (sym there.1 ∙ h.2.1) in
    record { number = h.0.0; label = h.2.0; is = h.2.1; one_interval = subst (λ (x : Label). x.place.interval ≡ y.place.interval) same there.2; cheap = h.2.2 }
  where
    same_one : (a b : Label) → Some a ≡ Some b → a ≡ b
    same_one a b e = cc

pub not_explained_by : (g : Graph) (ls : List Label) (o : Option LabelNo) (y : Label) (n : LabelNo) (x : Label) → o ≡ Some n → slice_get ls n.0 ≡ Some x → y.dist < x.dist + slide g x.place y.place.coord → IsExplainedBy g ls o y → ⊥
not_explained_by g ls o y n x e is far h =
    let number : n ≡ h.0 = same_number n h.0 (sym e ∙ h.1) in
    let label : x ≡ h.2.0 = same_one x h.2.0 (sym is ∙ ap (λ (k : LabelNo). slice_get ls k.0) number ∙ h.2.1) in
    let low : x.dist + slide g x.place y.place.coord ≤ y.dist = subst (λ (z : Label). z.dist + slide g z.place y.place.coord ≤ y.dist) (sym label) h.2.2 in
    omega (arith, far, low)
  where
    same_number : (a b : LabelNo) → Some a ≡ Some b → a ≡ b
    same_number a b e = cc

    same_one : (a b : Label) → Some a ≡ Some b → a ≡ b
    same_one a b e = cc

pub none_explained_by : (g : Graph) (ls : List Label) (o : Option LabelNo) (y : Label) → o ≡ None → IsExplainedBy g ls o y → ⊥
none_explained_by g ls o y e h = clash h.0 (sym e ∙ h.1)
  where
    clash : (n : LabelNo) → None ≡ Some n → ⊥
    clash n e = cc

-- the label that `by` names
pub on_label : (ls : List Label) (v : Place) (o : Option LabelNo) (n : LabelNo) (x : Label) → IsOn ls v o → o ≡ Some n → slice_get ls n.0 ≡ Some x → x.place.interval ≡ v.interval
on_label ls v o n x on e is =
    let there = on n e in
    subst (λ (z : Label). z.place.interval ≡ v.interval) (same_one there.0 x (sym there.1 ∙ is)) there.2
  where
    same_one : (a b : Label) → Some a ≡ Some b → a ≡ b
    same_one a b e = cc

pub on_within : (ls : List Label) (v : Place) (o : Option LabelNo) (n : LabelNo) → IsOn ls v o → o ≡ Some n → n.0 < length ls
on_within ls v o n on e = let there = on n e in slice_get_within ls n.0 there.0 there.1

use Rattle.std.proofs.Common.{◌≡◌, ℕ, ◌*◌, ◌^◌, ◌<◌, ◌≤◌, ℤ, ◌≤ℤ◌, sym, ap, ◌∙◌, subst, length, Option, Some, slice_get, unwrap_or, option_map, arith}
use Rattle.std.proofs.lemmas.Int.{ints}
use Rattle.std.proofs.lemmas.Option.{same_Some, slice_get_within}
use Rattle.std.proofs.Math.Nat.{mul-le-mul_left}
use Rattle.label_arena.specs.declared.place.Place.{Place}
use Rattle.label_arena.specs.declared.place.IntervalNo.{IntervalNo}
use Rattle.label_arena.specs.declared.place.Interval.{Interval}
use Rattle.label_arena.specs.Lists.{Graph}
use Rattle.label_arena.specs.Plain.{gap, factor_at, slide, IsInside}
use Rattle.interval_label.specs.Task.{IsPriced}

pub inside_number : (g : Graph) (v : Place) → IsInside g v → v.interval.0 < length g.intervals
inside_number g v h = slice_get_within g.intervals v.interval.0 h.interval h.at

pub factor_read : (g : Graph) (n : ℕ) (i : Interval) → slice_get g.intervals n ≡ Some i → factor_at g n ≡ i.factor
factor_read g n i h = ap (λ (o : Option Interval). unwrap_or (option_map (λ (i : Interval). i.factor) o) 0) h

pub slide_read : (g : Graph) (u : Place) (x : ℤ) (i : Interval) → slice_get g.intervals u.interval.0 ≡ Some i → i.factor * gap u.coord x ≡ slide g u x
slide_read g u x i h = ap (λ f. f * gap u.coord x) (sym (factor_read g u.interval.0 i h))

pub interval_same : (m n : IntervalNo) → m.0 ≡ n.0 → m ≡ n
interval_same m n e = ap (λ (k : ℕ). let i : IntervalNo = record { 0 = k } in i) e

gap_inside : (l h x y : ℤ) → l ≤ℤ x → x ≤ℤ h → l ≤ℤ y → y ≤ℤ h → gap x y ≤ gap l h
gap_inside l h x y a b c d = omega (arith, ints)

pub slide_small : (g : Graph) (u v : Place) → IsPriced g → IsInside g u → IsInside g v → u.interval ≡ v.interval → slide g u v.coord < 2 ^ 60
slide_small g u v ok a b e =
    let same : a.interval ≡ b.interval = same_Some a.interval b.interval (sym a.at ∙ ap (λ (n : IntervalNo). slice_get g.intervals n.0) e ∙ b.at) in
    let f : factor_at g u.interval.0 ≡ a.interval.factor = factor_read g u.interval.0 a.interval a.at in
    let lower : a.interval.span.lo ≤ℤ v.coord = subst (λ (i : Interval). i.span.lo ≤ℤ v.coord) (sym same) b.low in
    let upper : v.coord ≤ℤ a.interval.span.hi = subst (λ (i : Interval). v.coord ≤ℤ i.span.hi) (sym same) b.high in
    let within : gap u.coord v.coord ≤ gap a.interval.span.lo a.interval.span.hi = gap_inside a.interval.span.lo a.interval.span.hi u.coord v.coord a.low a.high lower upper in
    let fs : factor_at g u.interval.0 * gap u.coord v.coord ≡ a.interval.factor * gap u.coord v.coord = ap (λ n. n * gap u.coord v.coord) f in
    omega (arith, mul-le-mul_left a.interval.factor within, fs, ok.intervals u.interval.0 a.interval a.at)

use Rattle.std.proofs.Common.{◌≡◌, ℕ, ℤ, ◌≤ℤ◌, sym, ap, ◌∙◌, List, Some, None, slice_get, arith}
use Rattle.std.proofs.lemmas.Int.{ints}
use Rattle.std.proofs.lemmas.Option.{same_Some}
use Rattle.label_arena.specs.declared.place.Place.{Place}
use Rattle.label_arena.specs.declared.place.IntervalNo.{IntervalNo}
use Rattle.label_arena.specs.declared.place.Label.{Label}
use Rattle.label_arena.specs.declared.place.LabelNo.{LabelNo}
use Rattle.label_arena.specs.Ways.{IsLabelOf, IsNextBelow, IsBelow}
use Rattle.interval_label.specs.State.{IsAt, NoneAt}
use Rattle.interval_label.proofs.Sliding.{at}
use Rattle.interval_label.proofs.Costs.{interval_same}

pub same_place : (u v : Place) → u.interval.0 ≡ v.interval.0 → u.coord ≡ v.coord → u ≡ v
same_place u v i e = ap (λ (n : IntervalNo). at n u.coord) (interval_same u.interval v.interval i) ∙ ap (λ (z : ℤ). at v.interval z) e

label_of : (ls : List Label) (v : Place) (k : ℕ) (x : Label) → slice_get ls k ≡ Some x → x.place ≡ v → IsLabelOf ls v.interval.0 k x
label_of ls v k x h e = record { at = h; on = ap (λ (p : Place). p.interval.0) e }

at_least : (x y : ℤ) → x ≡ y → x ≤ℤ y
at_least x y e = omega (arith, ints, e)

pub none_below : (ls : List Label) (v : Place) → IsBelow ls v None → NoneAt ls v
none_below ls v h k x is e = h k x (label_of ls v k x is e) (at_least x.place.coord v.coord (ap (λ (p : Place). p.coord) e))

pub at_next : (ls : List Label) (v : Place) (n : LabelNo) (x : Label) → IsNextBelow ls v n.0 → slice_get ls n.0 ≡ Some x → x.place.coord ≡ v.coord → IsAt ls v n
at_next ls v n x next is e =
    let same : next.label ≡ x = same_Some next.label x (sym next.is.at ∙ is) in
    record { label = x; is = is; place = same_place x.place v (sym (ap (λ (z : Label). z.place.interval.0) same) ∙ next.is.on) e }

pub none_next : (ls : List Label) (v : Place) (n : LabelNo) (x : Label) → IsNextBelow ls v n.0 → slice_get ls n.0 ≡ Some x → (x.place.coord ≡ v.coord → ⊥) → NoneAt ls v
none_next ls v n x next is off k y h e =
    let same : next.label.place.coord ≡ x.place.coord = ap (λ (z : Label). z.place.coord) (same_Some next.label x (sym next.is.at ∙ is)) in
    let yv : y.place.coord ≡ v.coord = ap (λ (p : Place). p.coord) e in
    let above : y.place.coord ≤ℤ next.label.place.coord = next.nearest k y (label_of ls v k y h e) (at_least y.place.coord v.coord yv) in
    off (between x.place.coord y.place.coord next.label.place.coord v.coord same yv above next.below)
  where
    between : (x y n v : ℤ) → n ≡ x → y ≡ v → y ≤ℤ n → n ≤ℤ v → x ≡ v
    between x y n v a b c d = omega (arith, ints)

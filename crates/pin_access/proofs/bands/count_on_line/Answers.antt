use Rattle.std.proofs.Common.{◌≡◌, ◌↔◌, ℤ, List, Any, Contains, to_z, of_z, w64, sym, subst}
use Rattle.std.proofs.lemmas.Int.{to_z-of_z}
use Rattle.rt_base.specs.declared.geometry.Span.{Span}
use Rattle.pin_access.specs.Bands.{IsIn, IsNearBand}
use Rattle.pin_access.proofs.HowMany.{counts_same}
use Rattle.pin_access.proofs.bands.count_on_line.Goals as goal

pub returns-clause-count : goal.returns-clause-count
returns-clause-count c =
    let line : to_z w64 (of_z w64 c.args.line) ≡ c.args.line = to_z-of_z w64 _ c.ranges.line in
    let sorted : (z : ℤ) → Any (IsIn z) c.as_slice.result.now ↔ Any (IsIn z) c.in_ok-spans.spans.items = λ z. subst (λ (ss : List Span). Any (IsIn z) ss ↔ Any (IsIn z) c.in_ok-spans.spans.items) (sym c.as_slice.ensures.value) (c.put_in_order.ensures.same z) in
    let near : (z : ℤ) → Any (IsIn z) c.in_ok-spans.spans.items ↔ Any (IsNearBand c.args.reach c.args.line z) c.args.bands.now = rw line at c.in_ok-spans.ensures in
    counts_same (λ (z : ℤ). Contains c.args.positions.now z × Any (IsIn z) c.as_slice.result.now) (λ (z : ℤ). Contains c.args.positions.now z × Any (IsNearBand c.args.reach c.args.line z) c.args.bands.now) c.count_within.result
    (λ z. (λ h. (h.0, (near z).0 ((sorted z).0 h.1)), λ h. (h.0, (sorted z).1 ((near z).1 h.1))))
    c.count_within.ensures.count

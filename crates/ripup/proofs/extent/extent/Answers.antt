use Rattle.std.proofs.Common.{◌≡◌, ◌∙◌, ℕ, ◌+◌, ◌-ℤ◌, unsigned_abs, List, sym, ap, arith}
use Rattle.std.proofs.lemmas.Int.{to_z-of_z}
use Rattle.track_graph.specs.declared.design.Pin.{Pin}
use Rattle.track_graph.specs.Orders.{half_perimeter, hull_extent}
use Rattle.ripup.proofs.HullLemmas.{extent_of, rects_of_pins, hull_extent-pins}
use Rattle.ripup.proofs.extent.extent.Goals as goal

sum_same : (a b c d : ℕ) → a ≡ c → b ≡ d → a + b ≡ c + d
sum_same a b c d e f = cc

pub returns-in-None : goal.returns-in-None
returns-in-None c =
    ap extent_of (sym c.in-None.is ∙ c.hull_of_pins.ensures)
    ∙ hull_extent-pins c.as_slice.result.now
    ∙ ap (λ (pins : List Pin). hull_extent (rects_of_pins pins)) c.as_slice.ensures

pub returns-in-Some : goal.returns-in-Some
returns-in-Some c =
    let x : c.abs_diff.result ≡ unsigned_abs (c.hull.inside.xh -ℤ c.hull.inside.xl) = grind (arith, to_z-of_z) in
    let y : c.abs_diff-in-Some.result ≡ unsigned_abs (c.hull.inside.yh -ℤ c.hull.inside.yl) = grind (arith, to_z-of_z) in
    sum_same _ _ _ _ (c.from.ensures ∙ x) (c.from-in-Some.ensures ∙ y)
    ∙ ap half_perimeter c.hull.view_is
    ∙ ap extent_of (sym c.in-Some.is ∙ c.hull_of_pins.ensures)
    ∙ hull_extent-pins c.as_slice.result.now
    ∙ ap (λ (pins : List Pin). hull_extent (rects_of_pins pins)) c.as_slice.ensures

-- Hulls rectangle by rectangle, pin by pin, and of all at once.
use Rattle.std.proofs.Common.{◌≡◌, ◌∙◌, ℕ, List, [], ◌∷◌, Option, Some, None, ap, refl, sym, fold, flat_map}
use Rattle.std.proofs.lemmas.List.Sums.{fold-append}
use Rattle.rt_base.specs.Sides.{Sides}
use Rattle.rt_base.specs.Geometry.{hull_of_sides}
use Rattle.track_graph.specs.declared.design.Pin.{Pin}
use Rattle.track_graph.specs.Metal.{Metal}
use Rattle.track_graph.specs.Orders.{half_perimeter, hull_extent}
use Rattle.ripup.specs.Hulls.{with_rect, with_pin}

abbrev pub rects_of_pins : List Pin → List Metal
rects_of_pins pins = flat_map (λ (pin : Pin). pin.rects) pins

fold-with_pin : (hull : Option Sides) (pins : List Pin) → fold with_pin hull pins ≡ fold with_rect hull (rects_of_pins pins)
fold-with_pin hull [] = refl
fold-with_pin hull (pin ∷ pins) =
    fold-with_pin (fold with_rect hull pin.rects) pins
    ∙ sym (fold-append with_rect hull pin.rects (rects_of_pins pins))

fold-with_rect : (s : Sides) (ms : List Metal) → fold with_rect (Some s) ms ≡ Some (fold (λ t (m : Metal). hull_of_sides t m.1) s ms)
fold-with_rect s [] = refl
fold-with_rect s (m ∷ ms) = fold-with_rect (hull_of_sides s m.1) ms

-- half the perimeter of a hull, 0 where there is none
abbrev pub extent_of : Option Sides → ℕ
extent_of None = 0
extent_of (Some s) = half_perimeter s

hull_extent-fold : (ms : List Metal) → extent_of (fold with_rect None ms) ≡ hull_extent ms
hull_extent-fold [] = refl
hull_extent-fold (m ∷ ms) = ap extent_of (fold-with_rect m.1 ms)

-- the extent by pins is that of all their rectangles
pub hull_extent-pins : (pins : List Pin) → extent_of (fold with_pin None pins) ≡ hull_extent (rects_of_pins pins)
hull_extent-pins pins = ap extent_of (fold-with_pin None pins) ∙ hull_extent-fold (rects_of_pins pins)

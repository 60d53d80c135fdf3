-- Shapes near a rectangle.
use Rattle.std.specs.Prelude.{Bool, ◌&&◌, ◌==◌, List, int_le, filter}
use Rattle.std.specs.List.Sorted.{IsPermutation, IsSorted}
use Rattle.std.specs.declared.cmp.Ordering.{Ordering}
use Rattle.rt_base.specs.Sides.{Sides}
use Rattle.rt_base.specs.declared.tech.LayerNo.{LayerNo}
use Rattle.rt_base.specs.declared.tech.Shape.{Shape}

-- a shape of the layer and the closed rectangle have a point in common
abbrev pub is_touching : LayerNo → Sides → Shape → Bool
is_touching layer r s =
    (s.layer.0 == layer.0) && int_le r.xl s.rect.xh && int_le s.rect.xl r.xh && int_le r.yl s.rect.yh && int_le s.rect.yl r.yh

-- exactly those of these shapes that touch the rectangle on its layer, each as often, in this order
pub record AreNear (cmp : Shape → Shape → Ordering) (layer : LayerNo) (r : Sides) (shapes found : List Shape) : Type 0 where
  pub are : IsPermutation (filter (is_touching layer r) shapes) found
  pub sorted : IsSorted cmp found

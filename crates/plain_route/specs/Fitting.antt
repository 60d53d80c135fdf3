-- Shapes of a net that may be tested against others.
use Rattle.std.specs.Prelude.{◌≡◌, ℕ, ◌^◌, ◌<◌, length, slice_get, Some, IsTrue, Bool, true, false}
use Rattle.rt_base.specs.Ranges.{AreSidesWithin}
use Rattle.rt_base.specs.declared.tech.Owner.TheVariants.{Net as OfNet}
use Rattle.rt_base.specs.declared.tech.Shape.{Shape}
use Rattle.rt_base.specs.declared.tech.Tech.{Tech}
use Rattle.rt_base.specs.declared.tech.Via.{Via}
use Rattle.plain_route.specs.declared.sense.Sense.{Sense}
use Rattle.plain_route.specs.declared.sense.Sense.TheVariants.{Hard, Soft, Without}

-- a shape of net n on a layer that there is, in range
pub record IsFitting (tech : Tech) (n : ℕ) (a : Shape) : Type 0 where
  pub layer : a.layer.0 < length tech.layers
  pub sides : AreSidesWithin (2 ^ 61) a.rect
  pub own : a.owner ≡ OfNet n

-- there is a usable via with this number
pub record IsUsableVia (tech : Tech) (k : ℕ) : Type 0 where
  pub via : Via
  pub is_via : slice_get tech.vias k ≡ Some via
  pub usable : IsTrue via.usable

-- some shapes may be dear
abbrev pub has_dear : Sense → Bool
has_dear Hard = false
has_dear Soft = true
has_dear (Without absent) = false

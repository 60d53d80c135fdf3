-- Conflicts: the spacing rules between shapes of different owners (LEF 5.8, LAYER: SPACING), read at corners by Euclidean distance.
use Rattle.std.specs.Prelude.{ℕ, ◌+◌, ◌*◌, pos, Bool, true, false, ◌&&◌, ◌==◌, not, nat_lt, option_map, unwrap_or, slice_get, unsigned_abs}
use Rattle.std.specs.Int.{int_max}
use Rattle.rt_base.specs.declared.tech.LayerNo.{LayerNo}
use Rattle.rt_base.specs.declared.tech.Owner.{Owner}
use Rattle.rt_base.specs.declared.tech.Owner.TheVariants.{Net, Nobody}
use Rattle.rt_base.specs.declared.tech.Shape.{Shape}
use Rattle.rt_base.specs.declared.tech.Tech.{Tech}
use Rattle.rt_base.specs.declared.tech.Layer.{Layer}
use Rattle.rt_base.specs.Geometry.{gap_x, gap_y}

-- a layer's spacing, at least 1
abbrev pub spacing_of : Tech → LayerNo → ℕ
spacing_of tech layer = unsigned_abs (int_max (unwrap_or (option_map (λ (l : Layer). l.spacing) (slice_get tech.layers layer.0)) (pos 0)) (pos 1))

-- what two shapes on one layer keep between them
abbrev pub pair_spacing : Tech → Shape → Shape → ℕ
pair_spacing tech a b = spacing_of tech a.layer

-- the most that any two shapes on a layer keep between them
abbrev pub largest_spacing : Tech → LayerNo → ℕ
largest_spacing tech layer = spacing_of tech layer

-- nobody is one owner, and differs from each net
abbrev pub same_owner : Owner → Owner → Bool
same_owner (Net m) (Net n) = m == n
same_owner (Net m) Nobody = false
same_owner Nobody (Net n) = false
same_owner Nobody Nobody = true

-- the distance of these gaps is less than s
abbrev pub is_near_of : ℕ → ℕ → ℕ → Bool
is_near_of gx gy s = nat_lt (gx * gx + gy * gy) (s * s)

-- two shapes on one layer have different owners and are nearer than their spacing
abbrev pub conflict_of : Tech → Shape → Shape → Bool
conflict_of tech a b =
    (a.layer.0 == b.layer.0) && not (same_owner a.owner b.owner) && is_near_of (gap_x a.rect b.rect) (gap_y a.rect b.rect) (pair_spacing tech a b)

-- The order in which nets are taken: by half the perimeter of the hull of their pins, then by number.
use Rattle.std.specs.Prelude.{◌≡◌, ◌≢◌, ◌⊎◌, ◌↔◌, ℕ, ◌+◌, ◌<◌, List, [], ◌∷◌, flat_map, fold, slice_get, Some, Contains, AllPairs, unsigned_abs, ◌-ℤ◌}
use Rattle.rt_base.specs.Sides.{Sides}
use Rattle.rt_base.specs.Geometry.{hull_of_sides}
use Rattle.track_graph.specs.declared.design.Design.{Design}
use Rattle.track_graph.specs.declared.design.Pin.{Pin}
use Rattle.track_graph.specs.Metal.{Metal}
use Rattle.track_graph.specs.Entries.{pins_of}
use Rattle.track_graph.specs.declared.history.Block.{Block}
use Rattle.track_graph.specs.declared.history.Block.TheVariants.{Wire, Stuck, RipFor}
use Rattle.track_graph.specs.Histories.{IsRoutable}

abbrev pub half_perimeter : Sides → ℕ
half_perimeter s = unsigned_abs (s.xh -ℤ s.xl) + unsigned_abs (s.yh -ℤ s.yl)

-- half the perimeter of the hull of rectangles, 0 where there is none
abbrev pub hull_extent : List Metal → ℕ
hull_extent [] = 0
hull_extent (r ∷ rs) = half_perimeter (fold (λ s (m : Metal). hull_of_sides s m.1) r.1 rs)

abbrev pub net_extent : Design → ℕ → ℕ
net_extent d n = hull_extent (flat_map (λ (p : Pin). p.rects) (pins_of d n))

-- net m is taken before net n
abbrev pub IsBefore : Design → ℕ → ℕ → Type 0
IsBefore d m n = (net_extent d m < net_extent d n) ⊎ ((net_extent d m ≡ net_extent d n) × (m < n))

-- exactly the routable nets, each before those after it
pub record IsOrder (d : Design) (nets : List ℕ) : Type 0 where
  pub has : (n : ℕ) → Contains nets n ↔ IsRoutable d n
  pub ordered : AllPairs (IsBefore d) nets

-- the net that a block is of
abbrev pub net_of : Block → ℕ
net_of (Wire n w) = n
net_of (Stuck n) = n
net_of (RipFor n soft ripped w) = n

-- the block at this place is the first one of its net
abbrev pub IsFirstOfNet : List Block → ℕ → Block → Type 0
IsFirstOfNet blocks place b = (i : ℕ) (a : Block) → i < place → slice_get blocks i ≡ Some a → net_of a ≢ net_of b

-- nets are first taken in their order: before the first block of a net stand blocks of nets before it alone
abbrev pub AreTakenInOrder : Design → List Block → Type 0
AreTakenInOrder d blocks =
    (i j : ℕ) (a b : Block) → i < j → slice_get blocks i ≡ Some a → slice_get blocks j ≡ Some b → IsFirstOfNet blocks j b → IsBefore d (net_of a) (net_of b)

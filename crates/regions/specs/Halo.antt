-- The halo of a design: how far from a net's guide its wires can matter to others (this project's own).
use Rattle.std.specs.Prelude.{◌≡◌, ◌⊎◌, ℕ, ◌+◌, ◌≤◌, ◌<◌, max, unsigned_abs, IsTrue, Any, length}
use Rattle.rt_base.specs.Conflict.{largest_spacing}
use Rattle.rt_base.specs.Sides.{Sides}
use Rattle.rt_base.specs.declared.tech.LayerNo.{LayerNo}
use Rattle.rt_base.specs.declared.tech.Via.{Via}
use Rattle.track_graph.specs.declared.design.Design.{Design}
use Rattle.track_graph.specs.Entries.{stub_reach}
use Rattle.track_graph.specs.Levels.{levels, track_system_of}
use Rattle.track_graph.specs.Metal.{Metal, half_width}

-- the greatest of these values, 0 where there is none
pub record IsGreatest (IsValue : ℕ → Type 0) (n : ℕ) : Type 0 where
  pub most : (v : ℕ) → IsValue v → v ≤ n
  pub taken : (n ≡ 0) ⊎ IsValue n

-- half a level's width
abbrev pub half_of : Design → ℕ → ℕ
half_of d level = unsigned_abs (half_width d.tech level)

abbrev pub IsWireReach : Design → ℕ → Type 0
IsWireReach d v = (level : ℕ) × (level < length (levels d.tech)) × (v ≡ half_of d level)

-- twice a level's largest step, which is how long a stub may be, and half its width
abbrev pub stub_of : Design → ℕ → ℕ
stub_of d level = stub_reach (track_system_of d) level + half_of d level

abbrev pub IsStubReach : Design → ℕ → Type 0
IsStubReach d v = (level : ℕ) × (level < length (levels d.tech)) × (v ≡ stub_of d level)

-- the largest absolute coordinate of a rectangle
abbrev pub farthest : Sides → ℕ
farthest s = max (max (unsigned_abs s.xl) (unsigned_abs s.yl)) (max (unsigned_abs s.xh) (unsigned_abs s.yh))

-- that of a rectangle of this via
abbrev pub IsReachOf : Via → ℕ → Type 0
IsReachOf via v = Any (λ (r : Metal). v ≡ farthest r.1) via.rects

-- that of a rectangle of a usable via
abbrev pub IsViaReach : Design → ℕ → Type 0
IsViaReach d v = Any (λ (via : Via). IsTrue via.usable × IsReachOf via v) d.tech.vias

-- how far a shape of a wire, of a via or of a stub may lie from its point
abbrev pub IsShapeReach : Design → ℕ → Type 0
IsShapeReach d v = IsWireReach d v ⊎ IsViaReach d v ⊎ IsStubReach d v

-- the most that two shapes on a layer keep between them
abbrev pub IsSpacing : Design → ℕ → Type 0
IsSpacing d v = (layer : LayerNo) × (layer.0 < length d.tech.layers) × (v ≡ largest_spacing d.tech layer)

-- the reach plus the largest spacing of any layer
pub record IsHalo (d : Design) (halo : ℕ) : Type 0 where
  pub reach : ℕ
  pub spacing : ℕ
  pub reach_is : IsGreatest (IsShapeReach d) reach
  pub spacing_is : IsGreatest (IsSpacing d) spacing
  pub halo_is : halo ≡ reach + spacing

-- The bound of a vertex.
use Rattle.std.specs.Prelude.{◌≡◌, ℕ, ◌+◌, ◌-◌, ◌*◌, ◌≤◌, min, max, ℤ, ◌≤ℤ◌, List, Contains}
use Rattle.std.specs.Int.{int_gap, int_min, int_max}
use Rattle.rt_base.specs.declared.walk.Vertex.{Vertex}
use Rattle.future_cost.specs.declared.bound.Bound.{Bound}

-- what contracts see of a bound: the ranges of the targets' x, y and levels, and the cost of a via
abbrev pub Hull : Type 0
Hull = Bound

-- how far z lies outside the range from l to h
abbrev pub outside : ℤ → ℤ → ℤ → ℕ
outside l h z = int_gap z l + int_gap h z

-- how many levels n lies outside the range from bottom to top
abbrev pub levels_outside : ℕ → ℕ → ℕ → ℕ
levels_outside bottom top n = (bottom - n) + (n - top)

-- the distances in x and y, and a via for each level
abbrev pub under : Hull → Vertex → ℕ
under b v = outside b.x.lo b.x.hi v.point.x + outside b.y.lo b.y.hi v.point.y + b.via * levels_outside b.bottom b.top v.level

-- the range from l to h is the smallest with this coordinate of each target
pub record IsRange (coord : Vertex → ℤ) (targets : List Vertex) (l h : ℤ) : Type 0 where
  pub low : (v : Vertex) × Contains targets v × (coord v ≡ l)
  pub high : (v : Vertex) × Contains targets v × (coord v ≡ h)
  pub holds : (v : Vertex) → Contains targets v → (l ≤ℤ coord v) × (coord v ≤ℤ h)

-- the range from bottom to top is the smallest with the level of each target
pub record IsLevelRange (targets : List Vertex) (bottom top : ℕ) : Type 0 where
  pub low : (v : Vertex) × Contains targets v × (v.level ≡ bottom)
  pub high : (v : Vertex) × Contains targets v × (v.level ≡ top)
  pub holds : (v : Vertex) → Contains targets v → (bottom ≤ v.level) × (v.level ≤ top)

-- the bound goes by the hull of the targets
pub record IsHullOf (targets : List Vertex) (b : Bound) : Type 0 where
  pub x : IsRange (λ (v : Vertex). v.point.x) targets b.x.lo b.x.hi
  pub y : IsRange (λ (v : Vertex). v.point.y) targets b.y.lo b.y.hi
  pub level : IsLevelRange targets b.bottom b.top

-- the hull with one vertex more
abbrev pub widened : Bound → Vertex → Bound
widened b v = record {
  x = record { lo = int_min b.x.lo v.point.x; hi = int_max b.x.hi v.point.x };
  y = record { lo = int_min b.y.lo v.point.y; hi = int_max b.y.hi v.point.y };
  bottom = min b.bottom v.level;
  top = max b.top v.level;
  via = b.via;
}

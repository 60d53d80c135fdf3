-- Steps over which the bound falls by at most the step's cost.
use Rattle.std.specs.Prelude.{◌≡◌, ◌⊎◌, ℕ, ◌+◌, ◌≤◌, ◌<◌, ◌^◌, ℤ, ◌-ℤ◌, unsigned_abs, List, slice_get, Some}
use Rattle.rt_base.specs.declared.walk.Vertex.{Vertex}
use Rattle.rt_base.specs.Ranges.{IsPointWithin}
use Rattle.label_arena.specs.declared.place.Place.{Place}
use Rattle.label_arena.specs.declared.place.Interval.{Interval}
use Rattle.label_arena.specs.declared.place.Bridge.{Bridge}
use Rattle.label_arena.specs.declared.place.Run.{Run}
use Rattle.label_arena.specs.Lists.{Graph}
use Rattle.label_arena.specs.Plain.{vertex_of, IsConsistent, IsJoined}

-- the units between two points along the axes
abbrev pub distance : Vertex → Vertex → ℕ
distance u v = unsigned_abs (u.point.x -ℤ v.point.x) + unsigned_abs (u.point.y -ℤ v.point.y)

-- a wire on one level costs its length at least
pub record IsWireStep (u v : Vertex) (c : ℕ) : Type 0 where
  pub level : u.level ≡ v.level
  pub cost : distance u v ≤ c

-- a via at a point costs `via` at least
pub record IsViaStep (via : ℕ) (u v : Vertex) (c : ℕ) : Type 0 where
  pub point : u.point ≡ v.point
  pub levels : (u.level ≡ v.level + 1) ⊎ (v.level ≡ u.level + 1)
  pub cost : via ≤ c

-- b falls over wires and vias by at most what they cost
abbrev pub Falls : ℕ → (Vertex → ℕ) → Type 0
Falls via b = (u v : Vertex) (c : ℕ) → IsWireStep u v c ⊎ IsViaStep via u v c → b u ≤ c + b v

-- a bridge that changes the level by one at one point and costs `via` at least, or changes nothing
abbrev pub IsFairBridge : ℕ → Vertex → Vertex → ℕ → Type 0
IsFairBridge via u v c = IsViaStep via u v c ⊎ (u ≡ v)

-- what the bound asks of an arena's graph
pub record IsFair (via : ℕ) (g : Graph) : Type 0 where
  pub joined : IsJoined g
  pub factors : (n : ℕ) (i : Interval) → slice_get g.intervals n ≡ Some i → 1 ≤ i.factor
  pub bridges : (k : ℕ) (b : Bridge) → slice_get g.bridges k ≡ Some b → IsFairBridge via (vertex_of g b.a) (vertex_of g b.b) b.cost
  pub runs : (k : ℕ) (r : Run) (a b : Interval) → slice_get g.runs k ≡ Some r → slice_get g.intervals r.a.0 ≡ Some a → slice_get g.intervals r.b.0 ≡ Some b → unsigned_abs (a.line -ℤ b.line) ≤ r.cost

-- over no step of a fair arena does b fall by more than the step's cost
abbrev pub FallsInArenas : ℕ → (Vertex → ℕ) → Type 0
FallsInArenas via b = (g : Graph) → IsFair via g → IsConsistent g (λ p. b (vertex_of g p))

-- coordinates at most 2^32 in absolute value, and fewer than 256 levels
pub record IsNear (v : Vertex) : Type 0 where
  pub point : IsPointWithin (2 ^ 32) v.point
  pub level : v.level < 256

-- b is below 2^62 at each vertex that is near
abbrev pub IsSmall : (Vertex → ℕ) → Type 0
IsSmall b = (v : Vertex) → IsNear v → b v < 2 ^ 62

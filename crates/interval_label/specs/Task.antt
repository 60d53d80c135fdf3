-- What is asked of a search, and of the arena and the bound that it is given.
use Rattle.std.specs.Prelude.{◌≡◌, ℕ, ◌*◌, ◌≤◌, ◌<◌, ◌^◌, List, slice_get, Some, Contains}
use Rattle.future_cost.specs.declared.bound.Bound.{Bound}
use Rattle.future_cost.specs.Under.{under}
use Rattle.label_arena.specs.declared.place.Place.{Place}
use Rattle.label_arena.specs.declared.place.Interval.{Interval}
use Rattle.label_arena.specs.declared.place.Bridge.{Bridge}
use Rattle.label_arena.specs.declared.place.Run.{Run}
use Rattle.label_arena.specs.Lists.{Graph}
use Rattle.label_arena.specs.Plain.{gap, vertex_of, IsInside, IsConsistent, Reaches}

-- a place where a walk may start or finish, and what this costs
abbrev pub Stop : Type 0
Stop = Place × ℕ

-- the bound at a place
abbrev pub left_at : Graph → Bound → Place → ℕ
left_at g bound p = under bound (vertex_of g p)

-- bridges, runs and whole intervals cost less than 2^60
pub record IsPriced (g : Graph) : Type 0 where
  pub bridges : (k : ℕ) (bridge : Bridge) → slice_get g.bridges k ≡ Some bridge → bridge.cost < 2 ^ 60
  pub runs : (k : ℕ) (run : Run) → slice_get g.runs k ≡ Some run → run.cost < 2 ^ 60
  pub intervals : (k : ℕ) (i : Interval) → slice_get g.intervals k ≡ Some i → i.factor * gap i.span.lo i.span.hi < 2 ^ 60

-- the bound is below 2^62 at each place, and over no step does it fall by more than the step's cost
pub record IsBounded (g : Graph) (b : Place → ℕ) : Type 0 where
  pub consistent : IsConsistent g b
  pub small : (v : Place) → IsInside g v → b v < 2 ^ 62

-- stops lie in the arena and cost less than 2^60
abbrev pub AreStops : Graph → List Stop → Type 0
AreStops g stops = (s : Stop) → Contains stops s → IsInside g s.0 × (s.1 < 2 ^ 60)

-- at each target the bound is at most the target's own cost
abbrev pub EndsAt : (Place → ℕ) → List Stop → Type 0
EndsAt b targets = (t : Stop) → Contains targets t → b t.0 ≤ t.1

-- each place that a source is joined to has a walk of less than 2^62
abbrev pub AreNear : Graph → List Stop → Type 0
AreNear g sources = (v : Place) (c : ℕ) → Reaches g sources v c → (d : ℕ) × Reaches g sources v d × (d < 2 ^ 62)

-- The plain graph of an arena: every coordinate of every interval, and walks with costs.
use Rattle.std.specs.Prelude.{◌≡◌, ◌⊎◌, ℕ, ◌+◌, ◌*◌, ◌≤◌, ⊤, ℤ, ◌≤ℤ◌, ◌-ℤ◌, pos, unsigned_abs, if◌then◌else◌, List, [], ◌∷◌, slice_get, unwrap_or, option_map, Some, Contains}
use Rattle.rt_base.specs.declared.walk.Vertex.{Vertex}
use Rattle.label_arena.specs.declared.place.Place.{Place}
use Rattle.label_arena.specs.declared.place.Interval.{Interval}
use Rattle.label_arena.specs.declared.place.Bridge.{Bridge}
use Rattle.label_arena.specs.declared.place.Run.{Run}
use Rattle.label_arena.specs.Lists.{Graph}

-- how far apart two coordinates are
abbrev pub gap : ℤ → ℤ → ℕ
gap x y = unsigned_abs (x -ℤ y)

-- what a step of one costs on interval n
abbrev pub factor_at : Graph → ℕ → ℕ
factor_at g n = unwrap_or (option_map (λ (i : Interval). i.factor) (slice_get g.intervals n)) 0

-- what the slide from a place to a coordinate of its interval costs
abbrev pub slide : Graph → Place → ℤ → ℕ
slide g p x = factor_at g p.interval.0 * gap p.coord x

-- the point at a coordinate of an interval
abbrev pub vertex_on : Interval → ℤ → Vertex
vertex_on i x = record { level = i.level; point = if i.horizontal then record { x = x; y = i.line } else record { x = i.line; y = x } }

-- the vertex of a place
abbrev pub vertex_of : Graph → Place → Vertex
vertex_of g p = unwrap_or (option_map (λ (i : Interval). vertex_on i p.coord) (slice_get g.intervals p.interval.0)) (record { level = 0; point = record { x = pos 0; y = pos 0 } })

-- a place lies in one of these intervals
pub record IsIn (is : List Interval) (p : Place) : Type 0 where
  pub interval : Interval
  pub at : slice_get is p.interval.0 ≡ Some interval
  pub low : interval.span.lo ≤ℤ p.coord
  pub high : p.coord ≤ℤ interval.span.hi

-- a place of the graph
abbrev pub IsInside : Graph → Place → Type 0
IsInside g p = IsIn g.intervals p

-- neighbouring places
pub record IsNext (g : Graph) (u v : Place) (c : ℕ) : Type 0 where
  pub from : IsInside g u
  pub to : IsInside g v
  pub one_interval : u.interval ≡ v.interval
  pub near : gap u.coord v.coord ≡ 1
  pub cost : c ≡ factor_at g u.interval.0

-- the point bridge with this number, in one of both directions
pub record IsPointWay (g : Graph) (k : ℕ) (u v : Place) (c : ℕ) : Type 0 where
  pub bridge : Bridge
  pub at : slice_get g.bridges k ≡ Some bridge
  pub ends : ((u ≡ bridge.a) × (v ≡ bridge.b)) ⊎ ((u ≡ bridge.b) × (v ≡ bridge.a))
  pub cost : c ≡ bridge.cost

-- the run with this number at one of its coordinates, in one of both directions
pub record IsRunWay (g : Graph) (k : ℕ) (u v : Place) (c : ℕ) : Type 0 where
  pub run : Run
  pub at : slice_get g.runs k ≡ Some run
  pub ends : ((u.interval ≡ run.a) × (v.interval ≡ run.b)) ⊎ ((u.interval ≡ run.b) × (v.interval ≡ run.a))
  pub straight : u.coord ≡ v.coord
  pub low : run.span.lo ≤ℤ u.coord
  pub high : u.coord ≤ℤ run.span.hi
  pub cost : c ≡ run.cost

-- a step of the plain graph
abbrev pub IsStep : Graph → Place → Place → ℕ → Type 0
IsStep g u v c = IsNext g u v c ⊎ ((k : ℕ) × IsPointWay g k u v c) ⊎ ((k : ℕ) × IsRunWay g k u v c)

-- where steps lead and what each costs, the last one first
abbrev pub Moves : Type 0
Moves = List (Place × ℕ)

-- where they end
abbrev pub end_of : Place → Moves → Place
end_of p [] = p
end_of p (m ∷ ms) = m.0

-- what they cost together
abbrev pub cost_of : Moves → ℕ
cost_of [] = 0
cost_of (m ∷ ms) = cost_of ms + m.1

-- steps that follow each other from a place on
abbrev pub IsWalk : Graph → Place → Moves → Type 0
IsWalk g p [] = ⊤
IsWalk g p (m ∷ ms) = IsWalk g p ms × IsStep g (end_of p ms) m.0 m.1

-- a walk between two places
pub record IsWay (g : Graph) (u v : Place) (c : ℕ) : Type 0 where
  pub moves : Moves
  pub walk : IsWalk g u moves
  pub arrives : end_of u moves ≡ v
  pub cost : cost_of moves ≡ c

-- a walk from a source to v costs c, the source's cost included
pub record Reaches (g : Graph) (sources : List (Place × ℕ)) (v : Place) (c : ℕ) : Type 0 where
  pub start : Place × ℕ
  pub has : Contains sources start
  pub moves : Moves
  pub walk : IsWalk g start.0 moves
  pub arrives : end_of start.0 moves ≡ v
  pub cost : start.1 + cost_of moves ≡ c

-- c is the least cost of a walk from a source to v
pub record IsLeast (g : Graph) (sources : List (Place × ℕ)) (v : Place) (c : ℕ) : Type 0 where
  pub reached : Reaches g sources v c
  pub least : (d : ℕ) → Reaches g sources v d → c ≤ d

-- over no step does b fall by more than the step's cost
abbrev pub IsConsistent : Graph → (Place → ℕ) → Type 0
IsConsistent g b = (u v : Place) (c : ℕ) → IsStep g u v c → b u ≤ c + b v

-- a bridge between places of these intervals
pub record IsBridge (is : List Interval) (bridge : Bridge) : Type 0 where
  pub a : IsIn is bridge.a
  pub b : IsIn is bridge.b

-- a run between two of these intervals, on one level and in one direction, which both hold its whole span
pub record IsRun (is : List Interval) (run : Run) : Type 0 where
  pub a : Interval
  pub b : Interval
  pub a_at : slice_get is run.a.0 ≡ Some a
  pub b_at : slice_get is run.b.0 ≡ Some b
  pub level : a.level ≡ b.level
  pub direction : a.horizontal ≡ b.horizontal
  pub holds : (x : ℤ) → run.span.lo ≤ℤ x → x ≤ℤ run.span.hi → IsIn is (record { interval = run.a; coord = x }) × IsIn is (record { interval = run.b; coord = x })

-- every bridge and every run joins intervals of the graph
pub record IsJoined (g : Graph) : Type 0 where
  pub bridges : (k : ℕ) (bridge : Bridge) → slice_get g.bridges k ≡ Some bridge → IsBridge g.intervals bridge
  pub runs : (k : ℕ) (run : Run) → slice_get g.runs k ≡ Some run → IsRun g.intervals run

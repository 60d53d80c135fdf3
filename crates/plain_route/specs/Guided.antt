-- Bounds on the cost to some stops.
use Rattle.std.specs.Prelude.{◌≡◌, ℕ, ◌+◌, ◌*◌, ◌-◌, ◌^◌, min, fold, Bool, List, Contains}
use Rattle.future_cost.specs.declared.bound.Bound.{Bound}
use Rattle.future_cost.specs.Laws.{Falls, IsSmall}
use Rattle.future_cost.specs.Turns.{turns}
use Rattle.future_cost.specs.Under.{under}
use Rattle.rt_base.specs.declared.walk.Vertex.{Vertex}
use Rattle.track_graph.specs.Levels.{is_horizontal}
use Rattle.track_graph.specs.declared.design.Design.{Design}
use Rattle.least_walk.specs.declared.graph.Stop.{Stop}

-- what a walk from v to the stops in a hull costs at least: the bound of its place, and the vias for the turns that it needs
abbrev pub to_hull : Design → Bound → Vertex → ℕ
to_hull d b v = under b v + d.options.via * turns b (is_horizontal d.tech v.level) v

-- what a walk from v to a stop in any of some hulls costs at least, the greatest number of 64 bits where there is none
abbrev pub to_stops : Design → List Bound → Vertex → ℕ
to_stops d bounds v = fold (λ least b. min least (to_hull d b v)) (2 ^ 64 - 1) bounds

-- small, and falling over wires and vias by at most what they cost
pub record IsFairBound (via : ℕ) (b : Bound) : Type 0 where
  pub falls : Falls via (under b)
  pub small : IsSmall (under b)
  pub via_is : b.via ≡ via

-- 0 at a stop, without turns there
pub record IsZeroAt (s : Stop) (b : Bound) : Type 0 where
  pub zero : under b s.entry.vertex ≡ 0
  pub turned : (horizontal : Bool) → turns b horizontal s.entry.vertex ≡ 0

-- a fair bound that is 0 at each stop
pub record IsAimedAt (stops : List Stop) (via : ℕ) (b : Bound) : Type 0 where
  pub zero : (s : Stop) → Contains stops s → IsZeroAt s b
  pub fair : IsFairBound via b

-- fair bounds, at each stop one that is 0 there
pub record AreAimedAt (stops : List Stop) (via : ℕ) (bounds : List Bound) : Type 0 where
  pub zero : (s : Stop) → Contains stops s → (b : Bound) × Contains bounds b × IsZeroAt s b
  pub fair : (b : Bound) → Contains bounds b → IsFairBound via b

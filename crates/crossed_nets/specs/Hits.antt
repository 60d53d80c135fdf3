-- Standing wires that conflict with a shape of a walk.
use Rattle.std.specs.Prelude.{◌≡◌, ℕ, ◌<◌, List, Bool, not, ◌&&◌, ◌==◌, AllPairs}
use Rattle.std.specs.List.{list_any}
use Rattle.rt_base.specs.Conflict.{conflict_of}
use Rattle.rt_base.specs.declared.tech.Shape.{Shape}
use Rattle.track_graph.specs.declared.design.Design.{Design}
use Rattle.rt_base.specs.declared.walk.Walk.{Walk}
use Rattle.track_graph.specs.Walks.{walk_shapes_of}
use Rattle.plain_route.specs.Roles.{is_net_with, is_rippable}

-- a number is among these
abbrev pub has : List ℕ → ℕ → Bool
has nets m = list_any (λ k. k == m) nets

-- a routed shape of net m, which may be ripped for net n
abbrev pub is_wire_of : Design → (ℕ → ℕ) → ℕ → ℕ → Shape → Bool
is_wire_of d rips n m b = not b.fixed && is_net_with (λ k. (k == m) && is_rippable d rips n k) b.owner

-- a shape conflicts with such a shape
abbrev pub is_hit : Design → (ℕ → ℕ) → ℕ → ℕ → Shape → Shape → Bool
is_hit d rips n m a b = conflict_of d.tech a b && is_wire_of d rips n m b

-- exactly the nets that may be ripped for net n and with a wire among the shapes that conflicts with the walk, each once, ascending
pub record AreCrossed (d : Design) (rips : ℕ → ℕ) (n : ℕ) (w : Walk) (shapes : List Shape) (nets : List ℕ) : Type 0 where
  pub ascending : AllPairs (λ a b. a < b) nets
  pub exactly : (m : ℕ) → has nets m ≡ list_any (λ a. list_any (is_hit d rips n m a) shapes) (walk_shapes_of d n w)

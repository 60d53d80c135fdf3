-- What a block of a net is checked against, and what makes it right to rip nets for it.
use Rattle.std.specs.Prelude.{◌≡◌, ◌≢◌, ℕ, List, []}
use Rattle.rt_base.specs.declared.tech.Shape.{Shape}
use Rattle.rt_base.specs.declared.walk.Walk.{Walk}
use Rattle.standing_shapes.specs.Standing.{AreShapesOf}
use Rattle.track_graph.specs.declared.design.Design.{Design}
use Rattle.track_graph.specs.declared.history.State.{State}
use Rattle.track_graph.specs.Conditions.{IsStateOf}
use Rattle.track_graph.specs.Designs.{IsDesign}
use Rattle.track_graph.specs.Histories.{IsRoutable, crossed_from}
use Rattle.track_graph.specs.Readings.{hard_reading, soft_reading}
use Rattle.track_graph.specs.Searches.{IsLeast, NoneLegal}
use Rattle.track_graph.specs.States.{net_state}

-- a design, a net of it that is to be routed, a state, and the shapes of the state
pub record CanCheck (d : Design) (s : State) (n : ℕ) (shapes : List Shape) : Type 0 where
  pub design : IsDesign d
  pub state : IsStateOf d s
  pub net : IsRoutable d n
  pub stored : AreShapesOf d s shapes

-- exactly the nets that a walk of net n crosses, of which there is one
pub record IsRipped (d : Design) (s : State) (n : ℕ) (soft : Walk) (ripped : List ℕ) : Type 0 where
  pub exactly : ripped ≡ crossed_from d n soft 0 s.nets
  pub some : ripped ≢ []

-- no walk is legal, and these nets are those that a least soft walk crosses
pub record MustRip (d : Design) (s : State) (n : ℕ) (soft : Walk) (ripped : List ℕ) : Type 0 where
  pub none : NoneLegal d n (net_state s n) (hard_reading d s)
  pub soft_least : IsLeast d n (net_state s n) (soft_reading d s n) soft
  pub crossed : IsRipped d s n soft ripped

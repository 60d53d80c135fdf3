-- Nets that wait, in a view.
use Rattle.std.specs.Prelude.{ℕ}
use Rattle.search.specs.Views.{StandsFor}
use Rattle.search.specs.declared.view.View.{View}
use Rattle.track_graph.specs.Histories.{IsWaiting}
use Rattle.track_graph.specs.declared.design.Design.{Design}
use Rattle.track_graph.specs.declared.history.State.{State}

-- net n is to be routed, isn't marked as stuck and has a pin that isn't joined, in a state for which the view stands
pub record WaitsInSome (d : Design) (v : View) (n : ℕ) : Type 0 where
  pub state : State
  pub stands : StandsFor d state v
  pub waiting : IsWaiting d state n

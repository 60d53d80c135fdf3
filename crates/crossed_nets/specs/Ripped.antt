-- A net that may be ripped.
use Rattle.std.specs.Prelude.{◌≡◌, ◌≢◌, ℕ, ◌<◌, length, true}
use Rattle.track_graph.specs.declared.design.Design.{Design}
use Rattle.track_graph.specs.declared.history.State.{State}
use Rattle.track_graph.specs.Readings.{may_rip}
use Rattle.track_graph.specs.States.{net_state}

-- net m is another net of the state than n, and may be ripped for it
pub record IsRippable (d : Design) (s : State) (n m : ℕ) : Type 0 where
  pub within : m < length s.nets
  pub other : m ≢ n
  pub may : may_rip d n m (net_state s m) ≡ true

-- What may come next for a net.
use Rattle.std.specs.Prelude.{◌≡◌, ◌≢◌, ℕ, List, [], Bool, true, not, IsTrue, filter, All, ◌==◌}
use Rattle.std.specs.List.{list_any}
use Rattle.plain_route.specs.Stocks.{StandFor}
use Rattle.ripup.specs.declared.choice.Choice.{Choice}
use Rattle.ripup.specs.declared.choice.Choice.TheVariants.{Wire, Widen, RipFor, Stuck}
use Rattle.ripup.specs.declared.choice.Held.{Held}
use Rattle.ripup.specs.declared.choice.Held.TheVariants.{All as AllHeld, These}
use Rattle.rt_base.specs.declared.tech.Shape.{Shape}
use Rattle.rt_base.specs.declared.walk.Walk.{Walk}
use Rattle.track_graph.specs.Conditions.{IsStateOf}
use Rattle.track_graph.specs.Histories.{crossed_from, IsRipRight, IsStuckRight, IsWireRight}
use Rattle.track_graph.specs.Readings.{hard_reading, soft_reading}
use Rattle.track_graph.specs.Searches.{IsLeast, NoneLegal}
use Rattle.track_graph.specs.States.{net_state}
use Rattle.track_graph.specs.declared.design.Design.{Design}
use Rattle.track_graph.specs.declared.history.NetState.{NetState}
use Rattle.track_graph.specs.declared.history.State.{State}

-- a number is among these
abbrev pub is_among : List ℕ → ℕ → Bool
is_among nets m = list_any (λ k. k == m) nets

-- a net may be ripped
abbrev pub is_held : Held → ℕ → Bool
is_held AllHeld m = true
is_held (These nets) m = is_among nets.now m

-- what is known of net n, and the shapes, are those of a state of the design
pub record Shows (d : Design) (n : ℕ) (own : NetState) (shapes : List Shape) (rips : ℕ → ℕ) (s : State) : Type 0 where
  pub state : IsStateOf d s
  pub stands : StandFor d s shapes rips
  pub known : own ≡ net_state s n

-- no walk of net n is legal, and a least soft walk crosses exactly these nets beside those that are held, ascending, at least one
pub record IsWidened (d : Design) (s : State) (held : ℕ → Bool) (n : ℕ) (nets : List ℕ) : Type 0 where
  pub none : NoneLegal d n (net_state s n) (hard_reading d s)
  pub soft : Walk
  pub soft_least : IsLeast d n (net_state s n) (soft_reading d s n) soft
  pub exactly : nets ≡ filter (λ m. not (held m)) (crossed_from d n soft 0 s.nets)
  pub some : nets ≢ []

-- a block is right for which nets are ripped, and these are held
pub record IsRipHeld (d : Design) (s : State) (held : ℕ → Bool) (n : ℕ) (soft : Walk) (ripped : List ℕ) (w : Walk) : Type 0 where
  pub right : IsRipRight d s n soft ripped w
  pub are_held : All (λ m. IsTrue (held m)) ripped

-- the block of a choice is right, and nets are named only for want of them
abbrev pub IsChoice : Design → State → (ℕ → Bool) → ℕ → Choice → Type 0
IsChoice d s held n (Wire w) = IsWireRight d s n w
IsChoice d s held n (Widen nets) = IsWidened d s held n nets
IsChoice d s held n (RipFor soft ripped w) = IsRipHeld d s held n soft ripped w
IsChoice d s held n Stuck = IsStuckRight d s n

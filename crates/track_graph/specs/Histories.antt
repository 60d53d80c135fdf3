-- Right blocks, histories of one thread, and finished ones.
use Rattle.std.specs.Prelude.{◌≡◌, ◌≢◌, ℕ, ◌+◌, ⊤, List, [], ◌∷◌, ◌++◌, Bool, false, ◌&&◌, ◌||◌, IsTrue, if◌then◌else◌, slice_get, Some, option_map}
use Rattle.std.specs.List.{list_all}
use Rattle.rt_base.specs.declared.walk.Walk.{Walk}
use Rattle.track_graph.specs.declared.design.Design.{Design}
use Rattle.track_graph.specs.declared.design.Net.{Net}
use Rattle.track_graph.specs.declared.design.NetKind.TheVariants.{Routable}
use Rattle.track_graph.specs.declared.history.Block.{Block}
use Rattle.track_graph.specs.declared.history.Block.TheVariants.{Wire, Stuck, RipFor}
use Rattle.track_graph.specs.declared.history.NetState.{NetState}
use Rattle.track_graph.specs.declared.history.State.{State}
use Rattle.track_graph.specs.Walks.{walk_shapes_of}
use Rattle.track_graph.specs.States.{net_state, net_shapes, after, first_state, state_of}
use Rattle.track_graph.specs.Readings.{hard_reading, soft_reading, reading_without, may_rip}
use Rattle.track_graph.specs.Searches.{some_conflict, IsLeast, NoneLegal}

abbrev pub IsRoutable : Design → ℕ → Type 0
IsRoutable d n = option_map (λ (net : Net). net.kind) (slice_get d.nets n) ≡ Some Routable

abbrev pub all_joined : NetState → Bool
all_joined net = list_all (λ b. b) net.joined

-- the net is routable, isn't marked stuck and has a pin that isn't joined
pub record IsWaiting (d : Design) (s : State) (n : ℕ) : Type 0 where
  pub routable : IsRoutable d n
  pub not_stuck : (net_state s n).stuck ≡ false
  pub unjoined : all_joined (net_state s n) ≡ false

-- the nets that may be ripped for net n and whose standing shapes conflict with its walk, ascending; the first of the list has number m
abbrev pub crossed_from : Design → ℕ → Walk → ℕ → List NetState → List ℕ
crossed_from d n soft m [] = []
crossed_from d n soft m (net ∷ nets) =
    (if may_rip d n m net && some_conflict d.tech (walk_shapes_of d n soft) (net_shapes d m net) then m ∷ [] else []) ++ crossed_from d n soft (m + 1) nets

pub record IsWireRight (d : Design) (s : State) (n : ℕ) (w : Walk) : Type 0 where
  pub waiting : IsWaiting d s n
  pub walk : IsLeast d n (net_state s n) (hard_reading d s) w

pub record IsStuckRight (d : Design) (s : State) (n : ℕ) : Type 0 where
  pub waiting : IsWaiting d s n
  pub none : NoneLegal d n (net_state s n) (hard_reading d s)
  pub soft_none : NoneLegal d n (net_state s n) (soft_reading d s n)

-- no walk is legal; exactly the nets that a least soft walk crosses are ripped, and the walk is least with them emptied
pub record IsRipRight (d : Design) (s : State) (n : ℕ) (soft : Walk) (ripped : List ℕ) (w : Walk) : Type 0 where
  pub waiting : IsWaiting d s n
  pub none : NoneLegal d n (net_state s n) (hard_reading d s)
  pub soft_least : IsLeast d n (net_state s n) (soft_reading d s n) soft
  pub ripped_exactly : ripped ≡ crossed_from d n soft 0 s.nets
  pub some_ripped : ripped ≢ []
  pub walk : IsLeast d n (net_state s n) (reading_without d s ripped) w

-- a block is right in a state
abbrev pub IsRight : Design → State → Block → Type 0
IsRight d s (Wire n w) = IsWireRight d s n w
IsRight d s (Stuck n) = IsStuckRight d s n
IsRight d s (RipFor n soft ripped w) = IsRipRight d s n soft ripped w

-- each block is right in the state of those before it
abbrev pub IsHistoryFrom : Design → State → List Block → Type 0
IsHistoryFrom d s [] = ⊤
IsHistoryFrom d s (b ∷ bs) = IsRight d s b × IsHistoryFrom d (after s b) bs

abbrev pub IsHistory : Design → List Block → Type 0
IsHistory d blocks = IsHistoryFrom d (first_state d) blocks

-- each routable net has all its pins joined or is marked stuck
abbrev pub IsFinished : Design → State → Type 0
IsFinished d s = (n : ℕ) → IsRoutable d n → IsTrue (all_joined (net_state s n) || (net_state s n).stuck)

-- a history after which each routable net is joined or stuck
pub record IsFinishedHistory (d : Design) (blocks : List Block) : Type 0 where
  pub history : IsHistory d blocks
  pub finished : IsFinished d (state_of d blocks)

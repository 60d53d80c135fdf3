-- A run under way: a history, the state after it, and what is left to do for a net.
use Rattle.std.specs.Prelude.{◌≡◌, ◌⊎◌, ℕ, ◌+◌, ◌-◌, ◌*◌, ◌<◌, Bool, ◌&&◌, ◌||◌, not, IsTrue, if◌then◌else◌, sum_by, List, [], ◌++◌, length, All, Contains}
use Rattle.ripup.specs.Headline.{HasBlockOf}
use Rattle.ripup.specs.declared.progress.Progress.{Progress}
use Rattle.standing_shapes.specs.Standing.{AreShapesOf}
use Rattle.track_graph.specs.declared.design.Design.{Design}
use Rattle.track_graph.specs.declared.history.Block.{Block}
use Rattle.track_graph.specs.declared.history.Block.TheVariants.{Wire, Stuck, RipFor}
use Rattle.track_graph.specs.declared.history.NetState.{NetState}
use Rattle.track_graph.specs.declared.history.State.{State}
use Rattle.track_graph.specs.Histories.{all_joined, IsHistory}
use Rattle.track_graph.specs.Orders.{net_of}
use Rattle.track_graph.specs.States.{net_state, state_of}

-- the journal is a history, the state is the one after it, and the store has the shapes of the state
pub record IsUnderWay (d : Design) (run : Progress) : Type 0 where
  pub history : IsHistory d run.journal.blocks
  pub state : run.state ≡ state_of d run.journal.blocks
  pub stored : AreShapesOf d run.state run.store

-- the net isn't marked stuck and has a pin that isn't joined
abbrev pub is_waiting : NetState → Bool
is_waiting net = not net.stuck && not (all_joined net)

-- all pins of the net are joined, or it is marked stuck
abbrev pub IsDone : State → ℕ → Type 0
IsDone s n = IsTrue (all_joined (net_state s n) || (net_state s n).stuck)

abbrev pub missing : Bool → ℕ
missing joined = if joined then 0 else 1

-- how many pins are still to be joined; none once the net is marked stuck
abbrev pub work_left : NetState → ℕ
work_left net = if net.stuck then 0 else sum_by missing net.joined

-- what may still be done for a net: a rip that it has left counts for more than what is lost by it
abbrev pub effort_of : ℕ → NetState → ℕ
effort_of rips net = (rips - net.rips) * (length net.joined + 2) + work_left net

abbrev pub effort_left : Design → State → ℕ
effort_left d s = sum_by (effort_of d.options.rips) s.nets

-- the nets that a block rips
abbrev pub ripped_by : Block → List ℕ
ripped_by (Wire n w) = []
ripped_by (Stuck n) = []
ripped_by (RipFor n soft ripped w) = ripped

-- the blocks go on from these, with blocks of one net and of nets that have some before
pub record AddsFor (net : ℕ) (blocks before : List Block) : Type 0 where
  pub added : List Block
  pub whole : blocks ≡ before ++ added
  pub of_nets : All (λ b. (net_of b ≡ net) ⊎ HasBlockOf before (net_of b)) added

-- a net was taken from those that are to be taken, got some blocks, and left others to be taken
pub record IsTurn (d : Design) (net : ℕ) (run old : Progress) (todo before : List ℕ) : Type 0 where
  pub under_way : IsUnderWay d run
  pub added : List Block
  pub whole : run.journal.blocks ≡ old.journal.blocks ++ added
  pub of_net : All (λ b. net_of b ≡ net) added
  pub done : (m : ℕ) → (m ≡ net) ⊎ IsDone old.state m → IsDone run.state m ⊎ Contains todo m
  pub keeps : (m : ℕ) → Contains before m → Contains todo m
  pub only : (m : ℕ) → Contains todo m → Contains before m ⊎ ((m ≡ net) ⊎ HasBlockOf old.journal.blocks m)
  pub less : effort_left d run.state + length todo < effort_left d old.state + (length before + 1)

-- since a run began, only a net and nets that had blocks got some, and what was done then, and the net, is done or still to be taken
pub record IsSettling (d : Design) (net : ℕ) (run start : Progress) (todo : List ℕ) : Type 0 where
  pub under_way : IsUnderWay d run
  pub adds : AddsFor net run.journal.blocks start.journal.blocks
  pub done : (m : ℕ) → (m ≡ net) ⊎ IsDone start.state m → IsDone run.state m ⊎ Contains todo m
  pub only : (m : ℕ) → Contains todo m → (m ≡ net) ⊎ HasBlockOf start.journal.blocks m

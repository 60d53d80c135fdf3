-- What a finished journal promises: no rule of spacing is broken at any time, each wire is least at its place, nets are ripped only where no walk is legal, exactly those that a least soft walk crosses, and a net is given up only where it has no walk.
use Rattle.std.specs.Prelude.{◌≡◌, ◌≢◌, ℕ, ◌<◌, List, [], ◌∷◌, ◌++◌, false, not, slice_get, Some, Contains}
use Rattle.rt_base.specs.declared.tech.Shape.{Shape}
use Rattle.rt_base.specs.declared.tech.Tech.{Tech}
use Rattle.rt_base.specs.declared.walk.Walk.{Walk}
use Rattle.rt_base.specs.Conflict.{conflict_of}
use Rattle.track_graph.specs.Readings.{hard_reading, soft_reading, reading_without}
use Rattle.track_graph.specs.declared.design.Design.{Design}
use Rattle.track_graph.specs.declared.history.Block.{Block}
use Rattle.track_graph.specs.declared.history.Block.TheVariants.{Wire, Stuck, RipFor}
use Rattle.track_graph.specs.declared.history.State.{State}
use Rattle.track_graph.specs.Histories.{all_joined, crossed_from, IsRoutable}
use Rattle.track_graph.specs.Orders.{net_of, IsBefore, IsFirstOfNet}
use Rattle.track_graph.specs.Rules.{BreaksNoRule}
use Rattle.track_graph.specs.Searches.{IsLeast, NoneLegal}
use Rattle.track_graph.specs.States.{net_state, state_of, standing}

-- the blocks begin with these
abbrev pub BeginsWith : List Block → List Block → Type 0
BeginsWith blocks before = (rest : List Block) × (blocks ≡ before ++ rest)

-- one of these blocks is of this net
abbrev pub HasBlockOf : List Block → ℕ → Type 0
HasBlockOf blocks n = (i : ℕ) × (b : Block) × (slice_get blocks i ≡ Some b) × (net_of b ≡ n)

-- among the blocks added the nets without a block before are first taken in their order
abbrev pub AreFirstTakenInOrder : Design → List Block → List Block → Type 0
AreFirstTakenInOrder d before added =
    (i j : ℕ) (a b : Block) → i < j → slice_get added i ≡ Some a → slice_get added j ≡ Some b
    → (HasBlockOf before (net_of a) → ⊥) → (HasBlockOf before (net_of b) → ⊥) → IsFirstOfNet added j b → IsBefore d (net_of a) (net_of b)

-- they begin with these, and the nets that have no block among these are first taken in their order
pub record GoesOnInOrder (d : Design) (blocks before : List Block) : Type 0 where
  pub added : List Block
  pub whole : blocks ≡ before ++ added
  pub order : AreFirstTakenInOrder d before added

-- among the blocks this one stands, and these are all those before it
abbrev pub StandsBehind : List Block → List Block → Block → Type 0
StandsBehind blocks before b = (rest : List Block) × (blocks ≡ before ++ b ∷ rest)

-- no two of these shapes conflict
abbrev pub NoneConflict : Tech → List Shape → Type 0
NoneConflict tech shapes = (a b : Shape) → Contains shapes a → Contains shapes b → conflict_of tech a b ≡ false

-- at any time no wire conflicts with a shape of another owner, and where no two fixed shapes conflict no two shapes do
pub record IsClearAtAnyTime (d : Design) (blocks : List Block) : Type 0 where
  pub wires : (before : List Block) → BeginsWith blocks before → BreaksNoRule d (state_of d before)
  pub shapes : NoneConflict d.tech d.fixed → (before : List Block) → BeginsWith blocks before → NoneConflict d.tech (d.fixed ++ standing d (state_of d before))

-- the walk is legal, and no legal walk of the net costs less
abbrev pub IsLeastIn : Design → State → ℕ → Walk → Type 0
IsLeastIn d s n w = IsLeast d n (net_state s n) (hard_reading d s) w

-- the net has no legal walk, nor one where the wires of nets that may be ripped don't forbid
pub record HasNoWalk (d : Design) (s : State) (n : ℕ) : Type 0 where
  pub hard : NoneLegal d n (net_state s n) (hard_reading d s)
  pub soft : NoneLegal d n (net_state s n) (soft_reading d s n)

-- the walk is least with these nets emptied
abbrev pub IsLeastWithout : Design → State → List ℕ → ℕ → Walk → Type 0
IsLeastWithout d s absent n w = IsLeast d n (net_state s n) (reading_without d s absent) w

-- each wire is least in the state of the blocks before it, and one for which nets are ripped with them emptied
pub record IsLeastAtItsPlace (d : Design) (blocks : List Block) : Type 0 where
  pub wire : (before : List Block) (n : ℕ) (w : Walk) → StandsBehind blocks before (Wire n w) → IsLeastIn d (state_of d before) n w
  pub rip_for : (before : List Block) (n : ℕ) (soft : Walk) (ripped : List ℕ) (w : Walk) → StandsBehind blocks before (RipFor n soft ripped w) → IsLeastWithout d (state_of d before) ripped n w

-- no walk is legal; exactly the nets that may be ripped and that a least soft walk crosses are ripped, at least one
pub record IsRippedForWant (d : Design) (s : State) (n : ℕ) (soft : Walk) (ripped : List ℕ) : Type 0 where
  pub none : NoneLegal d n (net_state s n) (hard_reading d s)
  pub soft_least : IsLeast d n (net_state s n) (soft_reading d s n) soft
  pub exactly : ripped ≡ crossed_from d n soft 0 s.nets
  pub some : ripped ≢ []

-- nets are ripped only so
abbrev pub AreRippedForWant : Design → List Block → Type 0
AreRippedForWant d blocks = (before : List Block) (n : ℕ) (soft : Walk) (ripped : List ℕ) (w : Walk) → StandsBehind blocks before (RipFor n soft ripped w) → IsRippedForWant d (state_of d before) n soft ripped

-- a mark stands only where the net has no walk
abbrev pub IsStuckForWant : Design → List Block → Type 0
IsStuckForWant d blocks = (before : List Block) (n : ℕ) → StandsBehind blocks before (Stuck n) → HasNoWalk d (state_of d before) n

-- at the end exactly those routable nets are marked that have a pin that isn't joined, and the mark of each stands among the blocks
pub record AreMarked (d : Design) (blocks : List Block) : Type 0 where
  pub exactly : (n : ℕ) → IsRoutable d n → (net_state (state_of d blocks) n).stuck ≡ not (all_joined (net_state (state_of d blocks) n))
  pub by_block : (n : ℕ) → IsRoutable d n → all_joined (net_state (state_of d blocks) n) ≡ false → (before : List Block) × StandsBehind blocks before (Stuck n)

pub record IsHeadline (d : Design) (blocks : List Block) : Type 0 where
  pub clear : IsClearAtAnyTime d blocks
  pub least : IsLeastAtItsPlace d blocks
  pub rips : AreRippedForWant d blocks
  pub stuck : IsStuckForWant d blocks
  pub marked : AreMarked d blocks

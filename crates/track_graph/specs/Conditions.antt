-- What makes a block, a journal or a state one of a design: its nets, pins, entries, vertices and edges exist, the edges of each walk follow each other, and each walk finishes where they end, at an entry of a pin.
use Rattle.std.specs.Prelude.{◌≡◌, ℕ, ◌<◌, List, length, All}
use Rattle.rt_base.specs.declared.walk.Walk.{Walk}
use Rattle.track_graph.specs.declared.design.Design.{Design}
use Rattle.track_graph.specs.declared.history.Block.{Block}
use Rattle.track_graph.specs.declared.history.Block.TheVariants.{Wire, Stuck, RipFor}
use Rattle.track_graph.specs.declared.history.State.{State}
use Rattle.track_graph.specs.Entries.{pins_of}
use Rattle.track_graph.specs.NetWalks.{IsWalkOf}
use Rattle.track_graph.specs.States.{net_state}

abbrev pub IsNetOf : Design → ℕ → Type 0
IsNetOf d n = n < length d.nets

-- both walks are of net n, and the nets that are ripped are the design's
pub record IsRipOf (d : Design) (n : ℕ) (soft : Walk) (ripped : List ℕ) (w : Walk) : Type 0 where
  pub nets : All (IsNetOf d) ripped
  pub soft_walk : IsWalkOf d n soft
  pub walk : IsWalkOf d n w

-- a block of the design
abbrev pub IsBlockOf : Design → Block → Type 0
IsBlockOf d (Wire n w) = IsWalkOf d n w
IsBlockOf d (Stuck n) = IsNetOf d n
IsBlockOf d (RipFor n soft ripped w) = IsRipOf d n soft ripped w

-- a journal of the design
abbrev pub IsJournalOf : Design → List Block → Type 0
IsJournalOf d blocks = All (IsBlockOf d) blocks

-- the state has each net of the design, tells of each of its pins whether it is joined, and has no walk but of the net
pub record IsStateOf (d : Design) (s : State) : Type 0 where
  pub nets : length s.nets ≡ length d.nets
  pub pins : (n : ℕ) → length (net_state s n).joined ≡ length (pins_of d n)
  pub walks : (n : ℕ) → All (IsWalkOf d n) (net_state s n).walks

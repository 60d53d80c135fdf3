-- Walks of a net by themselves, whatever stands of it: what the shapes and the strokes of a walk are told of.
use Rattle.std.specs.Prelude.{◌≡◌, ◌⊎◌, ℕ, ◌<◌, length, Some, Contains}
use Rattle.rt_base.specs.declared.walk.Entry.{Entry}
use Rattle.rt_base.specs.declared.walk.EntryKind.TheVariants.{Wire as OnWire}
use Rattle.rt_base.specs.declared.walk.Walk.{Walk}
use Rattle.track_graph.specs.declared.design.Design.{Design}
use Rattle.track_graph.specs.Levels.{track_system_of, IsVertex}
use Rattle.track_graph.specs.Entries.{entries_of, pins_of, pin_of}
use Rattle.track_graph.specs.Walks.{IsPath, end_of}

-- an entry of a pin of net n, or a vertex of a wire
abbrev pub IsNetEntry : Design → ℕ → Entry → Type 0
IsNetEntry d n e = ((pin : ℕ) × Contains (entries_of d n pin) e) ⊎ ((e.kind ≡ OnWire) × IsVertex (track_system_of d) e.vertex)

-- net n is one of the design's, both entries are its own, and the edges exist and follow each other
pub record IsNetWalk (d : Design) (n : ℕ) (w : Walk) : Type 0 where
  pub net : n < length d.nets
  pub start : IsNetEntry d n w.start
  pub path : IsPath (track_system_of d) w.start.vertex w.edges
  pub finish : IsNetEntry d n w.finish

-- an entry of this pin of net n, which it names
pub record IsEntryOfPin (d : Design) (n : ℕ) (e : Entry) (pin : ℕ) : Type 0 where
  pub named : pin_of e.kind ≡ Some pin
  pub is_pin : pin < length (pins_of d n)
  pub entry : Contains (entries_of d n pin) e

-- and it finishes where its edges end, at an entry of a pin of net n
pub record IsWalkOf (d : Design) (n : ℕ) (w : Walk) : Type 0 where
  pub net_walk : IsNetWalk d n w
  pub arrives : end_of w.start.vertex w.edges ≡ w.finish.vertex
  pub at_pin : (pin : ℕ) × IsEntryOfPin d n w.finish pin

-- Where walks of a net may start and finish, and the stops that stand for them.
use Rattle.std.specs.Prelude.{◌≡◌, ◌⊎◌, ℕ, List, [], ◌∷◌, ◌++◌, Bool, true, false, if◌then◌else◌, map, flat_map, Contains}
use Rattle.rt_base.specs.declared.walk.Edge.{Edge}
use Rattle.rt_base.specs.declared.walk.Entry.{Entry}
use Rattle.rt_base.specs.declared.walk.EntryKind.TheVariants.{Wire as OnWire}
use Rattle.rt_base.specs.declared.walk.Vertex.{Vertex}
use Rattle.rt_base.specs.declared.walk.Walk.{Walk}
use Rattle.track_graph.specs.declared.design.Design.{Design}
use Rattle.track_graph.specs.declared.design.Pin.{Pin}
use Rattle.track_graph.specs.NetWalks.{IsNetEntry}
use Rattle.track_graph.specs.Walks.{vertices_of}
use Rattle.track_graph.specs.Searches.{Reading}
use Rattle.plain_route.specs.Ground.{IsStopAt}
use Rattle.least_walk.specs.declared.graph.Stop.{Stop}

abbrev pub on_wire : Vertex → Entry
on_wire v = record { vertex = v; kind = OnWire }

-- the entries at the ends of edges
abbrev pub ends_of : List Edge → List Entry
ends_of [] = []
ends_of (e ∷ es) = on_wire e.to ∷ ends_of es

-- the entries at the vertices of a walk, and of walks
abbrev pub entries_on : Walk → List Entry
entries_on w = map on_wire (vertices_of w.start.vertex w.edges)

abbrev pub wire_entries : List Walk → List Entry
wire_entries walks = flat_map entries_on walks

-- one truth value as the other
abbrev pub is_same : Bool → Bool → Bool
is_same true b = b
is_same false true = false
is_same false false = true

-- the entries of a pin that is joined as is wanted
abbrev pub wanted_entries : Bool → Bool → Pin → List Entry
wanted_entries wanted joined p = if is_same joined wanted then p.entries else []

-- the entries of those pins that are joined, or of those that aren't
abbrev pub pin_entries : Bool → List Bool → List Pin → List Entry
pin_entries wanted [] pins = []
pin_entries wanted (b ∷ bs) [] = []
pin_entries wanted (b ∷ bs) (p ∷ ps) = wanted_entries wanted b p ++ pin_entries wanted bs ps

-- entries of net n
abbrev pub AreNetEntries : Design → ℕ → List Entry → Type 0
AreNetEntries d n entries = (e : Entry) → Contains entries e → IsNetEntry d n e

-- exactly the entries of net n that are sought
pub record AreEntries (d : Design) (n : ℕ) (Sought : Entry → Type 0) (entries : List Entry) : Type 0 where
  pub only : (e : Entry) → Contains entries e → Sought e
  pub has : (e : Entry) → Sought e → Contains entries e
  pub fit : AreNetEntries d n entries

-- new is old with the stop of an entry, if it is open
pub record AddsStop (d : Design) (n : ℕ) (r : Reading) (e : Entry) (old new : List Stop) : Type 0 where
  pub keeps : (s : Stop) → Contains old s → Contains new s
  pub only : (s : Stop) → Contains new s → Contains old s ⊎ ((s.entry ≡ e) × IsStopAt d n r e s.cost)
  pub has : (c : ℕ) → IsStopAt d n r e c → Contains new (record { entry = e; cost = c })

-- exactly the stops of the open ones of these entries
pub record AreStops (d : Design) (n : ℕ) (r : Reading) (entries : List Entry) (stops : List Stop) : Type 0 where
  pub only : (s : Stop) → Contains stops s → Contains entries s.entry × IsStopAt d n r s.entry s.cost
  pub has : (e : Entry) (c : ℕ) → Contains entries e → IsStopAt d n r e c → Contains stops (record { entry = e; cost = c })

-- Where walks of a net may start and finish.
use Rattle.std.specs.Prelude.{◌≡◌, ℕ, List, Bool, Any, Contains, slice_get, Some}
use Rattle.rt_base.specs.declared.walk.Entry.{Entry}
use Rattle.rt_base.specs.declared.walk.Vertex.{Vertex}
use Rattle.rt_base.specs.declared.walk.Walk.{Walk}
use Rattle.track_graph.specs.declared.design.Design.{Design}
use Rattle.track_graph.specs.Entries.{entries_of}
use Rattle.track_graph.specs.Walks.{vertices_of}

-- an entry of a pin of net n that is joined as is wanted
abbrev pub IsAtPin : Design → ℕ → List Bool → Bool → Entry → Type 0
IsAtPin d n joined wanted e = (pin : ℕ) × (slice_get joined pin ≡ Some wanted) × Contains (entries_of d n pin) e

-- a vertex of one of these walks
abbrev pub IsOnWalks : List Walk → Vertex → Type 0
IsOnWalks walks v = Any (λ (w : Walk). Contains (vertices_of w.start.vertex w.edges) v) walks

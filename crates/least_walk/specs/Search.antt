use Rattle.std.specs.Prelude.{◌≡◌, ◌≢◌, ◌⊎◌, ℕ, ◌+◌, ◌≤◌, ◌<◌, Bool, true, false, List, [], ◌∷◌, ◌++◌, slice_get, slice_set, unwrap_or, Some, None, Option, Contains, length}
use Rattle.rt_base.specs.declared.walk.Vertex.{Vertex}
use Rattle.rt_base.specs.declared.walk.Edge.{Edge}
use Rattle.least_walk.specs.declared.graph.Stop.{Stop}
use Rattle.least_walk.specs.declared.label.Label.{Label}
use Rattle.least_walk.specs.declared.label.Search.{Search}
use Rattle.least_walk.specs.Known.{number_of, Sets}
use Rattle.least_walk.specs.Queue.{IsWithOneMore}
use Rattle.least_walk.specs.Labels.{label_at, vertex_at, dist_at, key_at, AreLabels}

-- label k is settled
abbrev pub IsSettled : List Bool → ℕ → Type 0
IsSettled flags k = slice_get flags k ≡ Some true

-- label k is the least of its vertex, and isn't settled
abbrev pub IsFresh : List Label → List Bool → List (Vertex × ℕ) → ℕ → Type 0
IsFresh ls flags known k = (number_of known (vertex_at ls k) ≡ Some k) × (slice_get flags k ≡ Some false)

-- v has a label of distance c at most
pub record IsCovered (ls : List Label) (known : List (Vertex × ℕ)) (v : Vertex) (c : ℕ) : Type 0 where
  pub number : ℕ
  pub is_number : number_of known v ≡ Some number
  pub cheap : dist_at ls number ≤ c

-- the least label of each vertex is settled or waits, and what waits has no lesser key than what is settled
pub record AreFiled (ls : List Label) (flags : List Bool) (known : List (Vertex × ℕ)) (q : List (ℕ × ℕ)) : Type 0 where
  pub count : length flags ≡ length ls
  pub queued : (d k : ℕ) → Contains q (d, k) → (k < length ls) × (d ≡ key_at ls k)
  pub mapped : (v : Vertex) (n : ℕ) → number_of known v ≡ Some n → (n < length ls) × (vertex_at ls n ≡ v) × (IsSettled flags n ⊎ Contains q (key_at ls n, n))
  pub kept : (k : ℕ) → IsSettled flags k → number_of known (vertex_at ls k) ≡ Some k
  pub ordered : (j d k : ℕ) → IsSettled flags j → Contains q (d, k) → key_at ls j ≤ d

-- the labels of a search are filed in this way
abbrev pub IsFiled : Search → Type 0
IsFiled s = AreFiled s.labels.items s.settled.items s.known s.queue

-- new is old with a label at the end
pub record Adds (old new : Search) (label : Label) : Type 0 where
  pub labels : new.labels.items ≡ old.labels.items ++ label ∷ []
  pub settled : new.settled.items ≡ old.settled.items ++ false ∷ []
  pub known : Sets label.vertex (length old.labels.items) old.known new.known
  pub queue : IsWithOneMore (label.key, length old.labels.items) old.queue new.queue

-- the old labels are there, and what was settled is settled
pub record Extends (ls ms : List Label) (flags later : List Bool) : Type 0 where
  pub longer : length ls ≤ length ms
  pub same : (k : ℕ) → k < length ls → label_at ms k ≡ label_at ls k
  pub settled : (k : ℕ) → IsSettled later k → IsSettled flags k
  pub stays : (k : ℕ) → IsSettled flags k → IsSettled later k

-- the old labels of a search are there, and what was settled is settled
abbrev pub Keeps : Search → Search → Type 0
Keeps old new = Extends old.labels.items new.labels.items old.settled.items new.settled.items

-- label k is settled now, of least key among those that waited
pub record Settles (old new : Search) (k : ℕ) : Type 0 where
  pub labels : new.labels.items ≡ old.labels.items
  pub known : new.known ≡ old.known
  pub in_labels : k < length old.labels.items
  pub fresh : IsFresh old.labels.items old.settled.items old.known k
  pub settled : new.settled.items ≡ slice_set old.settled.items k true
  pub first : (d j : ℕ) → Contains new.queue (d, j) → key_at old.labels.items k ≤ d
  pub top : (j : ℕ) → IsSettled old.settled.items j → key_at old.labels.items j ≤ key_at old.labels.items k

-- only the queue may differ
pub record OnlyQueue (old new : Search) : Type 0 where
  pub labels : new.labels.items ≡ old.labels.items
  pub known : new.known ≡ old.known
  pub settled : new.settled.items ≡ old.settled.items

-- whether a vertex is settled
abbrev pub is_settled_at : List Bool → Option ℕ → Bool
is_settled_at flags None = false
is_settled_at flags (Some n) = unwrap_or (slice_get flags n) false

-- one more, if it isn't settled
abbrev pub one_more_if_open : Bool → ℕ → ℕ
one_more_if_open true n = n
one_more_if_open false n = n + 1

-- how many vertices aren't settled
abbrev pub open_count : List Bool → List (Vertex × ℕ) → List Vertex → ℕ
open_count flags known [] = 0
open_count flags known (v ∷ vs) = one_more_if_open (is_settled_at flags (number_of known v)) (open_count flags known vs)

-- each source leads to a label of no greater distance
abbrev pub AreSourcesIn : List Label → List (Vertex × ℕ) → List Stop → Type 0
AreSourcesIn ls known sources = (i : ℕ) (x : Stop) → slice_get sources i ≡ Some x → IsCovered ls known x.entry.vertex x.cost

-- each source and each edge from a settled vertex leads to a label of no greater distance
pub record AreSound (vertices : List Vertex) (HasEdge : Vertex → Edge → ℕ → Type 0) (bound_of : Vertex → ℕ) (sources : List Stop) (ls : List Label) (flags : List Bool) (known : List (Vertex × ℕ)) (q : List (ℕ × ℕ)) : Type 0 where
  pub filed : AreFiled ls flags known q
  pub labels : AreLabels vertices HasEdge bound_of sources ls
  pub sources_in : AreSourcesIn ls known sources
  pub edges_in : (k : ℕ) (e : Edge) (c : ℕ) → IsSettled flags k → HasEdge (vertex_at ls k) e c → IsCovered ls known e.to (dist_at ls k + c)

-- the labels of a search are sound
abbrev pub IsSound : List Vertex → (Vertex → Edge → ℕ → Type 0) → (Vertex → ℕ) → List Stop → Search → Type 0
IsSound vertices HasEdge bound_of sources s = AreSound vertices HasEdge bound_of sources s.labels.items s.settled.items s.known s.queue

-- the same but for the edges from label k, which was settled last and of which these are done
pub record AreMid (vertices : List Vertex) (HasEdge : Vertex → Edge → ℕ → Type 0) (bound_of : Vertex → ℕ) (sources : List Stop) (ls : List Label) (flags : List Bool) (known : List (Vertex × ℕ)) (q : List (ℕ × ℕ)) (k : ℕ) (done : List Edge) : Type 0 where
  pub filed : AreFiled ls flags known q
  pub labels : AreLabels vertices HasEdge bound_of sources ls
  pub sources_in : AreSourcesIn ls known sources
  pub settled : IsSettled flags k
  pub first : (d j : ℕ) → Contains q (d, j) → key_at ls k ≤ d
  pub top : (j : ℕ) → IsSettled flags j → key_at ls j ≤ key_at ls k
  pub edges_in : (j : ℕ) (e : Edge) (c : ℕ) → IsSettled flags j → j ≢ k → HasEdge (vertex_at ls j) e c → IsCovered ls known e.to (dist_at ls j + c)
  pub done_in : (e : Edge) (c : ℕ) → Contains done e → HasEdge (vertex_at ls k) e c → IsCovered ls known e.to (dist_at ls k + c)

-- the labels of a search are so
abbrev pub IsMid : List Vertex → (Vertex → Edge → ℕ → Type 0) → (Vertex → ℕ) → List Stop → Search → ℕ → List Edge → Type 0
IsMid vertices HasEdge bound_of sources s k done = AreMid vertices HasEdge bound_of sources s.labels.items s.settled.items s.known s.queue k done

-- nothing is settled, and the first i sources lead to labels
pub record AreStarted (vertices : List Vertex) (HasEdge : Vertex → Edge → ℕ → Type 0) (bound_of : Vertex → ℕ) (sources : List Stop) (i : ℕ) (ls : List Label) (flags : List Bool) (known : List (Vertex × ℕ)) (q : List (ℕ × ℕ)) : Type 0 where
  pub filed : AreFiled ls flags known q
  pub labels : AreLabels vertices HasEdge bound_of sources ls
  pub none_settled : (k : ℕ) → IsSettled flags k → ⊥
  pub sources_in : (j : ℕ) (x : Stop) → j < i → slice_get sources j ≡ Some x → IsCovered ls known x.entry.vertex x.cost

-- a search has started so
abbrev pub IsStarted : List Vertex → (Vertex → Edge → ℕ → Type 0) → (Vertex → ℕ) → List Stop → ℕ → Search → Type 0
IsStarted vertices HasEdge bound_of sources i s = AreStarted vertices HasEdge bound_of sources i s.labels.items s.settled.items s.known s.queue

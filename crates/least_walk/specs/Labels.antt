use Rattle.std.specs.Prelude.{◌≡◌, ℕ, ◌+◌, ◌-◌, ◌*◌, ◌≤◌, ◌<◌, ◌^◌, pos, List, [], ◌∷◌, slice_get, unwrap_or, Some, Contains, length}
use Rattle.rt_base.specs.declared.walk.Vertex.{Vertex}
use Rattle.rt_base.specs.declared.walk.Edge.{Edge}
use Rattle.least_walk.specs.declared.graph.Stop.{Stop}
use Rattle.least_walk.specs.declared.label.Label.{Label}
use Rattle.least_walk.specs.declared.label.Origin.{Origin}
use Rattle.least_walk.specs.declared.label.Origin.TheVariants.{Source, After}

-- what is read where there is no label
abbrev pub no_label : Label
no_label = record { vertex = record { level = 0; point = record { x = pos 0; y = pos 0 } }; dist = 0; key = 0; origin = Source 0 }

-- label k
abbrev pub label_at : List Label → ℕ → Label
label_at ls k = unwrap_or (slice_get ls k) no_label

-- its vertex
abbrev pub vertex_at : List Label → ℕ → Vertex
vertex_at ls k = (label_at ls k).vertex

-- its distance
abbrev pub dist_at : List Label → ℕ → ℕ
dist_at ls k = (label_at ls k).dist

-- its key
abbrev pub key_at : List Label → ℕ → ℕ
key_at ls k = (label_at ls k).key

-- the dearest stop or edge
abbrev pub most_cost : ℕ
most_cost = 2 ^ 64 - 1

-- label k with this origin stands at v at this distance
abbrev pub IsOrigin : (Vertex → Edge → ℕ → Type 0) → List Stop → List Label → ℕ → Vertex → ℕ → Origin → Type 0
IsOrigin HasEdge sources ls k v d (Source i) = (s : Stop) × (slice_get sources i ≡ Some s) × (v ≡ s.entry.vertex) × (d ≡ s.cost)
IsOrigin HasEdge sources ls k v d (After j kind) = (c : ℕ) × (j < k) × HasEdge (vertex_at ls j) (record { kind = kind; to = v }) c × (d ≡ dist_at ls j + c)

-- label k may be this one
pub record IsLabel (vertices : List Vertex) (HasEdge : Vertex → Edge → ℕ → Type 0) (bound_of : Vertex → ℕ) (sources : List Stop) (ls : List Label) (k : ℕ) (x : Label) : Type 0 where
  pub source : IsOrigin HasEdge sources ls k x.vertex x.dist x.origin
  pub within : Contains vertices x.vertex
  pub is_key : x.key ≡ x.dist + bound_of x.vertex
  pub small : x.dist ≤ most_cost * (k + 1)

-- each label is as it may be
abbrev pub AreLabels : List Vertex → (Vertex → Edge → ℕ → Type 0) → (Vertex → ℕ) → List Stop → List Label → Type 0
AreLabels vertices HasEdge bound_of sources ls = (k : ℕ) → k < length ls → IsLabel vertices HasEdge bound_of sources ls k (label_at ls k)

-- each label comes after one of lesser number, or is of a source
abbrev pub OriginsFall : List Label → Type 0
OriginsFall ls = (k j : ℕ) → k < length ls → (kind : _) → (label_at ls k).origin ≡ After j kind → j < k

-- edges from label j on, each from one label to the next, to label k
abbrev pub IsTrail : List Label → ℕ → List Edge → ℕ → Type 0
IsTrail ls j [] k = j ≡ k
IsTrail ls j (e ∷ es) k = (n : ℕ) × (n < length ls) × ((label_at ls n).origin ≡ After j e.kind) × (vertex_at ls n ≡ e.to) × IsTrail ls n es k

-- they start at the label of source i
pub record IsTrailFrom (ls : List Label) (i : ℕ) (es : List Edge) (k : ℕ) : Type 0 where
  pub first : ℕ
  pub in_labels : first < length ls
  pub is_source : (label_at ls first).origin ≡ Source i
  pub trail : IsTrail ls first es k

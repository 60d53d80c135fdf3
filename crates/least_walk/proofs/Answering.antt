-- The best finish of a search that came to its end.
use Rattle.std.proofs.Common.{◌≡◌, subst, ℕ, List, Option, Some, None, IfSome, IfNone, option_map, slice_get, refl}
use Rattle.rt_base.specs.declared.walk.Vertex.{Vertex}
use Rattle.rt_base.specs.declared.walk.Edge.{Edge}
use Rattle.least_walk.specs.declared.graph.Stop.{Stop}
use Rattle.least_walk.specs.declared.label.Search.{Search}
use Rattle.least_walk.specs.declared.label.Best.{Best}
use Rattle.least_walk.specs.Queue.{NoneBelow}
use Rattle.least_walk.specs.Routes.{HasNoRoute, IsGraph, AreStarts, AreEnds}
use Rattle.least_walk.specs.Search.{IsSound}
use Rattle.least_walk.specs.Ends.{IsUnderway, IsLeastFinish}
use Rattle.least_walk.specs.Flood.{AreKnown}
use Rattle.least_walk.proofs.Reaching.{place_of, none_from_search, least_from_search}

module _ (vertices : List Vertex) (HasEdge : Vertex → Edge → ℕ → Type 0) (bound_of : Vertex → ℕ) (sources targets : List Stop) (graph : IsGraph vertices HasEdge bound_of) (starts : AreStarts vertices sources) (ends : AreEnds vertices bound_of targets) (s : Search) where
  pub least_found : (best : Option Best) → IsUnderway vertices HasEdge bound_of sources targets s best → NoneBelow (option_map (λ (b : Best). b.cost) best) s.queue → IfSome best (IsLeastFinish HasEdge sources targets s)
  least_found None u below = tt
  least_found (Some b) u below = record {
    finish = u.is_best.is_finish b refl;
    least = least_from_search vertices HasEdge bound_of sources targets graph ends s u.sound starts b u.is_best below;
  }

  pub none_found : (best : Option Best) → IsUnderway vertices HasEdge bound_of sources targets s best → NoneBelow (option_map (λ (b : Best). b.cost) best) s.queue → IfNone best (HasNoRoute HasEdge sources targets)
  none_found None u below = none_from_search vertices HasEdge bound_of sources targets graph ends s u.sound starts u.is_best below
  none_found (Some b) u below = tt

-- the search has labels for its sources
pub sources_known : (vertices : List Vertex) (HasEdge : Vertex → Edge → ℕ → Type 0) (bound_of : Vertex → ℕ) (sources : List Stop) (s : Search) → IsSound vertices HasEdge bound_of sources s → AreKnown s.known sources
sources_known vertices HasEdge bound_of sources s sound x h =
    let i : (i : ℕ) × (slice_get sources i ≡ Some x) = place_of sources x h in
    let covered = sound.sources_in i.0 x i.1 in
    (covered.number, covered.is_number)

-- the finish that was found
pub finish_of : (HasEdge : Vertex → Edge → ℕ → Type 0) (sources targets : List Stop) (s : Search) (o : Option Best) (b : Best) → o ≡ Some b → IfSome o (IsLeastFinish HasEdge sources targets s) → IsLeastFinish HasEdge sources targets s b
finish_of HasEdge sources targets s o b e h = subst (λ (p : Option Best). IfSome p (IsLeastFinish HasEdge sources targets s)) e h

-- Searches of a net: which walks are legal, which are least, and when there is none. A search asks of what stands nothing but the net's own walks and pins, and which shapes forbid or are dear.
use Rattle.std.specs.Prelude.{◌≡◌, ◌⊎◌, ℕ, ◌*◌, ◌≤◌, List, [], Bool, true, false, if◌then◌else◌, slice_get, Some, Any, Contains, option_map, unwrap_or, sum_by}
use Rattle.std.specs.List.{list_any}
use Rattle.rt_base.specs.declared.tech.Shape.{Shape}
use Rattle.rt_base.specs.declared.tech.Tech.{Tech}
use Rattle.rt_base.specs.declared.walk.Entry.{Entry}
use Rattle.rt_base.specs.declared.walk.EntryKind.TheVariants.{Wire as OnWire}
use Rattle.rt_base.specs.declared.walk.Walk.{Walk}
use Rattle.rt_base.specs.Conflict.{conflict_of}
use Rattle.track_graph.specs.declared.design.Design.{Design}
use Rattle.track_graph.specs.declared.design.Net.{Net}
use Rattle.track_graph.specs.declared.history.NetState.{NetState}
use Rattle.track_graph.specs.Levels.{track_system_of}
use Rattle.track_graph.specs.Guide.{Guide, InGuide}
use Rattle.track_graph.specs.Metal.{Metal, shapes_of}
use Rattle.track_graph.specs.Entries.{entries_of}
use Rattle.track_graph.specs.Walks.{IsPath, end_of, vertices_of, PathInGuide, walk_parts, walk_shapes_of}

-- which shapes forbid a walk, and which are dear: a part that conflicts with a dear one costs eight times as much
pub record Reading : Type 0 where
  pub forbidding : List Shape
  pub dear : List Shape

-- a shape of the one list conflicts with a shape of the other
abbrev pub some_conflict : Tech → List Shape → List Shape → Bool
some_conflict tech mine others = list_any (λ a. list_any (conflict_of tech a) others) mine

-- an entry of a joined pin, or a vertex of a standing walk
abbrev pub IsStart : Design → ℕ → NetState → Entry → Type 0
IsStart d n own e =
    ((pin : ℕ) × (slice_get own.joined pin ≡ Some true) × Contains (entries_of d n pin) e)
    ⊎ ((e.kind ≡ OnWire) × Any (λ (w : Walk). Contains (vertices_of w.start.vertex w.edges) e.vertex) own.walks)

-- an entry of a pin that isn't joined
abbrev pub IsFinish : Design → ℕ → NetState → Entry → Type 0
IsFinish d n own e = (pin : ℕ) × (slice_get own.joined pin ≡ Some false) × Contains (entries_of d n pin) e

-- a walk of net n: it finishes where its edges end
pub record IsWalk (d : Design) (n : ℕ) (own : NetState) (w : Walk) : Type 0 where
  pub start : IsStart d n own w.start
  pub path : IsPath (track_system_of d) w.start.vertex w.edges
  pub arrives : end_of w.start.vertex w.edges ≡ w.finish.vertex
  pub finish : IsFinish d n own w.finish

-- the guide of a net, no box where there is no such net
abbrev pub guide_of : Design → ℕ → Guide
guide_of d n = unwrap_or (option_map (λ (net : Net). net.guide) (slice_get d.nets n)) []

-- both ends and each edge of a walk lie in the net's guide
pub record IsInside (d : Design) (n : ℕ) (w : Walk) : Type 0 where
  pub start : InGuide (guide_of d n) w.start.vertex.level w.start.vertex.point
  pub finish : InGuide (guide_of d n) w.finish.vertex.level w.finish.vertex.point
  pub path : PathInGuide (guide_of d n) w.start.vertex w.edges

-- a walk inside the net's guide, none of whose shapes conflicts with a forbidding one
pub record IsLegal (d : Design) (n : ℕ) (own : NetState) (reading : Reading) (w : Walk) : Type 0 where
  pub walk : IsWalk d n own w
  pub inside : IsInside d n w
  pub clear : some_conflict d.tech (walk_shapes_of d n w) reading.forbidding ≡ false

-- eight times as much where it conflicts with a dear shape
abbrev pub part_cost : Design → ℕ → Reading → ℕ × List Metal → ℕ
part_cost d n reading part = if some_conflict d.tech (shapes_of n part.1) reading.dear then 8 * part.0 else part.0

-- the sum over both entries and all edges
abbrev pub walk_cost : Design → ℕ → Reading → Walk → ℕ
walk_cost d n reading w = sum_by (part_cost d n reading) (walk_parts d n w)

-- a legal walk, and no legal walk costs less
pub record IsLeast (d : Design) (n : ℕ) (own : NetState) (reading : Reading) (w : Walk) : Type 0 where
  pub legal : IsLegal d n own reading w
  pub least : (v : Walk) → IsLegal d n own reading v → walk_cost d n reading w ≤ walk_cost d n reading v

-- no walk is legal
abbrev pub NoneLegal : Design → ℕ → NetState → Reading → Type 0
NoneLegal d n own reading = (v : Walk) → IsLegal d n own reading v → ⊥

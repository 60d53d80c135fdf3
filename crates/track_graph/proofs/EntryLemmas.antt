-- Entries of a design: their pins, their rectangles and their vertices.
use Rattle.std.proofs.Common.{◌≡◌, ℕ, ◌^◌, ◌+◌, ◌⊎◌, inl, inr, ◌<◌, ◌≤◌, List, [], length, get_or, Option, Some, None, option_map, unwrap_or, slice_get, Contains, ⊎_elim, refl, sym, subst, ◌∙◌, arith}
use Rattle.rt_base.proofs.Lists.{All-at}
use Rattle.std.proofs.lemmas.Option.{slice_get_within, slice_get-get_or}
use Rattle.rt_base.specs.Sides.{Sides}
use Rattle.rt_base.specs.declared.geometry.Point.{Point}
use Rattle.rt_base.specs.declared.walk.Entry.{Entry}
use Rattle.rt_base.specs.declared.walk.EntryKind.{EntryKind}
use Rattle.rt_base.specs.declared.walk.EntryKind.TheVariants.{Pin as AtPin, Stub, Wire as OnWire}
use Rattle.rt_base.specs.Geometry.{distance, nearest_point}
use Rattle.track_graph.specs.declared.design.Design.{Design}
use Rattle.track_graph.specs.declared.design.Net.{Net}
use Rattle.track_graph.specs.declared.design.Pin.{Pin}
use Rattle.track_graph.specs.Designs.{IsMetal, IsPin, IsNet, IsDesign}
use Rattle.rt_base.specs.Ranges.{IsPointWithin, AreSidesWithin}
use Rattle.rt_base.specs.declared.walk.Edge.{Edge}
use Rattle.rt_base.specs.declared.walk.EdgeKind.{EdgeKind}
use Rattle.rt_base.specs.declared.walk.EdgeKind.TheVariants.{Via as ByVia}
use Rattle.rt_base.specs.declared.walk.Vertex.{Vertex}
use Rattle.track_graph.specs.Edges.{FitsKind, IsEdge, Joins}
use Rattle.track_graph.specs.Entries.{IsEntry, IsPinEntry, IsStubEntry, pins_of, entries_of, rects_of, rect_of, no_metal}
use Rattle.track_graph.specs.Levels.{TrackSystem, track_system_of, IsVertex}
use Rattle.track_graph.specs.Metal.{Metal}
use Rattle.track_graph.specs.NetWalks.{IsNetEntry}
use Rattle.track_graph.proofs.ShapeLemmas.{vertex_within, distance_within}
use Rattle.rt_base.proofs.Ranges.{within-min, within-max}

-- the entry is of this pin, and its stub of a rectangle of the pin
abbrev pub KindFits : ℕ → List Metal → EntryKind → Type 0
KindFits pin rects (AtPin p) = p ≡ pin
KindFits pin rects (Stub p k) = (p ≡ pin) × (k < length rects)
KindFits pin rects OnWire = ⊥

pub record FitsPin (g : TrackSystem) (pin : ℕ) (rects : List Metal) (e : Entry) : Type 0 where
  pub vertex : IsVertex g e.vertex
  pub kind : KindFits pin rects e.kind

-- an entry of a pin fits it
pub entry-fits : (g : TrackSystem) (pin : ℕ) (rects : List Metal) (e : Entry) → IsEntry g pin rects e → FitsPin g pin rects e
entry-fits g pin rects e h = ⊎_elim
    (λ (p : IsPinEntry g pin rects e). record { vertex = p.vertex; kind = rw p.kind refl })
    (λ (p : ((f : Entry) → IsPinEntry g pin rects f → ⊥) × IsStubEntry g pin rects e). record { vertex = p.1.vertex; kind = rw p.1.kind (refl, slice_get_within rects p.1.k p.1.metal p.1.is_metal) })
    h

pin_ok : (d : Design) (n pin : ℕ) (p : Pin) → IsDesign d → slice_get (pins_of d n) pin ≡ Some p → IsPin (track_system_of d) pin p
pin_ok d n pin p ok at = by_net (slice_get d.nets n) refl at
  where
    by_net : (o : Option Net) → slice_get d.nets n ≡ o → slice_get (unwrap_or (option_map (λ (net : Net). net.pins) o) []) pin ≡ Some p → IsPin (track_system_of d) pin p
    by_net None e h = cc
    by_net (Some net) e h = (All-at (IsNet (track_system_of d)) d.nets n net ok.nets e).pins pin p h

-- an entry of a pin fits that pin
pub pin_entry-fits : (d : Design) (n pin : ℕ) (e : Entry) → IsDesign d → Contains (entries_of d n pin) e → FitsPin (track_system_of d) pin (rects_of d n pin) e
pin_entry-fits d n pin e ok h = by_pin (slice_get (pins_of d n) pin) refl h
  where
    by_pin : (o : Option Pin) → slice_get (pins_of d n) pin ≡ o → Contains (unwrap_or (option_map (λ (p : Pin). p.entries) o) []) e → FitsPin (track_system_of d) pin (unwrap_or (option_map (λ (p : Pin). p.rects) o) []) e
    by_pin None at h = absurd (omega (arith, h.1))
    by_pin (Some p) at h = entry-fits (track_system_of d) pin p.rects e (((pin_ok d n pin p ok at).entries e).0 h)

-- an entry of a net stands at a vertex
pub entry_vertex : (d : Design) (n : ℕ) (e : Entry) → IsDesign d → IsNetEntry d n e → IsVertex (track_system_of d) e.vertex
entry_vertex d n e ok h = ⊎_elim
    (λ (of_pin : (pin : ℕ) × Contains (entries_of d n pin) e). (pin_entry-fits d n of_pin.0 e ok of_pin.1).vertex)
    (λ (on_wire : (e.kind ≡ OnWire) × IsVertex (track_system_of d) e.vertex). on_wire.1)
    h

-- the via of an edge is one of the technology's
pub edge_via-exists : (g : TrackSystem) (v : Vertex) (e : Edge) (k : ℕ) → IsEdge g v e → e.kind ≡ ByVia k → k < length g.tech.vias
edge_via-exists g v e k h is = by_levels (subst (λ (kind : EdgeKind). FitsKind g kind v e.to) is h.kind).levels
  where
    by_levels : ((e.to.level ≡ v.level + 1) × Joins g.tech k v.level) ⊎ ((v.level ≡ e.to.level + 1) × Joins g.tech k e.to.level) → k < length g.tech.vias
    by_levels (inl up) = slice_get_within g.tech.vias k up.1.via up.1.is_via
    by_levels (inr down) = slice_get_within g.tech.vias k down.1.via down.1.is_via

-- the rectangle of a stub is one of its pin's
pub stub_rect-exists : (d : Design) (n : ℕ) (e : Entry) (pin k : ℕ) → IsDesign d → IsNetEntry d n e → e.kind ≡ Stub pin k → k < length (rects_of d n pin)
stub_rect-exists d n e pin k ok h is = ⊎_elim
    (λ (of_pin : (q : ℕ) × Contains (entries_of d n q) e).
    let fits : KindFits of_pin.0 (rects_of d n of_pin.0) e.kind = (pin_entry-fits d n of_pin.0 e ok of_pin.1).kind in
    let both : (pin ≡ of_pin.0) × (k < length (rects_of d n of_pin.0)) = rw is at fits in
    rw both.0 both.1)
    (λ (on_wire : (e.kind ≡ OnWire) × IsVertex (track_system_of d) e.vertex). absurd (differ pin k (sym is ∙ on_wire.0)))
    h
  where
    differ : (pin k : ℕ) → Stub pin k ≡ OnWire → ⊥
    differ pin k h = cc

-- a pin's rectangles are in range
pub rect_within : (d : Design) (n pin k : ℕ) → IsDesign d → k < length (rects_of d n pin) → AreSidesWithin (2 ^ 32) (rect_of d n pin k)
rect_within d n pin k ok h = by_pin (slice_get (pins_of d n) pin) refl h
  where
    by_pin : (o : Option Pin) → slice_get (pins_of d n) pin ≡ o → k < length (unwrap_or (option_map (λ (p : Pin). p.rects) o) []) → AreSidesWithin (2 ^ 32) (unwrap_or (slice_get (unwrap_or (option_map (λ (p : Pin). p.rects) o) []) k) no_metal).1
    by_pin None at h = absurd (omega arith)
    by_pin (Some p) at h =
        let m : Metal = get_or p.rects k no_metal in
        let is : slice_get p.rects k ≡ Some m = slice_get-get_or p.rects k no_metal h in
        rw is (All-at (IsMetal d.tech) p.rects k m (pin_ok d n pin p ok at).rects is).sides

pub nearest_point_within : (m : ℕ) (s : Sides) (p : Point) → AreSidesWithin m s → IsPointWithin m p → IsPointWithin m (nearest_point s p)
nearest_point_within m s p hs hp = (within-max m s.xl _ hs.0 (within-min m s.xh p.x hs.2 hp.0), within-max m s.yl _ hs.1 (within-min m s.yh p.y hs.3 hp.1))

pub stub_distance : (d : Design) (n : ℕ) (e : Entry) (pin k : ℕ) → IsDesign d → IsNetEntry d n e → e.kind ≡ Stub pin k → distance (nearest_point (rect_of d n pin k) e.vertex.point) e.vertex.point ≤ 2 ^ 34
stub_distance d n e pin k ok h is =
    let at : IsPointWithin (2 ^ 32) e.vertex.point = vertex_within d e.vertex ok (entry_vertex d n e ok h) in
    distance_within (nearest_point (rect_of d n pin k) e.vertex.point) e.vertex.point (nearest_point_within (2 ^ 32) (rect_of d n pin k) e.vertex.point (rect_within d n pin k ok (stub_rect-exists d n e pin k ok h is)) at) at

-- Entries of pins: the vertices in a pin's rectangles, or else stubs to vertices nearby.
use Rattle.std.specs.Prelude.{◌≡◌, ◌⊎◌, ℕ, ◌*◌, ◌≤◌, ◌==◌, pos, List, [], ◌∷◌, ◌++◌, if◌then◌else◌, slice_get, Some, None, Option, Any, option_map, unsigned_abs, unwrap_or}
use Rattle.rt_base.specs.Sides.{Sides}
use Rattle.rt_base.specs.Geometry.{Holds, distance, nearest_point}
use Rattle.rt_base.specs.declared.geometry.Point.{Point}
use Rattle.rt_base.specs.declared.tech.Tech.{Tech}
use Rattle.rt_base.specs.declared.walk.Vertex.{Vertex}
use Rattle.rt_base.specs.declared.walk.Entry.{Entry}
use Rattle.rt_base.specs.declared.walk.EntryKind.{EntryKind}
use Rattle.rt_base.specs.declared.walk.EntryKind.TheVariants.{Pin as AtPin, Stub, Wire as OnWire}
use Rattle.track_graph.specs.declared.design.Design.{Design}
use Rattle.track_graph.specs.declared.design.Net.{Net}
use Rattle.track_graph.specs.declared.design.Pin.{Pin}
use Rattle.track_graph.specs.Levels.{TrackSystem, IsVertex, layer_no}
use Rattle.track_graph.specs.Metal.{Metal, wire_metal}

-- a vertex inside a rectangle of the pin on its level's layer
pub record IsPinEntry (g : TrackSystem) (pin : ℕ) (rects : List Metal) (e : Entry) : Type 0 where
  pub kind : e.kind ≡ AtPin pin
  pub vertex : IsVertex g e.vertex
  pub inside : Any (λ (r : Metal). (r.0.0 ≡ layer_no g.tech e.vertex.level) × Holds r.1 e.vertex.point) rects

-- how far a stub of a level may reach
abbrev pub stub_reach : TrackSystem → ℕ → ℕ
stub_reach g level = 2 * unsigned_abs (unwrap_or (slice_get g.tracks.largest_step level) (pos 0))

-- a vertex near rectangle k of the pin, on its level's layer
pub record IsStubEntry (g : TrackSystem) (pin : ℕ) (rects : List Metal) (e : Entry) : Type 0 where
  pub k : ℕ
  pub metal : Metal
  pub kind : e.kind ≡ Stub pin k
  pub is_metal : slice_get rects k ≡ Some metal
  pub on_layer : metal.0.0 ≡ layer_no g.tech e.vertex.level
  pub vertex : IsVertex g e.vertex
  pub near : distance (nearest_point metal.1 e.vertex.point) e.vertex.point ≤ stub_reach g e.vertex.level

-- the vertices inside, or the stubs where there is none
abbrev pub IsEntry : TrackSystem → ℕ → List Metal → Entry → Type 0
IsEntry g pin rects e = IsPinEntry g pin rects e ⊎ (((f : Entry) → IsPinEntry g pin rects f → ⊥) × IsStubEntry g pin rects e)

-- the name of a net, empty where there is no such net
abbrev pub net_name_of : Design → ℕ → List ℕ
net_name_of d n = unwrap_or (option_map (λ (net : Net). net.name) (slice_get d.nets n)) []

-- the pins, entries and rectangles of a design by number; nothing where there are none
abbrev pub pins_of : Design → ℕ → List Pin
pins_of d n = unwrap_or (option_map (λ (net : Net). net.pins) (slice_get d.nets n)) []

abbrev pub entries_of : Design → ℕ → ℕ → List Entry
entries_of d n pin = unwrap_or (option_map (λ (p : Pin). p.entries) (slice_get (pins_of d n) pin)) []

abbrev pub rects_of : Design → ℕ → ℕ → List Metal
rects_of d n pin = unwrap_or (option_map (λ (p : Pin). p.rects) (slice_get (pins_of d n) pin)) []

abbrev pub no_metal : Metal
no_metal = (record { 0 = 0 }, record { xl = pos 0; yl = pos 0; xh = pos 0; yh = pos 0 })

abbrev pub rect_of : Design → ℕ → ℕ → ℕ → Sides
rect_of d n pin k = (unwrap_or (slice_get (rects_of d n pin) k) no_metal).1

-- a straight piece of a stub, or nothing where its ends are one point
abbrev pub piece_metal : Tech → ℕ → Point → Point → List Metal
piece_metal tech level p q = if distance p q == 0 then [] else wire_metal tech level p q ∷ []

-- where a stub from p to v turns
abbrev pub corner_of : Point → Vertex → Point
corner_of p v = record { x = v.point.x; y = p.y }

-- from p in x and then in y to the vertex
abbrev pub stub_metal : Tech → Point → Vertex → List Metal
stub_metal tech p v = piece_metal tech v.level p (corner_of p v) ++ piece_metal tech v.level (corner_of p v) v.point

-- from the rectangle's nearest point, at 4 for each unit
abbrev pub stub_part : Tech → Sides → Vertex → ℕ × List Metal
stub_part tech s v = let p = nearest_point s v.point in (4 * distance p v.point, stub_metal tech p v)

abbrev pub entry_kind_part : Design → ℕ → EntryKind → Vertex → ℕ × List Metal
entry_kind_part d n (AtPin pin) v = (0, [])
entry_kind_part d n (Stub pin k) v = stub_part d.tech (rect_of d n pin k) v
entry_kind_part d n OnWire v = (0, [])

-- what an entry costs by itself, and its rectangles
abbrev pub entry_part : Design → ℕ → Entry → ℕ × List Metal
entry_part d n e = entry_kind_part d n e.kind e.vertex

-- the pin that an entry is of
abbrev pub pin_of : EntryKind → Option ℕ
pin_of (AtPin pin) = Some pin
pin_of (Stub pin k) = Some pin
pin_of OnWire = None

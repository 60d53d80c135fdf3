-- The rectangles of wiring are in range, each on one of the layers.
use Rattle.std.proofs.Common.{◌≡◌, ℕ, ◌+◌, ◌<◌, ◌≤◌, ◌^◌, ◌/◌, ℤ, pos, ◌+ℤ◌, ◌-ℤ◌, ◌≤ℤ◌, unsigned_abs, Bool, true, false, cond, refl, sym, subst, lit≤, arith, List, [], ◌∷◌, ◌++◌, length, map, slice_get, Option, Some, None, unwrap_or, All}
use Rattle.std.specs.Prelude.{IfSome, int_le}
use Rattle.std.specs.Ordering.{int_eq}
use Rattle.std.specs.Option.{option_map_or}
use Rattle.std.specs.List.{flat_map}
use Rattle.std.proofs.lemmas.Int.{ints}
use Rattle.std.proofs.lemmas.Option.{slice_get_within, get_or_from_slice_get}
use Rattle.std.proofs.lemmas.List.Elements.{All-append, All-nil, All-cons, All-get_or, All-head, All-tail}
use Rattle.rt_base.specs.Sides.{Sides}
use Rattle.rt_base.specs.Geometry.{moved}
use Rattle.rt_base.specs.Orientations.{placed}
use Rattle.rt_base.specs.Ranges.{IsWithin, IsPointWithin, AreSidesWithin}
use Rattle.rt_base.proofs.Ranges.{sum_within, sides_from_within, within_from_sides, within-weaker, sides-weaker}
use Rattle.rt_base.specs.declared.geometry.Point.{Point}
use Rattle.rt_base.specs.declared.geometry.Span.{Span}
use Rattle.rt_base.specs.declared.orient.Orient.{Orient}
use Rattle.rt_base.specs.declared.tech.LayerNo.{LayerNo}
use Rattle.rt_base.specs.declared.tech.Layer.{Layer}
use Rattle.rt_base.specs.declared.tech.Via.{Via}
use Rattle.rt_base.specs.declared.tech.Tech.{Tech}
use Rattle.def_wires.specs.declared.wiring.Wiring.{Wiring}
use Rattle.def_wires.specs.declared.wiring.WirePath.{WirePath}
use Rattle.def_wires.specs.declared.wiring.WireStep.{WireStep}
use Rattle.def_wires.specs.declared.wiring.WireStep.TheVariants.{Start, Go, Via as Through, Patch}
use Rattle.def_wires.specs.declared.wiring.Spot.{Spot}
use Rattle.def_wires.specs.declared.wiring.Joined.{Joined}
use Rattle.def_wires.specs.Meaning.{Metal, rects_of_via, joined_by, other_of, beyond, half, across, along, box_of, wire_between, width_of_layer, width_on, reach_on, spot_behind, layer_behind, on_layer, via_metal, wire_to, step_metal, metal_behind, path_metal, wiring_metal}
use Rattle.def_wires.specs.Sound.{IsOn, HasWidth, IsTech, IsLength, IsStep, BeginsWithStart, IsWirePath, IsWiring, AreWithin, IsWireLength, IsSpot}
use Rattle.def_wires.specs.Walks.{spot_after}
use Rattle.def_wires.proofs.Drawing.{spot_sound}
use Rattle.def_wires.proofs.Placing.{placed_within}
use Rattle.def_wires.proofs.Opening.{joined_within, other_within}

-- ---- sums

near_within : (m n : ℕ) (a b : ℤ) → IsWithin m a → IsWithin n b → IsWithin (m + n) (a +ℤ b) × IsWithin (m + n) (a -ℤ b)
near_within m n a b h k =
    let s = sides_from_within m a h in
    let t = sides_from_within n b k in (
      within_from_sides (m + n) (a +ℤ b) (omega (arith, ints, s.0, s.1, t.0, t.1)) (omega (arith, ints, s.0, s.1, t.0, t.1)),
      within_from_sides (m + n) (a -ℤ b) (omega (arith, ints, s.0, s.1, t.0, t.1)) (omega (arith, ints, s.0, s.1, t.0, t.1)),
    )

wire_within : (z : ℤ) → IsWireLength z → IsWithin (2 ^ 32) z
wire_within z h = within_from_sides (2 ^ 32) z h.1 (omega (arith, ints, h.0))

abbrev IsRange : Span → Type 0
IsRange s = IsWithin (2 ^ 62) s.lo × IsWithin (2 ^ 62) s.hi

weak : (z : ℤ) → IsWithin (2 ^ 61 + 2 ^ 32) z → IsWithin (2 ^ 62) z
weak z h = within-weaker (2 ^ 61 + 2 ^ 32) (2 ^ 62) z (lit≤ tt) h

less : (a e : ℤ) → IsWithin (2 ^ 61) a → IsWireLength e → IsWithin (2 ^ 62) (a -ℤ e)
less a e ha he = weak (a -ℤ e) (near_within (2 ^ 61) (2 ^ 32) a e ha (wire_within e he)).1

more : (a e : ℤ) → IsWithin (2 ^ 61) a → IsWireLength e → IsWithin (2 ^ 62) (a +ℤ e)
more a e ha he = weak (a +ℤ e) (near_within (2 ^ 61) (2 ^ 32) a e ha (wire_within e he)).0

along_within : (a e b f : ℤ) → IsWithin (2 ^ 61) a → IsWireLength e → IsWithin (2 ^ 61) b → IsWireLength f → IsRange (along a e b f)
along_within a e b f ha he hb hf = pick (int_le a b)
  where
    pick : (t : Bool) → IsRange (cond t (record { lo = a -ℤ e; hi = b +ℤ f }) (record { lo = b -ℤ f; hi = a +ℤ e }))
    pick true = (less a e ha he, more b f hb hf)
    pick false = (less b f hb hf, more a e ha he)

half_length : (w : ℤ) → IsWireLength w → IsWireLength (half w) × IsWireLength (w -ℤ half w)
half_length w h = ((omega (arith, ints, h.0, h.1), omega (arith, ints, h.0, h.1)), (omega (arith, ints, h.0, h.1), omega (arith, ints, h.0, h.1)))

across_within : (c w : ℤ) → IsWithin (2 ^ 61) c → IsWireLength w → IsRange (across c w)
across_within c w hc hw =
    let k = half_length w hw in
    (less c (half w) hc k.0, more c (w -ℤ half w) hc k.1)

between_within : (w : ℤ) (p : Point) (e : ℤ) (q : Point) (f : ℤ) → IsWireLength w → IsPointWithin (2 ^ 61) p → IsWireLength e → IsPointWithin (2 ^ 61) q → IsWireLength f → IfSome (wire_between w p e q f) (AreSidesWithin (2 ^ 62))
between_within w p e q f hw hp he hq hf = pick (int_eq p.y q.y) (int_eq p.x q.x)
  where
    flat : AreSidesWithin (2 ^ 62) (box_of (along p.x e q.x f) (across p.y w))
    flat = let x = along_within p.x e q.x f hp.0 he hq.0 hf in let y = across_within p.y w hp.1 hw in (x.0, y.0, x.1, y.1)

    upright : AreSidesWithin (2 ^ 62) (box_of (across p.x w) (along p.y e q.y f))
    upright = let x = across_within p.x w hp.0 hw in let y = along_within p.y e q.y f hp.1 he hq.1 hf in (x.0, y.0, x.1, y.1)

    pick : (s t : Bool) → IfSome (cond s (cond t None (Some (box_of (along p.x e q.x f) (across p.y w)))) (Some (box_of (across p.x w) (along p.y e q.y f)))) (AreSidesWithin (2 ^ 62))
    pick true true = tt
    pick true false = flat
    pick false t = upright

-- ---- widths

zero_wire : IsWireLength (pos 0)
zero_wire = (omega (arith, ints), omega (arith, ints))

short_wire : (z : ℤ) → IsLength z → IsWireLength z
short_wire z h = (h.0, omega (arith, ints, h.1))

layer_length : (o : Option Layer) → IfSome o HasWidth → IsWireLength (option_map_or (λ (l : Layer). cond l.routing l.width (pos 0)) o (pos 0))
layer_length None h = zero_wire
layer_length (Some l) h = pick l.routing refl
  where
    pick : (b : Bool) → l.routing ≡ b → IsWireLength (cond b l.width (pos 0))
    pick true e = let w = h e in (omega (arith, ints, w.0), w.1)
    pick false e = zero_wire

found_all : {X : Type 0} (P : X → Type 0) (xs : List X) (k : ℕ) → All P xs → IfSome (slice_get xs k) P
found_all P xs k all = pick (slice_get xs k) refl
  where
    pick : (o : Option _) → slice_get xs k ≡ o → IfSome o P
    pick None e = tt
    pick (Some x) e = subst P (get_or_from_slice_get xs k x x e) (All-get_or P xs k x (slice_get_within xs k x e) all)

width_length : (tech : Tech) (k : ℕ) → IsTech tech → IsWireLength (width_of_layer tech k)
width_length tech k h = layer_length (slice_get tech.layers k) (found_all HasWidth tech.layers k h.widths)

gauge_lengths : (tech : Tech) (width : Option ℤ) (k : ℕ) → IsTech tech → IfSome width IsLength → IsWireLength (width_on tech width k) × IsWireLength (reach_on tech width k)
gauge_lengths tech None k h hw = (width_length tech k h, (half_length (width_of_layer tech k) (width_length tech k h)).0)
gauge_lengths tech (Some w) k h hw = (short_wire w hw, zero_wire)

ext_length : (ext : Option ℤ) (z : ℤ) → IfSome ext IsLength → IsWireLength z → IsWireLength (unwrap_or ext z)
ext_length None z h k = k
ext_length (Some e) z h k = short_wire e h

-- ---- layers

kept : (n : ℕ) (o : Option LayerNo) (layer : LayerNo) → IfSome o (λ l. l.0 < n) → layer.0 < n → (unwrap_or o layer).0 < n
kept n None layer h k = k
kept n (Some l) layer h k = h

beyond_within : (n : ℕ) (o : Option Joined) (layer : LayerNo) → IfSome o (AreWithin n) → layer.0 < n → (beyond o layer).0 < n
beyond_within n None layer h k = k
beyond_within n (Some j) layer h k = kept n (other_of j layer) layer (other_within n j layer h) k

-- ---- steps

abbrev Far : Tech → Metal → Type 0
Far tech m = IsOn (length tech.layers) (2 ^ 62) m

all_far : (tech : Tech) (P : Metal → Type 0) (f : Metal → Metal) (ms : List Metal) → ((m : Metal) → P m → Far tech (f m)) → All P ms → All (Far tech) (map f ms)
all_far tech P f [] h all = All-nil (Far tech)
all_far tech P f (m ∷ ms) h all = All-cons (Far tech) (f m) (map f ms) (h m (All-head P m ms all)) (all_far tech P f ms h (All-tail P m ms all))

moved_side : (m n : ℕ) (a b : ℤ) → m + n ≤ 2 ^ 62 → IsWithin m a → IsWithin n b → IsWithin (2 ^ 62) (a +ℤ b)
moved_side m n a b le ha hb = within-weaker (m + n) (2 ^ 62) (a +ℤ b) le (near_within m n a b ha hb).0

moved_within : (m n : ℕ) (p : Point) (s : Sides) → m + n ≤ 2 ^ 62 → IsPointWithin n p → AreSidesWithin m s → AreSidesWithin (2 ^ 62) (moved p s)
moved_within m n p s le hp hs =
    (moved_side m n s.xl p.x le hs.0 hp.0, moved_side m n s.yl p.y le hs.1 hp.1, moved_side m n s.xh p.x le hs.2 hp.0, moved_side m n s.yh p.y le hs.3 hp.1)

on_within : (tech : Tech) (layer : LayerNo) (o : Option Sides) → layer.0 < length tech.layers → IfSome o (AreSidesWithin (2 ^ 62)) → All (Far tech) (on_layer layer o)
on_within tech layer None h k = All-nil (Far tech)
on_within tech layer (Some s) h k = All-cons (Far tech) (layer, s) [] (h, k) (All-nil (Far tech))

via_rects : (tech : Tech) (v : ℕ) → IsTech tech → All (IsOn (length tech.layers) (2 ^ 60 + 2 ^ 30)) (rects_of_via tech v)
via_rects tech v h = pick (slice_get tech.vias v) (found_all (λ (x : Via). All (IsOn (length tech.layers) (2 ^ 60 + 2 ^ 30)) x.rects) tech.vias v h.vias)
  where
    pick : (o : Option Via) → IfSome o (λ (x : Via). All (IsOn (length tech.layers) (2 ^ 60 + 2 ^ 30)) x.rects) → All (IsOn (length tech.layers) (2 ^ 60 + 2 ^ 30)) (option_map_or (λ (x : Via). x.rects) o [])
    pick None k = All-nil (IsOn (length tech.layers) (2 ^ 60 + 2 ^ 30))
    pick (Some x) k = k

step_within : (tech : Tech) (width : Option ℤ) (at : Spot) (s : WireStep) → IsTech tech → IfSome width IsLength → IsSpot at → at.layer.0 < length tech.layers → IsStep tech s → All (Far tech) (step_metal tech width at s)
step_within tech width at (Start layer point ext) h hw ha hl hs = All-nil (Far tech)
step_within tech width at (Go point ext) h hw ha hl hs =
    let g = gauge_lengths tech width at.layer.0 h hw in
    on_within tech at.layer (wire_to tech width at point ext) hl
    (between_within (width_on tech width at.layer.0) at.point (unwrap_or at.ext (reach_on tech width at.layer.0)) point (unwrap_or ext (reach_on tech width at.layer.0)) g.0 ha.point (ext_length at.ext (reach_on tech width at.layer.0) ha.ext g.1) hs.0 (ext_length ext (reach_on tech width at.layer.0) hs.1 g.1))
step_within tech width at (Through v o) h hw ha hl hs =
    all_far tech (IsOn (length tech.layers) (2 ^ 60 + 2 ^ 30)) (via_metal o at.point) (rects_of_via tech v)
    (λ m hm. (hm.0, moved_within (2 ^ 60 + 2 ^ 30) (2 ^ 61) at.point (placed o (pos 0) (pos 0) m.1) (lit≤ tt) ha.point (placed_within (2 ^ 60 + 2 ^ 30) o m.1 hm.1)))
    (via_rects tech v h)
step_within tech width at (Patch r) h hw ha hl hs = All-cons (Far tech) (at.layer, moved at.point r) [] (hl, moved_within (2 ^ 30) (2 ^ 61) at.point r (lit≤ tt) ha.point hs) (All-nil (Far tech))

next_layer : (tech : Tech) (before : List WireStep) (s : WireStep) → IsStep tech s → (layer_behind tech before).0 < length tech.layers → (layer_behind tech (s ∷ before)).0 < length tech.layers
next_layer tech before (Start layer point ext) h k = h.0
next_layer tech before (Go point ext) h k = k
next_layer tech before (Through v o) h k = beyond_within (length tech.layers) (joined_by tech (rects_of_via tech v)) (layer_behind tech before) (joined_within tech (rects_of_via tech v)) k
next_layer tech before (Patch r) h k = k

next_spot : (tech : Tech) (before : List WireStep) (s : WireStep) → IsStep tech s → IsSpot (spot_behind tech before) → IsSpot (spot_behind tech (s ∷ before))
next_spot tech before (Start layer point ext) h k = record { point = h.1; ext = h.2 }
next_spot tech before (Go point ext) h k = record { point = h.0; ext = h.1 }
next_spot tech before (Through v o) h k = record { point = k.point; ext = k.ext }
next_spot tech before (Patch r) h k = record { point = k.point; ext = k.ext }

behind_within : (tech : Tech) (width : Option ℤ) (before steps : List WireStep) → IsTech tech → IfSome width IsLength → IsSpot (spot_behind tech before) → (layer_behind tech before).0 < length tech.layers → All (IsStep tech) steps → All (Far tech) (metal_behind tech width before steps)
behind_within tech width before [] h hw ha hl hs = All-nil (Far tech)
behind_within tech width before (s ∷ steps) h hw ha hl hs =
    let one = All-head (IsStep tech) s steps hs in
    All-append (Far tech) (step_metal tech width (spot_behind tech before) s) (metal_behind tech width (s ∷ before) steps)
    (step_within tech width (spot_behind tech before) s h hw ha hl one)
    (behind_within tech width (s ∷ before) steps h hw (next_spot tech before s one ha) (next_layer tech before s one hl) (All-tail (IsStep tech) s steps hs))

some_layer : (tech : Tech) (steps : List WireStep) → BeginsWithStart steps → All (IsStep tech) steps → 0 < length tech.layers
some_layer tech [] b h = absurd b
some_layer tech (Start layer point ext ∷ steps) b h = let one = All-head (IsStep tech) (Start layer point ext) steps h in omega (arith, one.0)
some_layer tech (Go point ext ∷ steps) b h = absurd b
some_layer tech (Through v o ∷ steps) b h = absurd b
some_layer tech (Patch r ∷ steps) b h = absurd b

path_within : (tech : Tech) (path : WirePath) → IsTech tech → IsWirePath tech path → All (Far tech) (path_metal tech path)
path_within tech path h k = behind_within tech path.width [] path.steps h k.width (record { point = (lit≤ tt, lit≤ tt); ext = tt }) (some_layer tech path.steps k.first k.steps) k.steps

paths_within : (tech : Tech) (paths : List WirePath) → IsTech tech → All (IsWirePath tech) paths → All (Far tech) (flat_map (path_metal tech) paths)
paths_within tech [] h k = All-nil (Far tech)
paths_within tech (p ∷ paths) h k = All-append (Far tech) (path_metal tech p) (flat_map (path_metal tech) paths) (path_within tech p h (All-head (IsWirePath tech) p paths k)) (paths_within tech paths h (All-tail (IsWirePath tech) p paths k))

pub wiring_within : (tech : Tech) (wiring : Wiring) → IsTech tech → IsWiring tech wiring → All (IsOn (length tech.layers) (2 ^ 62)) (wiring_metal tech wiring)
wiring_within tech wiring h k = paths_within tech wiring.paths h k

-- Counting vertices level by level, and entries by their vertices.
use Rattle.std.proofs.Common.{◌^◌, ◌≡◌, ◌≢◌, ◌⊎◌, ◌↔◌, inl, inr, ⊎_elim, ℕ, zero, suc, ◌+◌, ◌-◌, ◌*◌, ◌<◌, ◌≤◌, ℤ, Bool, true, false, if◌then◌else◌, List, [], ◌∷◌, ◌++◌, length, get_or, take, map, slice_get, Some, All, Any, Contains, refl, sym, ap, subst, ◌∙◌, arith}
use Rattle.std.proofs.lemmas.Bool.{cases_lt}
use Rattle.std.proofs.lemmas.List.{take_more, length-append, length-map, get_or_append_left, get_or-append_right}
use Rattle.std.proofs.lemmas.Option.{slice_get_within, slice_get-get_or, get_or_from_slice_get}
use Rattle.rt_base.specs.Sides.{Sides}
use Rattle.rt_base.specs.Geometry.{distance, nearest_point}
use Rattle.rt_base.specs.declared.geometry.Point.{Point}
use Rattle.rt_base.specs.declared.walk.Vertex.{Vertex}
use Rattle.rt_base.specs.declared.walk.Entry.{Entry}
use Rattle.rt_base.specs.declared.walk.EntryKind.TheVariants.{Stub}
use Rattle.rt_base.specs.declared.walk.EntryKind.{EntryKind}
use Rattle.rt_base.proofs.Lists.{Any-here, Any-none}
use Rattle.track_graph.specs.Entries.{IsPinEntry, IsStubEntry, IsEntry}
use Rattle.track_graph.specs.Levels.{TrackSystem, is_horizontal, vertex_at, line_of, along}
use Rattle.track_graph.specs.Metal.{Metal}
use Rattle.pin_access.specs.declared.die_tracks.DieLevel.{DieLevel}
use Rattle.pin_access.specs.declared.die_tracks.DieTracks.{DieTracks}
use Rattle.pin_access.specs.declared.bands.Band.{Band}
use Rattle.pin_access.specs.Bands.{beyond, band_of, IsBand, IsNearBand, IsNearBands}
use Rattle.rt_base.specs.Ranges.{AreSidesWithin}
use Rattle.std.proofs.lemmas.List.Elements.{All-push}
use Rattle.pin_access.proofs.Sweeping.{any_push, any_take_more}
use Rattle.pin_access.specs.Counts.{Counts}
use Rattle.pin_access.specs.DieTracks.{IsDieLevelOf, AreDieTracks, IsNearOn, IsNearLevel, IsOf, IsNearSome, IsNearOne}
use Rattle.pin_access.specs.EntryOrder.{pin_entry, stub_entry}
use Rattle.pin_access.specs.Nearby.{IsNearMetal, IsRect, steps_of}
use Rattle.pin_access.proofs.HowMany.{counts_same, counts_both, counts_image}
use Rattle.pin_access.proofs.EntryLemmas.{all_pairs_image, any_single, entries_inside, near_from_inside, entry_is}

-- ---- an element more of a list

push_cases : {X : Type 0} → (xs : List X) (x : X) (k : ℕ) (y : X) → slice_get (xs ++ x ∷ []) k ≡ Some y → (slice_get xs k ≡ Some y) ⊎ ((k ≡ length xs) × (x ≡ y))
push_cases {X} xs x k y at =
    let inside : k < length (xs ++ x ∷ []) = slice_get_within (xs ++ x ∷ []) k y at in
    let value : get_or (xs ++ x ∷ []) k y ≡ y = get_or_from_slice_get (xs ++ x ∷ []) k y y at in
    ⊎_elim
    (λ (lt : k < length xs). inl (slice_get-get_or xs k y lt ∙ ap (λ (z : X). Some z) (sym (get_or_append_left xs (x ∷ []) y k lt) ∙ value)))
    (λ (ge : length xs ≤ k).
    let last : k ≡ length xs = omega (arith, inside, length-append xs (x ∷ [])) in
    let zero_left : k - length xs ≡ 0 = omega (arith, last) in
    inr (last, sym (get_or-append_right xs (x ∷ []) (length xs) k y refl ge ∙ ap (λ (j : ℕ). get_or (x ∷ []) j y) zero_left) ∙ value))
    (cases_lt k (length xs))

push_left : {X : Type 0} → (xs : List X) (x : X) (k : ℕ) (y : X) → slice_get xs k ≡ Some y → slice_get (xs ++ x ∷ []) k ≡ Some y
push_left {X} xs x k y at =
    let inside = slice_get_within xs k y at in
    slice_get-get_or (xs ++ x ∷ []) k y (omega (arith, inside, length-append xs (x ∷ []))) ∙ ap (λ (z : X). Some z) (get_or_append_left xs (x ∷ []) y k inside ∙ get_or_from_slice_get xs k y y at)

push_last : {X : Type 0} → (xs : List X) (x : X) (k : ℕ) → k ≡ length xs → slice_get (xs ++ x ∷ []) k ≡ Some x
push_last {X} xs x k last =
    let zero_left : k - length xs ≡ 0 = omega (arith, last) in
    slice_get-get_or (xs ++ x ∷ []) k x (omega (arith, last, length-append xs (x ∷ []))) ∙ ap (λ (z : X). Some z) (get_or-append_right xs (x ∷ []) (length xs) k x refl (omega (arith, last)) ∙ ap (λ (j : ℕ). get_or (x ∷ []) j x) zero_left)

of_push : {X Y : Type 0} → (P : X → Y → Type 0) (xs : List X) (x : X) (m n : ℕ) → Counts (IsOf xs P) m → Counts (P x) n → Counts (IsOf (xs ++ x ∷ []) P) (m + n)
of_push {X} {Y} P xs x m n old new =
    counts_same (λ (t : ℕ × Y). IsOf xs P t ⊎ Last t) (IsOf (xs ++ x ∷ []) P) (m + n) same
    (counts_both (IsOf xs P) Last m n apart old (counts_image (λ (y : Y). (length xs, y)) (P x) n (λ a b e. ap (λ (t : ℕ × Y). t.1) e) new))
  where
    Last : ℕ × Y → Type 0
    Last t = (y : Y) × P x y × (◌≡◌ {A = ℕ × Y} (length xs, y) t)

    apart : (t : ℕ × Y) → IsOf xs P t → Last t → ⊥
    apart t o l = omega (arith, slice_get_within xs t.0 o.0 o.1, ap (λ (s : ℕ × Y). s.0) l.2)

    last_is : (t : ℕ × Y) → t.0 ≡ length xs → P x t.1 → Last t
    last_is (k, y) e p = (y, p, ap (λ (j : ℕ). (j, y)) (sym e))

    from_last : (t : ℕ × Y) → Last t → IsOf (xs ++ x ∷ []) P t
    from_last t l = subst (λ (s : ℕ × Y). IsOf (xs ++ x ∷ []) P s) l.2 (x, push_last xs x (length xs) refl, l.1)

    same : (t : ℕ × Y) → (IsOf xs P t ⊎ Last t) ↔ IsOf (xs ++ x ∷ []) P t
    same t = (
      λ h. ⊎_elim
          (λ (o : IsOf xs P t). (o.0, push_left xs x t.0 o.0 o.1, o.2))
          (λ (l : Last t). from_last t l)
          h,
      λ h. ⊎_elim
          (λ (at : slice_get xs t.0 ≡ Some h.0). inl (h.0, at, h.2))
          (λ (e : (t.0 ≡ length xs) × (x ≡ h.0)). inr (last_is t e.0 (subst (λ (z : X). P z t.1) (sym e.1) h.2)))
          (push_cases xs x t.0 h.0 h.1),
    )

-- the elements before one, and it
pub of_more : {X Y : Type 0} → (P : X → Y → Type 0) (xs : List X) (i : ℕ) (x : X) (m n : ℕ) → i < length xs → x ≡ get_or xs i x → Counts (IsOf (take i xs) P) m → Counts (P x) n → Counts (IsOf (take (i + 1) xs) P) (m + n)
of_more {X} P xs i x m n within at old new =
    let split : take (i + 1) xs ≡ take i xs ++ x ∷ [] = take_more xs i x within ∙ ap (λ (y : X). take i xs ++ y ∷ []) (sym at) in
    subst (λ (ys : List X). Counts (IsOf ys P) (m + n)) (sym split) (of_push P (take i xs) x m n old new)

-- ---- a level

all_take_more : {X : Type 0} → (P : X → Type 0) (xs : List X) (i : ℕ) (x : X) → i < length xs → x ≡ get_or xs i x → P x → All P (take i xs) → All P (take (i + 1) xs)
all_take_more {X} P xs i x within at here before =
    let split : take (i + 1) xs ≡ take i xs ++ x ∷ [] = take_more xs i x within ∙ ap (λ (y : X). take i xs ++ y ∷ []) (sym at) in
    subst (λ (ys : List X). All P ys) (sym split) (All-push P (take i xs) x before here)

-- the larger rectangles of a level's layer so far
pub record AreBands (l : DieLevel) (rects : List Metal) (i : ℕ) (bands : List Band) : Type 0 where
  pub are_bands : All IsBand bands
  pub near : (reach : ℕ) (line z : ℤ) → Any (IsNearBand reach line z) bands ↔ Any (IsNearOn l reach line z) (take i rects)
  pub are_rects : All (λ (m : Metal). IsRect m.1) (take i rects)

pub is_band : (h : Bool) (s : Sides) → AreSidesWithin (2 ^ 61) s → IsRect s → IsBand (band_of h s)
is_band true s w o = record { across = (o.1, w.1, w.3); along = (o.0, w.0, w.2) }
is_band false s w o = record { across = (o.0, w.0, w.2); along = (o.1, w.1, w.3) }

pub bands_none : (l : DieLevel) (rects : List Metal) (bands : List Band) → bands ≡ [] → AreBands l rects 0 bands
bands_none l rects bands empty = record {
  are_bands = subst (λ (bs : List Band). All IsBand bs) (sym empty) (λ k d lt. absurd (omega arith));
  near = λ reach line z. (
    λ h. absurd (Any-none (IsNearBand reach line z) (subst (λ (bs : List Band). Any (IsNearBand reach line z) bs) empty h)),
    λ h. absurd (Any-none (IsNearOn l reach line z) h),
  );
  are_rects = λ k d lt. absurd (omega arith);
}

pub bands_more : (l : DieLevel) (rects : List Metal) (i : ℕ) (m : Metal) (band : Band) (old new : List Band) → i < length rects → m ≡ get_or rects i m → new ≡ old ++ band ∷ [] → band ≡ band_of l.horizontal m.1 → m.0.0 ≡ l.layer → AreSidesWithin (2 ^ 61) m.1 → IsRect m.1 → AreBands l rects i old → AreBands l rects (i + 1) new
bands_more l rects i m band old new within at is band_is on near_zero rect before = record {
  are_bands = subst (λ (bs : List Band). All IsBand bs) (sym is) (All-push IsBand old band before.are_bands (subst IsBand (sym band_is) (is_band l.horizontal m.1 near_zero rect)));
  near = λ reach line z.
      let more = any_take_more (IsNearOn l reach line z) rects i m within at in
      let push = any_push (IsNearBand reach line z) old band in (
        λ h. more.1 (⊎_elim
            (λ (o : Any (IsNearBand reach line z) old). inl ((before.near reach line z).0 o))
            (λ (n : IsNearBand reach line z band). inr (on, subst (IsNearBand reach line z) band_is n))
            (push.0 (subst (λ (bs : List Band). Any (IsNearBand reach line z) bs) is h))),
        λ h. subst (λ (bs : List Band). Any (IsNearBand reach line z) bs) (sym is) (push.1 (⊎_elim
            (λ (o : Any (IsNearOn l reach line z) (take i rects)). inl ((before.near reach line z).1 o))
            (λ (n : IsNearOn l reach line z m). inr (subst (IsNearBand reach line z) (sym band_is) n.1))
            (more.0 h))),
      );
  are_rects = all_take_more (λ (n : Metal). IsRect n.1) rects i m within at rect before.are_rects;
}

pub bands_skip : (l : DieLevel) (rects : List Metal) (i : ℕ) (m : Metal) (old new : List Band) → i < length rects → m ≡ get_or rects i m → new ≡ old → (m.0.0 ≡ l.layer → ⊥) → IsRect m.1 → AreBands l rects i old → AreBands l rects (i + 1) new
bands_skip l rects i m old new within at is off rect before = record {
  are_bands = subst (λ (bs : List Band). All IsBand bs) (sym is) before.are_bands;
  near = λ reach line z.
      let more = any_take_more (IsNearOn l reach line z) rects i m within at in (
        λ h. more.1 (inl ((before.near reach line z).0 (subst (λ (bs : List Band). Any (IsNearBand reach line z) bs) is h))),
        λ h. subst (λ (bs : List Band). Any (IsNearBand reach line z) bs) (sym is) (⊎_elim
            (λ (o : Any (IsNearOn l reach line z) (take i rects)). (before.near reach line z).1 o)
            (λ (n : IsNearOn l reach line z m). absurd (off n.0))
            (more.0 h)),
      );
  are_rects = all_take_more (λ (n : Metal). IsRect n.1) rects i m within at rect before.are_rects;
}

pub level_counts : (l : DieLevel) (reach : ℕ) (rects : List Metal) (bands : List Band) (lines positions : List ℤ) (n : ℕ) → lines ≡ l.lines → positions ≡ l.positions → ((r : ℕ) (line z : ℤ) → Any (IsNearBand r line z) bands ↔ Any (IsNearOn l r line z) rects) → Counts (IsNearBands reach bands lines positions) n → Counts (IsNearLevel l reach rects) n
level_counts l reach rects bands lines positions n ls ps near c =
    counts_same (IsNearBands reach bands lines positions) (IsNearLevel l reach rects) n (λ p. (
      λ h. record { line = subst (λ (zs : List ℤ). Contains zs p.0) ls h.line; position = subst (λ (zs : List ℤ). Contains zs p.1) ps h.position; near = (near reach p.0 p.1).0 h.near },
      λ h. record { line = subst (λ (zs : List ℤ). Contains zs p.0) (sym ls) h.line; position = subst (λ (zs : List ℤ). Contains zs p.1) (sym ps) h.position; near = (near reach p.0 p.1).1 h.near },
    )) c

-- ---- vertices

abbrev line_by : Bool → Point → ℤ
line_by h p = if h then p.y else p.x

abbrev along_by : Bool → Point → ℤ
along_by h p = if h then p.x else p.y

distance_is : (h : Bool) (s : Sides) (p : Point) → distance (nearest_point s p) p ≡ beyond (band_of h s).across (line_by h p) + beyond (band_of h s).along (along_by h p)
distance_is true s p = omega arith
distance_is false s p = refl

point_is : (h : Bool) (p : Point) → ◌≡◌ {A = Point} (if h then record { x = along_by h p; y = line_by h p } else record { x = line_by h p; y = along_by h p }) p
point_is true p = refl
point_is false p = refl

line_is : (h : Bool) (line z : ℤ) → line_by h (if h then record { x = z; y = line } else record { x = line; y = z }) ≡ line
line_is true line z = refl
line_is false line z = refl

along_is : (h : Bool) (line z : ℤ) → along_by h (if h then record { x = z; y = line } else record { x = line; y = z }) ≡ z
along_is true line z = refl
along_is false line z = refl

abbrev pub vertex_of : TrackSystem → ℕ × (ℤ × ℤ) → Vertex
vertex_of g t = vertex_at g.tech t.0 t.1.0 t.1.1

triple_is : (a b : ℕ) (l m z w : ℤ) → a ≡ b → l ≡ m → z ≡ w → ◌≡◌ {A = ℕ × (ℤ × ℤ)} (a, (l, z)) (b, (m, w))
triple_is a b l m z w k e f = rw (k, e, f) refl

vertex_apart : (g : TrackSystem) (s t : ℕ × (ℤ × ℤ)) → vertex_of g s ≡ vertex_of g t → s ≡ t
vertex_apart g (k, (l, z)) (j, (m, w)) e =
    let level : k ≡ j = ap (λ (v : Vertex). v.level) e in
    let h = is_horizontal g.tech k in
    let point : ◌≡◌ {A = Point} (if h then record { x = z; y = l } else record { x = l; y = z }) (if h then record { x = w; y = m } else record { x = m; y = w }) =
    ap (λ (v : Vertex). v.point) e ∙ ap (λ (i : ℕ). if is_horizontal g.tech i then record { x = w; y = m } else record { x = m; y = w }) (sym level) in
    triple_is k j l m z w level
    (sym (line_is h l z) ∙ ap (line_by h) point ∙ line_is h m w)
    (sym (along_is h l z) ∙ ap (along_by h) point ∙ along_is h m w)

steps_are : (g : TrackSystem) (steps k s : ℕ) → s ≡ steps_of g 1 k → steps * s ≡ steps_of g steps k
steps_are g steps k s e = ap (λ (n : ℕ). steps * n) (e ∙ omega arith)

-- near on a level's tracks is near on its layer
near_of : (g : TrackSystem) (steps k : ℕ) (l : DieLevel) (m : Metal) (p : Point) → IsDieLevelOf g k l → IsNearOn l (steps * l.step) (line_of g.tech k p) (along g.tech k p) m ↔ ((m.0.0 ≡ l.layer) × (distance (nearest_point m.1 p) p ≤ steps_of g steps k))
near_of g steps k l m p is =
    let h = is_horizontal g.tech k in
    let band : band_of l.horizontal m.1 ≡ band_of (is_horizontal g.tech k) m.1 = ap (λ (b : Bool). band_of b m.1) is.horizontal in
    let far : beyond (band_of l.horizontal m.1).across (line_of g.tech k p) + beyond (band_of l.horizontal m.1).along (along g.tech k p) ≡ distance (nearest_point m.1 p) p = ap (λ (b : Band). beyond b.across (line_of g.tech k p) + beyond b.along (along g.tech k p)) band ∙ sym (distance_is h m.1 p) in
    let reach = steps_are g steps k l.step is.step in (
      λ n. (n.0, omega (arith, n.1, far, reach)),
      λ n. (n.0, omega (arith, n.1, far, reach)),
    )

abbrev pub IsNearAny : TrackSystem → ℕ → List Metal → Vertex → Type 0
IsNearAny g steps rects v = Any (λ (m : Metal). IsNearMetal g steps m v) rects

abbrev OfVertex : TrackSystem → DieTracks → ℕ → List Metal → Vertex → Type 0
OfVertex g t steps rects v = (s : ℕ × (ℤ × ℤ)) × IsNearSome t.levels steps rects s × (vertex_of g s ≡ v)

from_triple : (g : TrackSystem) (t : DieTracks) (steps : ℕ) (rects : List Metal) (k : ℕ) (line z : ℤ) → AreDieTracks g t → IsNearSome t.levels steps rects (k, (line, z)) → IsNearAny g steps rects (vertex_of g (k, (line, z)))
from_triple g t steps rects k line z are (l, at, near) =
    let is = are.each k l at in
    let v = vertex_of g (k, (line, z)) in
    let h = is_horizontal g.tech k in
    let on_line : line_of g.tech k v.point ≡ line = line_is h line z in
    let at_z : along g.tech k v.point ≡ z = along_is h line z in
    let vertex = (is.exactly v refl).1 (subst (λ (y : ℤ). Contains l.lines y) (sym on_line) near.line, subst (λ (y : ℤ). Contains l.positions y) (sym at_z) near.position) in
    let some = near.near in
    let there : IsNearOn l (steps * l.step) (line_of g.tech k v.point) (along g.tech k v.point) some.1 = subst (λ (y : ℤ). IsNearOn l (steps * l.step) y (along g.tech k v.point) some.1) (sym on_line) (subst (λ (y : ℤ). IsNearOn l (steps * l.step) line y some.1) (sym at_z) some.4) in
    let close = (near_of g steps k l some.1 v.point is).0 there in
    (some.0, some.1, some.2, some.3, record { vertex = vertex; on_layer = close.0 ∙ is.layer; near = close.1 })

to_triple : (g : TrackSystem) (t : DieTracks) (steps : ℕ) (rects : List Metal) (v : Vertex) → AreDieTracks g t → IsNearAny g steps rects v → OfVertex g t steps rects v
to_triple g t steps rects v are (i, m, lt, is_m, near) =
    let k = v.level in
    let found = level_of t.levels k (omega (arith, near.vertex.level, are.count)) in
    let l = found.0 in
    let is = are.each k l found.1 in
    let on = (is.exactly v refl).0 near.vertex in
    let close : IsNearOn l (steps * l.step) (line_of g.tech k v.point) (along g.tech k v.point) m = (near_of g steps k l m v.point is).1 (near.on_layer ∙ sym is.layer, near.near) in
    ((k, (line_of g.tech k v.point, along g.tech k v.point)), (l, found.1, record { line = on.0; position = on.1; near = (i, m, lt, is_m, close) }), ap (λ (p : Point). let w : Vertex = record { level = k; point = p } in w) (point_is (is_horizontal g.tech k) v.point))
  where
    level_of : (ls : List DieLevel) (k : ℕ) → k < length ls → (l : DieLevel) × (slice_get ls k ≡ Some l)
    level_of [] k lt = absurd (omega arith)
    level_of (l ∷ ls) zero lt = (l, refl)
    level_of (l ∷ ls) (suc k) lt = level_of ls k (omega arith)

-- how many vertices are near
pub vertices_count : (g : TrackSystem) (t : DieTracks) (steps : ℕ) (rects : List Metal) (n : ℕ) → AreDieTracks g t → Counts (IsNearSome t.levels steps rects) n → Counts (IsNearAny g steps rects) n
vertices_count g t steps rects n are c =
    counts_same (OfVertex g t steps rects) (IsNearAny g steps rects) n
    (λ v. (λ h. subst (IsNearAny g steps rects) h.2 (from_triple g t steps rects h.0.0 h.0.1.0 h.0.1.1 are h.1), λ h. to_triple g t steps rects v are h))
    (counts_image (vertex_of g) (IsNearSome t.levels steps rects) n (vertex_apart g) c)

-- ---- entries

some_levels : (ls : List DieLevel) (steps : ℕ) (rects : List Metal) (n : ℕ) → 0 < n → Counts (IsNearSome ls steps rects) n → 0 < length ls
some_levels ls steps rects n some c = by_list c.those (omega (arith, some, c.count)) (λ t h. (c.exactly t).0 h)
  where
    by_list : (ts : List (ℕ × (ℤ × ℤ))) → 0 < length ts → ((t : ℕ × (ℤ × ℤ)) → Contains ts t → IsNearSome ls steps rects t) → 0 < length ls
    by_list [] lt near = absurd (omega arith)
    by_list (t ∷ ts) lt near = let o = near t (0, lt, refl) in omega (arith, slice_get_within ls t.0 o.0 o.1)

pub some_rects : (ls : List DieLevel) (steps : ℕ) (rects : List Metal) (n : ℕ) → 0 < n → Counts (IsNearSome ls steps rects) n → 0 < length rects
some_rects ls steps rects n some c = by_list c.those (omega (arith, some, c.count)) (λ t h. (c.exactly t).0 h)
  where
    by_list : (ts : List (ℕ × (ℤ × ℤ))) → 0 < length ts → ((t : ℕ × (ℤ × ℤ)) → Contains ts t → IsNearSome ls steps rects t) → 0 < length rects
    by_list [] lt near = absurd (omega arith)
    by_list (t ∷ ts) lt near = let o = near t (0, lt, refl) in let a = o.2.near in omega (arith, a.2)

-- where some vertex lies inside, the entries are those inside
pub count_inside : (g : TrackSystem) (t : DieTracks) (pin : ℕ) (rects : List Metal) (n : ℕ) → AreDieTracks g t → 0 < n → (0 < length t.levels → All (λ (m : Metal). IsRect m.1) rects) → Counts (IsNearSome t.levels 0 rects) n → Counts (IsEntry g pin rects) n
count_inside g t pin rects n are some ordered near =
    let c = vertices_count g t 0 rects n are near in record {
      those = map (pin_entry pin) c.those;
      once = all_pairs_image (pin_entry pin) (λ (a b : Entry). a ≢ b) c.those (λ i j d lt within e. c.once i j d lt within (ap (λ (f : Entry). f.vertex) e));
      exactly = λ e. entries_inside g pin rects c.those (map (pin_entry pin) c.those) e (ordered (some_levels t.levels 0 rects n some near)) c.exactly (λ empty. absurd (omega (arith, ap length empty, c.count, some))) refl;
      count = length-map c.those (pin_entry pin) ∙ c.count;
    }

abbrev stub_of : TrackSystem → ℕ → ℕ × (ℕ × (ℤ × ℤ)) → Entry
stub_of g pin s = stub_entry pin s.0 (vertex_of g s.1)

pair_is : (a b : ℕ) (s t : ℕ × (ℤ × ℤ)) → a ≡ b → s ≡ t → ◌≡◌ {A = ℕ × (ℕ × (ℤ × ℤ))} (a, s) (b, t)
pair_is a b s t e f = λ i. (e i, f i)

stub_number : (pin a b : ℕ) → ◌≡◌ {A = EntryKind} (Stub pin a) (Stub pin b) → a ≡ b
stub_number pin a b e = cc

stub_apart : (g : TrackSystem) (pin : ℕ) (s t : ℕ × (ℕ × (ℤ × ℤ))) → stub_of g pin s ≡ stub_of g pin t → s ≡ t
stub_apart g pin (a, s) (b, t) e = pair_is a b s t (stub_number pin a b (ap (λ (f : Entry). f.kind) e)) (vertex_apart g s t (ap (λ (f : Entry). f.vertex) e))

abbrev OfStub : TrackSystem → DieTracks → ℕ → List Metal → Entry → Type 0
OfStub g t pin rects e = (s : ℕ × (ℕ × (ℤ × ℤ))) × IsNearOne t.levels rects s × (stub_of g pin s ≡ e)

from_stub : (g : TrackSystem) (t : DieTracks) (pin : ℕ) (rects : List Metal) (k level : ℕ) (line z : ℤ) → AreDieTracks g t → IsNearOne t.levels rects (k, (level, (line, z))) → IsStubEntry g pin rects (stub_of g pin (k, (level, (line, z))))
from_stub g t pin rects k level line z are (m, at, near) =
    let v = vertex_of g (level, (line, z)) in
    let close : IsNearMetal g 2 m (vertex_of g (level, (line, z))) = (any_single (λ (n : Metal). IsNearMetal g 2 n v) m).0 (from_triple g t 2 (m ∷ []) level line z are near) in
    record { k = k; metal = m; kind = refl; is_metal = at; on_layer = close.on_layer; vertex = close.vertex; near = close.near }

to_stub : (g : TrackSystem) (t : DieTracks) (pin : ℕ) (rects : List Metal) (e : Entry) → AreDieTracks g t → IsStubEntry g pin rects e → OfStub g t pin rects e
to_stub g t pin rects e are h =
    let close : IsNearMetal g 2 h.metal e.vertex = record { vertex = h.vertex; on_layer = h.on_layer; near = h.near } in
    let u = to_triple g t 2 (h.metal ∷ []) e.vertex are (Any-here (λ (n : Metal). IsNearMetal g 2 n e.vertex) h.metal [] close) in
    ((h.k, u.0), (h.metal, h.is_metal, u.1), ap (λ (v : Vertex). stub_entry pin h.k v) u.2 ∙ entry_is e (Stub pin h.k) h.kind)

-- where none does, they are the stubs
pub count_outside : (g : TrackSystem) (t : DieTracks) (pin : ℕ) (rects : List Metal) (n : ℕ) → AreDieTracks g t → Counts (IsNearSome t.levels 0 rects) 0 → Counts (IsNearOne t.levels rects) n → Counts (IsEntry g pin rects) n
count_outside g t pin rects n are none c =
    counts_same (OfStub g t pin rects) (IsEntry g pin rects) n
    (λ e. (
      λ h. inr (no_pin, subst (IsStubEntry g pin rects) h.2 (from_stub g t pin rects h.0.0 h.0.1.0 h.0.1.1.0 h.0.1.1.1 are h.1)),
      λ h. ⊎_elim
          (λ (p : IsPinEntry g pin rects e). absurd (no_pin e p))
          (λ (s : ((f : Entry) → IsPinEntry g pin rects f → ⊥) × IsStubEntry g pin rects e). to_stub g t pin rects e are s.1)
          h,
    ))
    (counts_image (stub_of g pin) (IsNearOne t.levels rects) n (stub_apart g pin) c)
  where
    no_pin : (f : Entry) → IsPinEntry g pin rects f → ⊥
    no_pin f h =
        let vs = vertices_count g t 0 rects 0 are none in
        let at = (vs.exactly f.vertex).1 (near_from_inside g rects f.vertex h.vertex h.inside) in
        omega (arith, at.1, vs.count)

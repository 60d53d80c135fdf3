-- Vertices near rectangles, and the entries that stand at them.
use Rattle.std.proofs.Common.{◌==◌, true, false, ◌≡◌, ◌⊎◌, ◌↔◌, inl, inr, ⊎_elim, ℕ, zero, suc, ◌+◌, ◌-◌, ◌<◌, ◌≤◌, ℤ, ◌≤ℤ◌, ◌-ℤ◌, unsigned_abs, List, [], ◌∷◌, ◌++◌, length, get_or, take, drop, map, slice_get, Some, All, AllPairs, Any, Contains, refl, sym, ap, subst, ◌∙◌, arith}
use Rattle.std.proofs.lemmas.Bool.{cases_lt}
use Rattle.std.proofs.lemmas.Bool.Decides.{nat_tests}
use Rattle.std.proofs.lemmas.Int.{ints, clamps}
use Rattle.std.proofs.lemmas.List.{drop_more, get_or_append_left, get_or-append_right, length-append}
use Rattle.std.proofs.lemmas.List.Elements.{All-map, Contains-get_or, Contains-append_left, Contains-append_right, Contains-append_cases}
use Rattle.std.proofs.lemmas.List.Kept.{AllPairs-cons}
use Rattle.std.proofs.lemmas.Option.{slice_get_within}
use Rattle.rt_base.specs.Sides.{Sides}
use Rattle.rt_base.specs.Geometry.{Holds, distance, nearest, nearest_point}
use Rattle.rt_base.specs.declared.geometry.Point.{Point}
use Rattle.rt_base.specs.declared.walk.Entry.{Entry}
use Rattle.rt_base.specs.declared.walk.EntryKind.{EntryKind}
use Rattle.rt_base.specs.declared.walk.EntryKind.TheVariants.{Pin as AtPin, Stub}
use Rattle.rt_base.proofs.Lists.{Any-cases, Any-none, Any-here, Any-there}
use Rattle.rt_base.proofs.Ranges.{sides_from_within, within_from_sides}
use Rattle.rt_base.specs.declared.walk.Vertex.{Vertex}
use Rattle.track_graph.specs.Entries.{IsPinEntry, IsStubEntry, IsEntry}
use Rattle.track_graph.specs.Levels.{TrackSystem, IsVertex, levels, layer_no}
use Rattle.track_graph.specs.Metal.{Metal}
use Rattle.pin_access.specs.EntryOrder.{IsVertexBefore, IsEntryBefore, rect_number, pin_entry, stub_entry}
use Rattle.pin_access.specs.Nearby.{IsNear, IsNearMetal, IsRect, steps_of}
use Rattle.pin_access.proofs.LevelLemmas.{level_unique}
use Rattle.pin_access.proofs.Members.{contains_none, contains_here, contains_image, from_image}

-- near a rectangle on its level is near it on its layer
pub near_metal_exactly : (g : TrackSystem) (steps level reach : ℕ) (m : Metal) (v : Vertex) → level < length (levels g.tech) → layer_no g.tech level ≡ m.0.0 → reach ≡ steps_of g steps level → IsNear g level reach m.1 v ↔ IsNearMetal g steps m v
near_metal_exactly g steps level reach m v within on is = (
  λ h. record {
    vertex = h.vertex;
    on_layer = sym on ∙ ap (layer_no g.tech) (sym h.level);
    near = subst (λ k. distance (nearest_point m.1 v.point) v.point ≤ steps_of g steps k) (sym h.level) (subst (λ k. distance (nearest_point m.1 v.point) v.point ≤ k) is h.near);
  },
  λ h.
      let same : v.level ≡ level = level_unique g.tech v.level level h.vertex.level within (sym h.on_layer ∙ sym on) in
      record {
        level = same;
        vertex = h.vertex;
        near = subst (λ k. distance (nearest_point m.1 v.point) v.point ≤ k) (sym is) (subst (λ k. distance (nearest_point m.1 v.point) v.point ≤ steps_of g steps k) same h.near);
      },
)

-- no vertex is near a rectangle on a layer of no level
pub near_none : (g : TrackSystem) (steps : ℕ) (m : Metal) (v : Vertex) → ((k : ℕ) → k < length (levels g.tech) → layer_no g.tech k ≡ m.0.0 → ⊥) → IsNearMetal g steps m v → ⊥
near_none g steps m v none h = none v.level h.vertex.level (sym h.on_layer)

-- one rectangle more
pub gathered_more : (P : Metal → Type 0) (H N A : Type 0) (x : Metal) (rest : List Metal) → (H ⊎ Any P (x ∷ rest)) ↔ A → N ↔ (H ⊎ P x) → (N ⊎ Any P rest) ↔ A
gathered_more P H N A x rest before step = (
  λ h. ⊎_elim
      (λ (n : N). ⊎_elim (λ (old : H). before.0 (inl old)) (λ (here : P x). before.0 (inr (Any-here P x rest here))) (step.0 n))
      (λ (later : Any P rest). before.0 (inr (Any-there P x rest later)))
      h,
  λ a. ⊎_elim
      (λ (old : H). inl (step.1 (inl old)))
      (λ (some : Any P (x ∷ rest)). ⊎_elim (λ (here : P x). inl (step.1 (inr here))) (λ (later : Any P rest). inr later) (Any-cases P x rest some))
      (before.1 a),
)

-- order in lists that are joined, and in images of lists
pub all_pairs_joined : {X : Type 0} → (R : X → X → Type 0) (xs ys : List X) → AllPairs R xs → AllPairs R ys → ((x y : X) → Contains xs x → Contains ys y → R x y) → AllPairs R (xs ++ ys)
all_pairs_joined R xs ys hx hy across i j d lt within = ⊎_elim
    (λ (j_in : j < length xs). let i_in : i < length xs = omega arith in rw (get_or_append_left xs ys d i i_in, get_or_append_left xs ys d j j_in) (hx i j d lt j_in))
    (λ (j_out : length xs ≤ j). ⊎_elim
    (λ (i_in : i < length xs). rw (get_or_append_left xs ys d i i_in, get_or-append_right xs ys (length xs) j d refl j_out) (across (get_or xs i d) (get_or ys (j - length xs) d) (Contains-get_or xs i d i_in) (Contains-get_or ys (j - length xs) d (omega (arith, length-append xs ys)))))
    (λ (i_out : length xs ≤ i). rw (get_or-append_right xs ys (length xs) i d refl i_out, get_or-append_right xs ys (length xs) j d refl j_out) (hy (i - length xs) (j - length xs) d (omega arith) (omega (arith, length-append xs ys))))
    (cases_lt i (length xs)))
    (cases_lt j (length xs))

pub all_pairs_image : {X Y : Type 0} → (f : X → Y) (R : Y → Y → Type 0) (xs : List X) → AllPairs (λ a b. R (f a) (f b)) xs → AllPairs R (map f xs)
all_pairs_image f R [] h = λ i j d lt within. absurd (omega arith)
all_pairs_image f R (x ∷ xs) h = AllPairs-cons R (f x) (map f xs) (All-map (R (f x)) f xs (λ k d within. h 0 (suc k) d (omega arith) (omega arith))) (all_pairs_image f R xs (λ i j d lt within. h (suc i) (suc j) d (omega arith) (omega arith)))

-- stubs from the first n rectangles
abbrev pub IsStubBelow : TrackSystem → ℕ → List Metal → ℕ → Entry → Type 0
IsStubBelow g pin rects n e = (h : IsStubEntry g pin rects e) × (h.k < n)

pub no_stub_yet : (g : TrackSystem) (pin : ℕ) (rects : List Metal) (e : Entry) → Contains [] e ↔ IsStubBelow g pin rects 0 e
no_stub_yet g pin rects e = (λ h. absurd (contains_none e h), λ h. absurd (omega (arith, h.1)))

pub stubs_of_all : (g : TrackSystem) (pin : ℕ) (rects : List Metal) (n : ℕ) (found : List Entry) (e : Entry) → length rects ≤ n → Contains found e ↔ IsStubBelow g pin rects n e → Contains found e ↔ IsStubEntry g pin rects e
stubs_of_all g pin rects n found e all exact = (λ h. (exact.0 h).0, λ h. exact.1 (h, omega (arith, slice_get_within rects h.k h.metal h.is_metal)))

stub_below : (g : TrackSystem) (pin : ℕ) (rects : List Metal) (k : ℕ) (m : Metal) (v : Vertex) → slice_get rects k ≡ Some m → IsNearMetal g 2 m v → IsStubBelow g pin rects (k + 1) (stub_entry pin k v)
stub_below g pin rects k m v at h = (record { k = k; metal = m; kind = refl; is_metal = at; on_layer = h.on_layer; vertex = h.vertex; near = h.near }, omega arith)

pub entry_is : (e : Entry) (kind : EntryKind) → e.kind ≡ kind → ◌≡◌ {A = Entry} (record { vertex = e.vertex; kind = kind }) e
entry_is e kind is = ap (λ (k : EntryKind). let f : Entry = record { vertex = e.vertex; kind = k } in f) (sym is)

-- the stubs of one rectangle more
pub stubs_more : (g : TrackSystem) (pin : ℕ) (rects : List Metal) (k : ℕ) (m : Metal) (near : List Vertex) (old new : List Entry) → slice_get rects k ≡ Some m → ((v : Vertex) → Contains near v ↔ IsNearMetal g 2 m v) → ((e : Entry) → Contains old e ↔ IsStubBelow g pin rects k e) → new ≡ old ++ map (stub_entry pin k) near → (e : Entry) → Contains new e ↔ IsStubBelow g pin rects (k + 1) e
stubs_more g pin rects k m near old new at exact before is e = (
  λ h. ⊎_elim
      (λ (in_old : Contains old e). let b : IsStubBelow g pin rects k e = (before e).0 in_old in (b.0, omega (arith, b.1)))
      (λ (added : Contains (map (stub_entry pin k) near) e).
      let image : (v : Vertex) × Contains near v × (stub_entry pin k v ≡ e) = from_image (stub_entry pin k) near e added in
      subst (λ f. IsStubBelow g pin rects (k + 1) f) image.2 (stub_below g pin rects k m image.0 at ((exact image.0).0 image.1)))
      (Contains-append_cases old (map (stub_entry pin k) near) e (subst (λ l. Contains l e) is h)),
  λ h. subst (λ l. Contains l e) (sym is) (⊎_elim
      (λ (lt : h.0.k < k). Contains-append_left old (map (stub_entry pin k) near) e ((before e).1 (h.0, lt)))
      (λ (ge : k ≤ h.0.k). Contains-append_right old (map (stub_entry pin k) near) e (latest h.0 (omega (arith, h.1))))
      (cases_lt h.0.k k)),
)
  where
    latest : (h : IsStubEntry g pin rects e) → h.k ≡ k → Contains (map (stub_entry pin k) near) e
    latest h same =
        let read : Some h.metal ≡ Some m = sym h.is_metal ∙ ap (slice_get rects) same ∙ at in
        let metal : h.metal ≡ m = cc in
        let close : IsNearMetal g 2 h.metal e.vertex = record { vertex = h.vertex; on_layer = h.on_layer; near = h.near } in
        let found : Contains near e.vertex = (exact e.vertex).1 (subst (λ x. IsNearMetal g 2 x e.vertex) metal close) in
        subst (λ f. Contains (map (stub_entry pin k) near) f) (entry_is e (Stub pin k) (h.kind ∙ ap (λ n. Stub pin n) same)) (contains_image (stub_entry pin k) near e.vertex found)

pub stubs_more_ordered : (g : TrackSystem) (pin : ℕ) (rects : List Metal) (k : ℕ) (near : List Vertex) (old new : List Entry) → AllPairs IsVertexBefore near → ((e : Entry) → Contains old e ↔ IsStubBelow g pin rects k e) → AllPairs IsEntryBefore old → new ≡ old ++ map (stub_entry pin k) near → AllPairs IsEntryBefore new
stubs_more_ordered g pin rects k near old new up before ordered is = subst (λ l. AllPairs IsEntryBefore l) (sym is) (all_pairs_joined IsEntryBefore old (map (stub_entry pin k) near) ordered (all_pairs_image (stub_entry pin k) IsEntryBefore near (λ i j d lt within. inr (refl, up i j d lt within))) across)
  where
    across : (x y : Entry) → Contains old x → Contains (map (stub_entry pin k) near) y → IsEntryBefore x y
    across x y hx hy =
        let b : IsStubBelow g pin rects k x = (before x).0 hx in
        let image : (v : Vertex) × Contains near v × (stub_entry pin k v ≡ y) = from_image (stub_entry pin k) near y hy in
        let left : rect_number x.kind ≡ b.0.k = ap rect_number b.0.kind in
        let right : k ≡ rect_number y.kind = ap (λ (f : Entry). rect_number f.kind) image.2 in
        inl (omega (arith, left, right, b.1))

-- the part of a list that has one element
pub single_part : (rects : List Metal) (k : ℕ) (m : Metal) → k < length rects → take (k + 1 - k) (drop k rects) ≡ get_or rects k m ∷ []
single_part rects k m within =
    let one : k + 1 - k ≡ suc zero = omega arith in
    rw (one, drop_more rects k m within)

pub any_single : {X : Type 0} → (P : X → Type 0) (x : X) → Any P (x ∷ []) ↔ P x
any_single P x = (λ h. ⊎_elim (λ (here : P x). here) (λ (none : Any P []). absurd (Any-none P none)) (Any-cases P x [] h), λ h. Any-here P x [] h)

-- no way from a rectangle is the same as inside it
part_inside : (lo hi z : ℤ) → lo ≤ℤ z → z ≤ℤ hi → unsigned_abs (nearest lo hi z -ℤ z) ≤ 0
part_inside lo hi z low high = within_from_sides 0 (nearest lo hi z -ℤ z) (omega (arith, ints, clamps)) (omega (arith, ints, clamps))

part_held : (lo hi z : ℤ) → lo ≤ℤ hi → unsigned_abs (nearest lo hi z -ℤ z) ≤ 0 → (lo ≤ℤ z) × (z ≤ℤ hi)
part_held lo hi z up h =
    let sides = sides_from_within 0 (nearest lo hi z -ℤ z) h in
    (omega (arith, ints, clamps), omega (arith, ints, clamps))

inside_near : (s : Sides) (p : Point) → Holds s p → distance (nearest_point s p) p ≤ 0
inside_near s p h =
    let x = part_inside s.xl s.xh p.x h.left h.right in
    let y = part_inside s.yl s.yh p.y h.low h.high in
    omega arith

near_inside : (s : Sides) (p : Point) → IsRect s → distance (nearest_point s p) p ≤ 0 → Holds s p
near_inside s p rect h =
    let x = part_held s.xl s.xh p.x rect.0 (omega arith) in
    let y = part_held s.yl s.yh p.y rect.1 (omega arith) in
    record { left = x.0; right = x.1; low = y.0; high = y.1 }

abbrev IsInside : TrackSystem → List Metal → Vertex → Type 0
IsInside g rects v = Any (λ (r : Metal). (r.0.0 ≡ layer_no g.tech v.level) × Holds r.1 v.point) rects

inside_from_near : (g : TrackSystem) (rects : List Metal) (v : Vertex) → All (λ (m : Metal). IsRect m.1) rects → Any (λ (m : Metal). IsNearMetal g 0 m v) rects → IsVertex g v × IsInside g rects v
inside_from_near g rects v ordered h = (h.4.vertex, (h.0, h.1, h.2, h.3, (h.4.on_layer, near_inside h.1.1 v.point (subst (λ (m : Metal). IsRect m.1) h.3 (ordered h.0 h.1 h.2)) (omega (arith, h.4.near)))))

pub near_from_inside : (g : TrackSystem) (rects : List Metal) (v : Vertex) → IsVertex g v → IsInside g rects v → Any (λ (m : Metal). IsNearMetal g 0 m v) rects
near_from_inside g rects v is h = (h.0, h.1, h.2, h.3, record { vertex = is; on_layer = h.4.0; near = omega (arith, inside_near h.1.1 v.point h.4.1) })

-- what the vertices inside a pin's rectangles are
abbrev pub AreInside : TrackSystem → List Metal → List Vertex → Type 0
AreInside g rects inside = (v : Vertex) → Contains inside v ↔ Any (λ (m : Metal). IsNearMetal g 0 m v) rects

pin_entry_from : (g : TrackSystem) (pin : ℕ) (rects : List Metal) (inside : List Vertex) (v : Vertex) → All (λ (m : Metal). IsRect m.1) rects → AreInside g rects inside → Contains inside v → IsPinEntry g pin rects (pin_entry pin v)
pin_entry_from g pin rects inside v ordered are h =
    let is : IsVertex g v × IsInside g rects v = inside_from_near g rects v ordered ((are v).0 h) in
    record { kind = refl; vertex = is.0; inside = is.1 }

pub pin_entries_exactly : (g : TrackSystem) (pin : ℕ) (rects : List Metal) (inside : List Vertex) (e : Entry) → All (λ (m : Metal). IsRect m.1) rects → AreInside g rects inside → Contains (map (pin_entry pin) inside) e ↔ IsPinEntry g pin rects e
pin_entries_exactly g pin rects inside e ordered are = (
  λ h.
      let image : (v : Vertex) × Contains inside v × (pin_entry pin v ≡ e) = from_image (pin_entry pin) inside e h in
      subst (λ f. IsPinEntry g pin rects f) image.2 (pin_entry_from g pin rects inside image.0 ordered are image.1),
  λ h. subst (λ f. Contains (map (pin_entry pin) inside) f) (entry_is e (AtPin pin) h.kind) (contains_image (pin_entry pin) inside e.vertex ((are e.vertex).1 (near_from_inside g rects e.vertex h.vertex h.inside))),
)

-- where a vertex lies inside, the entries are those inside
pub entries_inside : (g : TrackSystem) (pin : ℕ) (rects : List Metal) (inside : List Vertex) (found : List Entry) (e : Entry) → All (λ (m : Metal). IsRect m.1) rects → AreInside g rects inside → (inside ≡ [] → ⊥) → found ≡ map (pin_entry pin) inside → Contains found e ↔ IsEntry g pin rects e
entries_inside g pin rects inside found e ordered are some is =
    let exact : Contains (map (pin_entry pin) inside) e ↔ IsPinEntry g pin rects e = pin_entries_exactly g pin rects inside e ordered are in (
      λ h. inl (exact.0 (subst (λ l. Contains l e) is h)),
      λ h. subst (λ l. Contains l e) (sym is) (⊎_elim
          (λ (here : IsPinEntry g pin rects e). exact.1 here)
          (λ (away : ((f : Entry) → IsPinEntry g pin rects f → ⊥) × IsStubEntry g pin rects e). absurd (clash inside some are away.0))
          h),
    )
  where
    clash : (vs : List Vertex) → (vs ≡ [] → ⊥) → AreInside g rects vs → ((f : Entry) → IsPinEntry g pin rects f → ⊥) → ⊥
    clash [] some are none = some refl
    clash (v ∷ vs) some are none = none (pin_entry pin v) (pin_entry_from g pin rects (v ∷ vs) v ordered are (contains_here v vs))

-- where none does, they are the stubs
pub entries_outside : (g : TrackSystem) (pin : ℕ) (rects : List Metal) (inside : List Vertex) (found : List Entry) (e : Entry) → AreInside g rects inside → inside ≡ [] → Contains found e ↔ IsStubEntry g pin rects e → Contains found e ↔ IsEntry g pin rects e
entries_outside g pin rects inside found e are empty exact = (
  λ h. inr (none, exact.0 h),
  λ h. ⊎_elim
      (λ (here : IsPinEntry g pin rects e). absurd (none e here))
      (λ (away : ((f : Entry) → IsPinEntry g pin rects f → ⊥) × IsStubEntry g pin rects e). exact.1 away.1)
      h,
)
  where
    none : (f : Entry) → IsPinEntry g pin rects f → ⊥
    none f h = contains_none f.vertex (subst (λ l. Contains l f.vertex) empty ((are f.vertex).1 (near_from_inside g rects f.vertex h.vertex h.inside)))

pub pins_ordered : (pin : ℕ) (inside : List Vertex) (found : List Entry) → AllPairs IsVertexBefore inside → found ≡ map (pin_entry pin) inside → AllPairs IsEntryBefore found
pins_ordered pin inside found up is = subst (λ l. AllPairs IsEntryBefore l) (sym is) (all_pairs_image (pin_entry pin) IsEntryBefore inside (λ i j d lt within. inr (refl, up i j d lt within)))

pub none_from_test : (vs : List Vertex) → true ≡ (length vs == 0) → vs ≡ []
none_from_test [] h = refl
none_from_test (v ∷ vs) h = absurd (clash (length vs) h)
  where
    clash : (n : ℕ) → true ≡ (suc n == 0) → ⊥
    clash n h = grind (arith, nat_tests)

pub some_from_test : (vs : List Vertex) → false ≡ (length vs == 0) → vs ≡ [] → ⊥
some_from_test [] h e = cc
some_from_test (v ∷ vs) h e = cc

-- The list of a design's vertices.
use Rattle.std.proofs.Common.{◌≡◌, ⊎_elim, ℕ, zero, suc, ◌+◌, ◌^◌, ◌<◌, ◌≤◌, ℤ, unsigned_abs, List, [], ◌∷◌, map, flat_map, filter, length, Bool, true, false, cond, ◌&&◌, nat_lt, Contains, refl, sym, subst, ap, ◌∙◌, arith}
use Rattle.std.proofs.lemmas.Bool.{cases_eq}
use Rattle.std.proofs.lemmas.Bool.Decides.{nat_tests}
use Rattle.std.proofs.lemmas.List.Elements.{Contains-append_left, Contains-append_right, Contains-append_cases}
use Rattle.rt_base.proofs.Lists.{in_cons, none_in}
use Rattle.rt_base.specs.declared.geometry.Point.{Point}
use Rattle.rt_base.specs.declared.walk.Vertex.{Vertex}
use Rattle.rt_base.specs.declared.tech.Tech.{Tech}
use Rattle.future_cost.specs.Laws.{IsNear}
use Rattle.track_graph.specs.declared.design.Design.{Design}
use Rattle.track_graph.specs.Designs.{IsDesign}
use Rattle.track_graph.specs.Levels.{track_system_of, levels, lines_of, positions_of, along, line_of, is_horizontal, vertex_at, IsVertex}
use Rattle.track_graph.proofs.ShapeLemmas.{vertex_within}
use Rattle.plain_route.specs.Vertices.{crossings, crossings_below, is_near, vertices_of}
use Rattle.plain_route.proofs.StepLemmas.{vertex_at_place}

pub here : {X : Type 0} (x : X) (xs : List X) → Contains (x ∷ xs) x
here x xs = (0, omega arith, refl)

pub there : {X : Type 0} (y x : X) (xs : List X) → Contains xs x → Contains (y ∷ xs) x
there y x xs c = (suc c.0, omega (arith, c.1), c.2)

pub in_map : {X Y : Type 0} (f : X → Y) (xs : List X) (x : X) → Contains xs x → Contains (map f xs) (f x)
in_map f [] x c = absurd (none_in x c)
in_map f (y ∷ xs) x c = ⊎_elim
    (λ (e : x ≡ y). subst (λ z. Contains (f y ∷ map f xs) (f z)) (sym e) (here (f y) (map f xs)))
    (λ (later : Contains xs x). there (f y) (f x) (map f xs) (in_map f xs x later))
    (in_cons y xs x c)

in_flat_map : {X Y : Type 0} (f : X → List Y) (xs : List X) (x : X) (y : Y) → Contains xs x → Contains (f x) y → Contains (flat_map f xs) y
in_flat_map f [] x y c h = absurd (none_in x c)
in_flat_map f (z ∷ xs) x y c h = ⊎_elim
    (λ (e : x ≡ z). Contains-append_left (f z) (flat_map f xs) y (subst (λ w. Contains (f w) y) e h))
    (λ (later : Contains xs x). Contains-append_right (f z) (flat_map f xs) y (in_flat_map f xs x y later h))
    (in_cons z xs x c)

in_filter : {X : Type 0} (p : X → Bool) (xs : List X) (x : X) → Contains xs x → p x ≡ true → Contains (filter p xs) x
in_filter p [] x c h = absurd (none_in x c)
in_filter p (y ∷ xs) x c h = by_test (p y) refl (λ later. in_filter p xs x later h)
  where
    differ : (b : Bool) → b ≡ true → b ≡ false → ⊥
    differ true h k = cc
    differ false h k = cc

    by_test : (t : Bool) → p y ≡ t → (Contains xs x → Contains (filter p xs) x) → Contains (cond t (y ∷ filter p xs) (filter p xs)) x
    by_test true e rest = ⊎_elim
        (λ (same : x ≡ y). subst (λ z. Contains (y ∷ filter p xs) z) (sym same) (here y (filter p xs)))
        (λ (later : Contains xs x). there y x (filter p xs) (rest later))
        (in_cons y xs x c)
    by_test false e rest = ⊎_elim
        (λ (same : x ≡ y). absurd (differ (p x) h (ap p same ∙ e)))
        (λ (later : Contains xs x). rest later)
        (in_cons y xs x c)

from_filter : {X : Type 0} (p : X → Bool) (xs : List X) (x : X) → Contains (filter p xs) x → p x ≡ true
from_filter p [] x c = absurd (none_in x c)
from_filter p (y ∷ xs) x c = by_test (p y) refl c (from_filter p xs x)
  where
    by_test : (t : Bool) → p y ≡ t → Contains (cond t (y ∷ filter p xs) (filter p xs)) x → (Contains (filter p xs) x → p x ≡ true) → p x ≡ true
    by_test true e c rest = ⊎_elim
        (λ (same : x ≡ y). ap p same ∙ e)
        rest
        (in_cons y (filter p xs) x c)
    by_test false e c rest = rest c

in_crossings : (tech : Tech) (level : ℕ) (lines positions : List ℤ) (line z : ℤ) → Contains lines line → Contains positions z → Contains (crossings tech level lines positions) (vertex_at tech level line z)
in_crossings tech level lines positions line z a b = in_flat_map (λ l. map (vertex_at tech level l) positions) lines line (vertex_at tech level line z) a (in_map (vertex_at tech level line) positions z b)

in_levels : (d : Design) (count level : ℕ) (v : Vertex) → level < count → Contains (crossings d.tech level (lines_of d.tracks level) (positions_of d.tracks level)) v → Contains (crossings_below d count) v
in_levels d zero level v lt c = absurd (omega (arith, lt))
in_levels d (suc count) level v lt c = ⊎_elim
    (λ (same : level ≡ count). Contains-append_left (crossings d.tech count (lines_of d.tracks count) (positions_of d.tracks count)) (crossings_below d count) v (subst (λ (k : ℕ). Contains (crossings d.tech k (lines_of d.tracks k) (positions_of d.tracks k)) v) same c))
    (λ (other : level ≡ count → ⊥). Contains-append_right (crossings d.tech count (lines_of d.tracks count) (positions_of d.tracks count)) (crossings_below d count) v (in_levels d count level v (omega (arith, lt, other)) c))
    (cases_eq level count)

near_test : (v : Vertex) → IsNear v → is_near v ≡ true
near_test v h = all_three _ _ _ (less v.level 256 h.level) (less (unsigned_abs v.point.x) (2 ^ 32 + 1) (omega (arith, h.point.0))) (less (unsigned_abs v.point.y) (2 ^ 32 + 1) (omega (arith, h.point.1)))
  where
    less : (m n : ℕ) → m < n → nat_lt m n ≡ true
    less m n h = grind (arith, nat_tests)

    all_three : (a b c : Bool) → a ≡ true → b ≡ true → c ≡ true → (a && b && c) ≡ true
    all_three a b c p q r = rw (p, q, r) refl

test_near : (v : Vertex) → is_near v ≡ true → IsNear v
test_near v h =
    let level : v.level < 256 = less v.level 256 (first (nat_lt v.level 256) (nat_lt (unsigned_abs v.point.x) (2 ^ 32 + 1)) (nat_lt (unsigned_abs v.point.y) (2 ^ 32 + 1)) h) in
    let x : unsigned_abs v.point.x < 2 ^ 32 + 1 = less (unsigned_abs v.point.x) (2 ^ 32 + 1) (second (nat_lt v.level 256) (nat_lt (unsigned_abs v.point.x) (2 ^ 32 + 1)) (nat_lt (unsigned_abs v.point.y) (2 ^ 32 + 1)) h) in
    let y : unsigned_abs v.point.y < 2 ^ 32 + 1 = less (unsigned_abs v.point.y) (2 ^ 32 + 1) (third (nat_lt v.level 256) (nat_lt (unsigned_abs v.point.x) (2 ^ 32 + 1)) (nat_lt (unsigned_abs v.point.y) (2 ^ 32 + 1)) h) in
    record { point = (omega (arith, x), omega (arith, y)); level = level }
  where
    less : (m n : ℕ) → nat_lt m n ≡ true → m < n
    less m n h = grind (arith, nat_tests)

    first : (a b c : Bool) → (a && b && c) ≡ true → a ≡ true
    first true b c h = refl
    first false b c h = cc

    second : (a b c : Bool) → (a && b && c) ≡ true → b ≡ true
    second true true c h = refl
    second true false c h = cc
    second false b c h = cc

    third : (a b c : Bool) → (a && b && c) ≡ true → c ≡ true
    third true true true h = refl
    third true true false h = cc
    third true false c h = cc
    third false b c h = cc

-- a vertex is near
pub vertex_near : (d : Design) (v : Vertex) → IsDesign d → IsVertex (track_system_of d) v → IsNear v
vertex_near d v ok is = record { point = vertex_within d v ok is; level = omega (arith, is.level, ok.tech.level_count) }

-- each vertex is listed
pub vertex_listed : (d : Design) (v : Vertex) → IsDesign d → IsVertex (track_system_of d) v → Contains (vertices_of d) v
vertex_listed d v ok is =
    let there : Contains (crossings d.tech v.level (lines_of d.tracks v.level) (positions_of d.tracks v.level)) v = subst (Contains (crossings d.tech v.level (lines_of d.tracks v.level) (positions_of d.tracks v.level))) (vertex_at_place d.tech v) (in_crossings d.tech v.level (lines_of d.tracks v.level) (positions_of d.tracks v.level) (line_of d.tech v.level v.point) (along d.tech v.level v.point) is.on_track is.at_position) in
    in_filter is_near (crossings_below d (length (levels d.tech))) v (in_levels d (length (levels d.tech)) v.level v is.level there) (near_test v (vertex_near d v ok is))

-- what is listed is near
pub listed_near : (d : Design) (v : Vertex) → Contains (vertices_of d) v → IsNear v
listed_near d v c = test_near v (from_filter is_near (crossings_below d (length (levels d.tech))) v c)

unfiltered : {X : Type 0} (p : X → Bool) (xs : List X) (x : X) → Contains (filter p xs) x → Contains xs x
unfiltered p [] x c = c
unfiltered p (y ∷ xs) x c = by_test (p y) c (λ later. there y x xs (unfiltered p xs x later))
  where
    by_test : (t : Bool) → Contains (cond t (y ∷ filter p xs) (filter p xs)) x → (Contains (filter p xs) x → Contains (y ∷ xs) x) → Contains (y ∷ xs) x
    by_test true c rest = ⊎_elim
        (λ (same : x ≡ y). subst (λ z. Contains (y ∷ xs) z) (sym same) (here y xs))
        rest
        (in_cons y (filter p xs) x c)
    by_test false c rest = rest c

from_map : {X Y : Type 0} (f : X → Y) (xs : List X) (y : Y) → Contains (map f xs) y → (x : X) × Contains xs x × (y ≡ f x)
from_map f [] y c = absurd (none_in y c)
from_map f (z ∷ xs) y c = ⊎_elim
    (λ (e : y ≡ f z). (z, here z xs, e))
    (λ (later : Contains (map f xs) y). let r = from_map f xs y later in (r.0, there z r.0 xs r.1, r.2))
    (in_cons (f z) (map f xs) y c)

from_flat_map : {X Y : Type 0} (f : X → List Y) (xs : List X) (y : Y) → Contains (flat_map f xs) y → (x : X) × Contains xs x × Contains (f x) y
from_flat_map f [] y c = absurd (none_in y c)
from_flat_map f (z ∷ xs) y c = ⊎_elim
    (λ (h : Contains (f z) y). (z, here z xs, h))
    (λ (later : Contains (flat_map f xs) y). let r = from_flat_map f xs y later in (r.0, there z r.0 xs r.1, r.2))
    (Contains-append_cases (f z) (flat_map f xs) y c)

-- a level, a track of it and a position of it
pub record IsOnTrack (d : Design) (v : Vertex) : Type 0 where
  pub level : v.level < length (levels d.tech)
  pub on_track : Contains (lines_of d.tracks v.level) (line_of d.tech v.level v.point)
  pub at_position : Contains (positions_of d.tracks v.level) (along d.tech v.level v.point)

placed : (d : Design) (level : ℕ) (line z : ℤ) → level < length (levels d.tech) → Contains (lines_of d.tracks level) line → Contains (positions_of d.tracks level) z → IsOnTrack d (vertex_at d.tech level line z)
placed d level line z lt a b = record { level = lt; on_track = subst (Contains (lines_of d.tracks level)) (sym (line_is (is_horizontal d.tech level))) a; at_position = subst (Contains (positions_of d.tracks level)) (sym (place_is (is_horizontal d.tech level))) b }
  where
    line_is : (h : Bool) → (let p : Point = cond h (record { x = z; y = line }) (record { x = line; y = z }) in cond h p.y p.x) ≡ line
    line_is true = refl
    line_is false = refl

    place_is : (h : Bool) → (let p : Point = cond h (record { x = z; y = line }) (record { x = line; y = z }) in cond h p.x p.y) ≡ z
    place_is true = refl
    place_is false = refl

from_levels : (d : Design) (count : ℕ) (v : Vertex) → count ≤ length (levels d.tech) → Contains (crossings_below d count) v → IsOnTrack d v
from_levels d zero v le c = absurd (none_in v c)
from_levels d (suc count) v le c = ⊎_elim
    (λ (h : Contains (crossings d.tech count (lines_of d.tracks count) (positions_of d.tracks count)) v).
    let a = from_flat_map (λ (line : ℤ). map (vertex_at d.tech count line) (positions_of d.tracks count)) (lines_of d.tracks count) v h in
    let b = from_map (vertex_at d.tech count a.0) (positions_of d.tracks count) v a.2 in
    subst (IsOnTrack d) (sym b.2) (placed d count a.0 b.0 (omega (arith, le)) a.1 b.1))
    (λ (h : Contains (crossings_below d count) v). from_levels d count v (omega (arith, le)) h)
    (Contains-append_cases (crossings d.tech count (lines_of d.tracks count) (positions_of d.tracks count)) (crossings_below d count) v c)

-- what is listed is on a track
pub listed_on_track : (d : Design) (v : Vertex) → Contains (vertices_of d) v → IsOnTrack d v
listed_on_track d v c = from_levels d (length (levels d.tech)) v (omega arith) (unfiltered is_near (crossings_below d (length (levels d.tech))) v c)

-- The rectangles of a polygon, one after the other.
use Rattle.std.proofs.Common.{Bool, true, false, if◌then◌else◌, fold, ◌≡◌, ℕ, ◌+◌, ◌<◌, ◌≤◌, ℤ, pos, ◌<ℤ◌, List, [], ◌∷◌, ◌++◌, length, get_or, drop, All, refl, sym, ap, subst, ◌∙◌, arith}
use Rattle.std.proofs.lemmas.List.{append_assoc, drop_more}
use Rattle.std.proofs.lemmas.List.Elements.{All-nil, All-cons, All-head, All-tail, All-append}
use Rattle.rt_base.specs.Ranges.{IsWithin, IsPointWithin, AreSidesWithin}
use Rattle.rt_base.specs.declared.geometry.Point.{Point}
use Rattle.rt_base.specs.Sides.{Sides}
use Rattle.rt_shapes.specs.Polygons.{Edge, IsAscending, edges_from, edges_of, passes, with_number, toggled, heights_of, crossed, crossings_of, slab_of, slabs_from, slabs_over, slabs_of}
use Rattle.rt_shapes.proofs.Risings.{ascending-tail, All-with_number, All-toggled}

-- one pair more
pub slab_more : (low high : ℤ) (rest : List ℤ) (start out more : List Sides) → 2 ≤ length rest → out ++ slab_of low high rest ≡ start → more ≡ out ++ record { xl = get_or rest 0 (pos 0); yl = low; xh = get_or rest 1 (pos 0); yh = high } ∷ [] → more ++ slab_of low high (drop 2 rest) ≡ start
slab_more low high [] start out more h before step = absurd (omega arith)
slab_more low high (x ∷ []) start out more h before step = absurd (omega arith)
slab_more low high (x ∷ y ∷ zs) start out more h before step = rw (step, append_assoc) before

pub pair_ascending : (rest : List ℤ) → 2 ≤ length rest → IsAscending rest → get_or rest 0 (pos 0) <ℤ get_or rest 1 (pos 0)
pair_ascending rest h up = up 0 1 (pos 0) (omega arith) (omega arith)

pub rest_ascending : (rest : List ℤ) → IsAscending rest → IsAscending (drop 2 rest)
rest_ascending [] up = up
rest_ascending (x ∷ []) up = ascending-tail x [] up
rest_ascending (x ∷ y ∷ zs) up = ascending-tail y zs (ascending-tail x (y ∷ zs) up)

-- one height more
pub slabs_more : (edges : List Edge) (low : ℤ) (above : List ℤ) (i : ℕ) (high : ℤ) (start out more : List Sides) → i < length above → high ≡ get_or above i (pos 0) → out ++ slabs_from edges low (drop i above) ≡ start → more ≡ out ++ slab_of low high (crossings_of low edges) → more ++ slabs_from edges high (drop (i + 1) above) ≡ start
slabs_more edges low above i high start out more within is before step =
    let split : drop i above ≡ high ∷ drop (i + 1) above = drop_more above i (pos 0) within ∙ ap (λ z. z ∷ drop (i + 1) above) (sym is) in
    rw (step, append_assoc) (rw split at before)

pub next_ascending : (low : ℤ) (above : List ℤ) (i : ℕ) (high : ℤ) → i < length above → high ≡ get_or above i (pos 0) → IsAscending (low ∷ drop i above) → (low <ℤ high) × IsAscending (high ∷ drop (i + 1) above)
next_ascending low above i high within is up =
    let split : drop i above ≡ high ∷ drop (i + 1) above = drop_more above i (pos 0) within ∙ ap (λ z. z ∷ drop (i + 1) above) (sym is) in
    let both : IsAscending (low ∷ high ∷ drop (i + 1) above) = subst (λ l. IsAscending (low ∷ l)) split up in
    (both 0 1 (pos 0) (omega arith) (omega arith), ascending-tail low (high ∷ drop (i + 1) above) both)

-- the lowest height and those above it
pub heights_split : (ys : List ℤ) → 1 ≤ length ys → ys ≡ get_or ys 0 (pos 0) ∷ drop 1 ys
heights_split [] h = absurd (omega arith)
heights_split (y ∷ ys) h = refl

-- the sides of the rectangles are coordinates of the points
crossings_within : (Q : ℤ → Type 0) (y : ℤ) (xs : List ℤ) (edges : List Edge) → All Q xs → All (λ (e : Edge). Q e.from.x) edges → All Q (fold (crossed y) xs edges)
crossings_within Q y xs [] all each = all
crossings_within Q y xs (e ∷ es) all each = crossings_within Q y (crossed y xs e) es (by_test (passes y e)) (All-tail (λ (f : Edge). Q f.from.x) e es each)
  where
    by_test : (b : Bool) → All Q (if b then toggled e.from.x xs else xs)
    by_test true = All-toggled Q e.from.x xs (All-head (λ (f : Edge). Q f.from.x) e es each) all
    by_test false = all

pub heights_within : (Q : ℤ → Type 0) (ys : List ℤ) (points : List Point) → All Q ys → All (λ (p : Point). Q p.y) points → All Q (fold (λ zs (p : Point). with_number p.y zs) ys points)
heights_within Q ys [] all each = all
heights_within Q ys (p ∷ ps) all each = heights_within Q (with_number p.y ys) ps (All-with_number Q p.y ys (All-head (λ (q : Point). Q q.y) p ps each) all) (All-tail (λ (q : Point). Q q.y) p ps each)

-- each edge goes from a point to a point
ends_from : (P : Point → Type 0) (first p : Point) (ps : List Point) → P first → All P (p ∷ ps) → All (λ (e : Edge). P e.from × P e.to) (edges_from first p ps)
ends_from P first p [] start all = All-cons (λ (e : Edge). P e.from × P e.to) (record { from = p; to = first }) [] (All-head P p [] all, start) (All-nil (λ (e : Edge). P e.from × P e.to))
ends_from P first p (q ∷ qs) start all =
    let rest = All-tail P p (q ∷ qs) all in
    All-cons (λ (e : Edge). P e.from × P e.to) (record { from = p; to = q }) (edges_from first q qs) (All-head P p (q ∷ qs) all, All-head P q qs rest) (ends_from P first q qs start rest)

pub ends_of : (P : Point → Type 0) (points : List Point) → All P points → All (λ (e : Edge). P e.from × P e.to) (edges_of points)
ends_of P [] all = All-nil (λ (e : Edge). P e.from × P e.to)
ends_of P (p ∷ ps) all = ends_from P p p ps (All-head P p ps all) all

slab_within : (most : ℕ) (low high : ℤ) (xs : List ℤ) → IsWithin most low → IsWithin most high → All (IsWithin most) xs → All (AreSidesWithin most) (slab_of low high xs)
slab_within most low high [] l h all = All-nil (AreSidesWithin most)
slab_within most low high (x ∷ []) l h all = All-nil (AreSidesWithin most)
slab_within most low high (x ∷ z ∷ xs) l h all =
    let rest = All-tail (IsWithin most) x (z ∷ xs) all in
    All-cons (AreSidesWithin most) (record { xl = x; yl = low; xh = z; yh = high }) (slab_of low high xs) (All-head (IsWithin most) x (z ∷ xs) all, l, All-head (IsWithin most) z xs rest, h) (slab_within most low high xs l h (All-tail (IsWithin most) z xs rest))

slabs_from_within : (most : ℕ) (edges : List Edge) (low : ℤ) (ys : List ℤ) → All (λ (e : Edge). IsWithin most e.from.x) edges → IsWithin most low → All (IsWithin most) ys → All (AreSidesWithin most) (slabs_from edges low ys)
slabs_from_within most edges low [] each l all = All-nil (AreSidesWithin most)
slabs_from_within most edges low (high ∷ ys) each l all =
    let h = All-head (IsWithin most) high ys all in
    All-append (AreSidesWithin most) (slab_of low high (crossings_of low edges)) (slabs_from edges high ys) (slab_within most low high (crossings_of low edges) l h (crossings_within (IsWithin most) low [] edges (All-nil (IsWithin most)) each)) (slabs_from_within most edges high ys each h (All-tail (IsWithin most) high ys all))

slabs_over_within : (most : ℕ) (edges : List Edge) (ys : List ℤ) → All (λ (e : Edge). IsWithin most e.from.x) edges → All (IsWithin most) ys → All (AreSidesWithin most) (slabs_over edges ys)
slabs_over_within most edges [] each all = All-nil (AreSidesWithin most)
slabs_over_within most edges (low ∷ ys) each all = slabs_from_within most edges low ys each (All-head (IsWithin most) low ys all) (All-tail (IsWithin most) low ys all)

pub slabs_within : (most : ℕ) (points : List Point) → All (IsPointWithin most) points → All (AreSidesWithin most) (slabs_of points)
slabs_within most points all = slabs_over_within most (edges_of points) (heights_of points) (λ k d h. (ends_of (λ (p : Point). IsWithin most p.x) points (λ i e w. (all i e w).0) k d h).0) (heights_within (IsWithin most) [] points (All-nil (IsWithin most)) (λ k d h. (all k d h).1))

-- That the rectangles of a polygon are its inside by the even-odd rule.
use Rattle.std.proofs.Common.{◌≡◌, ◌⊎◌, ◌%◌, ◌-ℤ◌, ◌<ℤ◌, ◌≤ℤ◌, ◌&&◌, [], ◌∷◌, ◌∙◌, ℕ, ℤ, Bool, true, false, inl, inr, pos, int_lt, int_le, List, fold, get_or, All, Any, AllPairs, count_by, refl, sym, ap, subst, arith}
use Rattle.std.proofs.lemmas.Int.{ints, by_lt_z}
use Rattle.std.proofs.lemmas.List.Elements.{All-nil, All-head, All-tail, All-append}
use Rattle.rt_base.specs.Sides.{Sides}
use Rattle.rt_base.specs.declared.geometry.Point.{Point}
use Rattle.rt_shapes.specs.Polygons.{Edge, IsAscending, edges_of, passes, heights_of, crossed, crossings_of, slab_of, slabs_from, slabs_over, slabs_of}
use Rattle.rt_shapes.specs.EvenOdd.{IsInside, HasSquare, AreNeighbours, IsWidest, IsBefore, AreSlabs}
use Rattle.rt_shapes.proofs.Risings.{lt_true, lt_false, ascending-head, ascending-tail, ascending-nil, ascending-toggled}
use Rattle.rt_shapes.proofs.Parity.{count-agree, count-none, count-crossings, passes-differ, crossings-even}
use Rattle.rt_shapes.proofs.SlabLemmas.{ends_of, heights_within}
use Rattle.rt_shapes.proofs.Somewhere.{any-none, any-left, any-right, any-sides, all_pairs-nil, all_pairs-append}
use Rattle.rt_shapes.proofs.PairLemmas.{upto, pairs-cover, slab-pairs, pairs-ordered, IsPair}
use Rattle.rt_shapes.proofs.HeightLemmas.{IsOneOf, one_of-all, heights-have, heights-ascending, IsHeight, own-heights}

crossed-ascending : (y : ℤ) (xs : List ℤ) (edges : List Edge) → IsAscending xs → IsAscending (fold (crossed y) xs edges)
crossed-ascending y xs [] up = up
crossed-ascending y xs (e ∷ es) up = crossed-ascending y (crossed y xs e) es (one (passes y e) refl)
  where
    one : (b : Bool) → passes y e ≡ b → IsAscending (crossed y xs e)
    one true is = rw is (ascending-toggled e.from.x xs up)
    one false is = rw is up

pub crossings-ascending : (y : ℤ) (edges : List Edge) → IsAscending (crossings_of y edges)
crossings-ascending y edges = crossed-ascending y [] edges ascending-nil

-- all rows between two neighbouring heights are alike
alike : (low high y z : ℤ) → low ≤ℤ y → y <ℤ high → (z ≤ℤ low) ⊎ (high ≤ℤ z) → int_lt y z ≡ int_lt low z
alike low high y z l h (inl below) = lt_false y z (omega (arith, ints)) ∙ sym (lt_false low z below)
alike low high y z l h (inr above) = lt_true y z (omega (arith, ints)) ∙ sym (lt_true low z (omega (arith, ints)))

same_passes : (low y : ℤ) (e : Edge) → int_lt y e.from.y ≡ int_lt low e.from.y → int_lt y e.to.y ≡ int_lt low e.to.y → passes y e ≡ passes low e
same_passes low y e from to = rw (passes-differ y e, passes-differ low e, from, to)

row-same : (points : List Point) (low high y : ℤ) (p : ℤ → Bool) → AreNeighbours points low high → low ≤ℤ y → y <ℤ high → count_by (λ (e : Edge). passes y e && p e.from.x) (edges_of points) ≡ count_by (λ (e : Edge). passes low e && p e.from.x) (edges_of points)
row-same points low high y p near l h = count-agree (λ (e : Edge). passes y e && p e.from.x) (λ (e : Edge). passes low e && p e.from.x) (edges_of points) (λ k d w. ap (λ b. b && p (get_or (edges_of points) k d).from.x) (same_passes low y (get_or (edges_of points) k d) (ends k d w).0 (ends k d w).1))
  where
    ends : All (λ (e : Edge). (int_lt y e.from.y ≡ int_lt low e.from.y) × (int_lt y e.to.y ≡ int_lt low e.to.y)) (edges_of points)
    ends = ends_of (λ (q : Point). int_lt y q.y ≡ int_lt low q.y) points (λ k d w. alike low high y (get_or points k d).y l h (near.none_between k d w))

row-parity : (points : List Point) (low high x y : ℤ) → AreNeighbours points low high → low ≤ℤ y → y <ℤ high → upto x (crossings_of low (edges_of points)) % 2 ≡ count_by (λ (e : Edge). passes y e && int_le e.from.x x) (edges_of points) % 2
row-parity points low high x y near l h = count-crossings (λ z. int_le z x) low (edges_of points) ∙ ap (λ n. n % 2) (sym (row-same points low high y (λ z. int_le z x) near l h))

-- one slab
slab-covers : (points : List Point) (low high x y : ℤ) → AreNeighbours points low high → low ≤ℤ y → y <ℤ high → IsInside (edges_of points) x y → Any (HasSquare x y) (slab_of low high (crossings_of low (edges_of points)))
slab-covers points low high x y near l h inside = pairs-cover x y low high (crossings_of low (edges_of points)) (crossings-ascending low (edges_of points)) (crossings-even low points) l h (row-parity points low high x y near l h ∙ inside)

slab-inside : (points : List Point) (low high x y : ℤ) → AreNeighbours points low high → Any (HasSquare x y) (slab_of low high (crossings_of low (edges_of points))) → IsInside (edges_of points) x y
slab-inside points low high x y near (k, s, lt, is, has) =
    let xs = crossings_of low (edges_of points) in
    let pairs = slab-pairs low high xs (crossings-ascending low (edges_of points)) in
    let pair : IsPair pairs.0 low high xs s = subst (IsPair pairs.0 low high xs) is (pairs.1 k s lt) in
    let l : low ≤ℤ y = subst (λ z. z ≤ℤ y) pair.lower has.low in
    let h : y <ℤ high = subst (λ z. y <ℤ z) pair.upper has.high in
    sym (row-parity points low high x y near l h) ∙ pair.within x has.left has.right

slab-between : (points : List Point) (low high : ℤ) → AreNeighbours points low high → All (λ (s : Sides). AreNeighbours points s.yl s.yh) (slab_of low high (crossings_of low (edges_of points)))
slab-between points low high near k d h =
    let xs = crossings_of low (edges_of points) in
    let pairs = slab-pairs low high xs (crossings-ascending low (edges_of points)) in
    let s = get_or (slab_of low high xs) k d in
    let pair : IsPair pairs.0 low high xs s = pairs.1 k d h in
    subst (λ z. AreNeighbours points z s.yh) (sym pair.lower) (subst (λ z. AreNeighbours points low z) (sym pair.upper) near)

slab-widest : (points : List Point) (low high : ℤ) → AreNeighbours points low high → All (IsWidest (edges_of points)) (slab_of low high (crossings_of low (edges_of points)))
slab-widest points low high near k d h =
    let edges = edges_of points in
    let xs = crossings_of low edges in
    let pairs = slab-pairs low high xs (crossings-ascending low edges) in
    let s = get_or (slab_of low high xs) k d in
    let pair : IsPair pairs.0 low high xs s = pairs.1 k d h in
    let parity : (x y : ℤ) → s.yl ≤ℤ y → y <ℤ s.yh → upto x xs % 2 ≡ count_by (λ (e : Edge). passes y e && int_le e.from.x x) edges % 2 = λ x y l u. row-parity points low high x y near (subst (λ z. z ≤ℤ y) pair.lower l) (subst (λ z. y <ℤ z) pair.upper u) in
    record {
      wide = pair.wide;
      left = λ y l u inside. apart (upto (s.xl -ℤ pos 1) xs % 2) pair.before (parity (s.xl -ℤ pos 1) y l u ∙ inside);
      right = λ y l u inside. apart (upto s.xh xs % 2) pair.behind (parity s.xh y l u ∙ inside);
    }
  where
    apart : (n : ℕ) → n ≡ 0 → n ≡ 1 → ⊥
    apart n e f = omega arith

-- from a height on, each height and the next one are neighbours, and no point is above the last
abbrev Rows : List Point → ℤ → List ℤ → Type 0
Rows points low [] = All (λ (p : Point). p.y ≤ℤ low) points
Rows points low (high ∷ ys) = AreNeighbours points low high × Rows points high ys

-- where all points are above or none is, nothing is inside
none-inside : (points : List Point) (x y : ℤ) (b : Bool) → All (λ (p : Point). int_lt y p.y ≡ b) points → IsInside (edges_of points) x y → ⊥
none-inside points x y b all inside =
    let none = count-none (λ (e : Edge). passes y e && int_le e.from.x x) (edges_of points) (λ k d h. no_pass b (get_or (edges_of points) k d) ((ends_of (λ (p : Point). int_lt y p.y ≡ b) points all k d h).0) ((ends_of (λ (p : Point). int_lt y p.y ≡ b) points all k d h).1)) in
    absurd (omega arith)
  where
    no_pass : (c : Bool) (e : Edge) → int_lt y e.from.y ≡ c → int_lt y e.to.y ≡ c → (passes y e && int_le e.from.x x) ≡ false
    no_pass true e from to = rw (passes-differ y e, from, to)
    no_pass false e from to = rw (passes-differ y e, from, to)

slabs_from-cover : (points : List Point) (low x y : ℤ) (ys : List ℤ) → Rows points low ys → low ≤ℤ y → IsInside (edges_of points) x y → Any (HasSquare x y) (slabs_from (edges_of points) low ys)
slabs_from-cover points low x y [] rows l inside = absurd (none-inside points x y false (λ k d h. under (get_or points k d).y (rows k d h)) inside)
  where
    under : (z : ℤ) → z ≤ℤ low → int_lt y z ≡ false
    under z le = lt_false y z (omega (arith, ints))
slabs_from-cover points low x y (high ∷ ys) rows l inside = by_lt_z y high
    (λ lt. any-left (HasSquare x y) (slab_of low high (crossings_of low (edges_of points))) (slabs_from (edges_of points) high ys) (slab-covers points low high x y rows.0 l lt inside))
    (λ past. any-right (HasSquare x y) (slab_of low high (crossings_of low (edges_of points))) (slabs_from (edges_of points) high ys) (slabs_from-cover points high x y ys rows.1 past inside))

slabs_from-inside : (points : List Point) (low x y : ℤ) (ys : List ℤ) → Rows points low ys → Any (HasSquare x y) (slabs_from (edges_of points) low ys) → IsInside (edges_of points) x y
slabs_from-inside points low x y [] rows some = absurd (any-none (HasSquare x y) some)
slabs_from-inside points low x y (high ∷ ys) rows some = elim (any-sides (HasSquare x y) (slab_of low high (crossings_of low (edges_of points))) (slabs_from (edges_of points) high ys) some) [
  | inl h ↦ slab-inside points low high x y rows.0 h
  | inr h ↦ slabs_from-inside points high x y ys rows.1 h
]

slabs_from-between : (points : List Point) (low : ℤ) (ys : List ℤ) → Rows points low ys → All (λ (s : Sides). AreNeighbours points s.yl s.yh) (slabs_from (edges_of points) low ys)
slabs_from-between points low [] rows = All-nil (λ (s : Sides). AreNeighbours points s.yl s.yh)
slabs_from-between points low (high ∷ ys) rows = All-append (λ (s : Sides). AreNeighbours points s.yl s.yh) (slab_of low high (crossings_of low (edges_of points))) (slabs_from (edges_of points) high ys) (slab-between points low high rows.0) (slabs_from-between points high ys rows.1)

slabs_from-widest : (points : List Point) (low : ℤ) (ys : List ℤ) → Rows points low ys → All (IsWidest (edges_of points)) (slabs_from (edges_of points) low ys)
slabs_from-widest points low [] rows = All-nil (IsWidest (edges_of points))
slabs_from-widest points low (high ∷ ys) rows = All-append (IsWidest (edges_of points)) (slab_of low high (crossings_of low (edges_of points))) (slabs_from (edges_of points) high ys) (slab-widest points low high rows.0) (slabs_from-widest points high ys rows.1)

slab-height : (edges : List Edge) (low high : ℤ) → All (λ (s : Sides). s.yl ≡ low) (slab_of low high (crossings_of low edges))
slab-height edges low high k d h = ((slab-pairs low high (crossings_of low edges) (crossings-ascending low edges)).1 k d h).lower

slabs_from-above : (points : List Point) (low : ℤ) (ys : List ℤ) → Rows points low ys → All (λ (s : Sides). low ≤ℤ s.yl) (slabs_from (edges_of points) low ys)
slabs_from-above points low [] rows = All-nil (λ (s : Sides). low ≤ℤ s.yl)
slabs_from-above points low (high ∷ ys) rows = All-append (λ (s : Sides). low ≤ℤ s.yl) (slab_of low high (crossings_of low (edges_of points))) (slabs_from (edges_of points) high ys)
    (λ k d h. here (get_or (slab_of low high (crossings_of low (edges_of points))) k d).yl (slab-height (edges_of points) low high k d h))
    (λ k d h. later (get_or (slabs_from (edges_of points) high ys) k d).yl rows.0.rising (slabs_from-above points high ys rows.1 k d h))
  where
    here : (z : ℤ) → z ≡ low → low ≤ℤ z
    here z e = omega (arith, ints)

    later : (z : ℤ) → low <ℤ high → high ≤ℤ z → low ≤ℤ z
    later z lt le = omega (arith, ints)

slabs_from-ordered : (points : List Point) (low : ℤ) (ys : List ℤ) → Rows points low ys → AllPairs IsBefore (slabs_from (edges_of points) low ys)
slabs_from-ordered points low [] rows = all_pairs-nil IsBefore
slabs_from-ordered points low (high ∷ ys) rows = all_pairs-append IsBefore (slab_of low high (crossings_of low (edges_of points))) (slabs_from (edges_of points) high ys) (pairs-ordered low high (crossings_of low (edges_of points)) (crossings-ascending low (edges_of points))) (slabs_from-ordered points high ys rows.1)
    (λ k d h i e w. inl (below (get_or (slab_of low high (crossings_of low (edges_of points))) k d).yl (get_or (slabs_from (edges_of points) high ys) i e).yl (slab-height (edges_of points) low high k d h) rows.0.rising (slabs_from-above points high ys rows.1 i e w)))
  where
    below : (z w : ℤ) → z ≡ low → low <ℤ high → high ≤ℤ w → z <ℤ w
    below z w e lt le = omega (arith, ints)

rows_from : (points : List Point) (low : ℤ) (ys : List ℤ) → IsAscending (low ∷ ys) → IsHeight points low → All (IsHeight points) ys → All (λ (p : Point). (p.y ≤ℤ low) ⊎ IsOneOf p.y ys) points → Rows points low ys
rows_from points low [] up here all each = λ k d h. elim (each k d h) [ inl le ↦ le | inr one ↦ absurd one ]
rows_from points low (high ∷ ys) up here all each =
    let rest = ascending-tail low (high ∷ ys) up in
    let rising : low <ℤ high = up 0 1 (pos 0) (omega arith) (omega arith) in
    let next = All-head (IsHeight points) high ys all in (
      record { lower = here; upper = next; rising = rising; none_between = λ k d h. apart (get_or points k d).y (each k d h) rest },
      rows_from points high ys rest next (All-tail (IsHeight points) high ys all) (λ k d h. further (get_or points k d).y rising (each k d h)),
    )
  where
    apart : (z : ℤ) → (z ≤ℤ low) ⊎ IsOneOf z (high ∷ ys) → IsAscending (high ∷ ys) → (z ≤ℤ low) ⊎ (high ≤ℤ z)
    apart z (inl le) rest = inl le
    apart z (inr (inl is)) rest = inr (omega (arith, ints))
    apart z (inr (inr one)) rest = let lt : high <ℤ z = one_of-all (λ w. high <ℤ w) z ys (ascending-head high ys rest) one in inr (omega (arith, ints))

    further : (z : ℤ) → low <ℤ high → (z ≤ℤ low) ⊎ IsOneOf z (high ∷ ys) → (z ≤ℤ high) ⊎ IsOneOf z ys
    further z lt (inl le) = inl (omega (arith, ints))
    further z lt (inr (inl is)) = inl (omega (arith, ints))
    further z lt (inr (inr one)) = inr one

slabs-over : (points : List Point) (ys : List ℤ) → IsAscending ys → All (IsHeight points) ys → All (λ (p : Point). IsOneOf p.y ys) points → AreSlabs points (slabs_over (edges_of points) ys)
slabs-over points [] up all each = record {
  inside = λ x y. (λ some. absurd (any-none (HasSquare x y) some), λ inside. absurd (none-inside points x y true (λ k d h. absurd (each k d h)) inside));
  between = All-nil (λ (s : Sides). AreNeighbours points s.yl s.yh);
  widest = All-nil (IsWidest (edges_of points));
  ordered = all_pairs-nil IsBefore;
}
slabs-over points (low ∷ ys) up all each =
    let rows = rows_from points low ys up (All-head (IsHeight points) low ys all) (All-tail (IsHeight points) low ys all) (λ k d h. at_or_later (get_or points k d).y (each k d h)) in
    record {
      inside = λ x y. (
        slabs_from-inside points low x y ys rows,
        λ inside. by_lt_z y low
            (λ lt. absurd (none-inside points x y true (λ k d h. over y (get_or points k d).y lt (each k d h)) inside))
            (λ from. slabs_from-cover points low x y ys rows from inside),
      );
      between = slabs_from-between points low ys rows;
      widest = slabs_from-widest points low ys rows;
      ordered = slabs_from-ordered points low ys rows;
    }
  where
    at_or_later : (z : ℤ) → IsOneOf z (low ∷ ys) → (z ≤ℤ low) ⊎ IsOneOf z ys
    at_or_later z (inl is) = inl (omega (arith, ints))
    at_or_later z (inr one) = inr one

    over : (y z : ℤ) → y <ℤ low → IsOneOf z (low ∷ ys) → int_lt y z ≡ true
    over y z lt (inl is) = lt_true y z (omega (arith, ints))
    over y z lt (inr one) = let above : low <ℤ z = one_of-all (λ w. low <ℤ w) z ys (ascending-head low ys up) one in lt_true y z (omega (arith, ints))

pub slabs-even_odd : (points : List Point) → AreSlabs points (slabs_of points)
slabs-even_odd points = slabs-over points (heights_of points) (heights-ascending [] points ascending-nil) (heights_within (IsHeight points) [] points (All-nil (IsHeight points)) (own-heights points)) (heights-have [] points)

-- Rows of tiles as spans of their numbers.
use Rattle.std.proofs.Common.{◌≡◌, ◌⊎◌, ◌↔◌, ◌∙◌, ℕ, ◌+◌, ◌-◌, ◌*◌, ◌/◌, ◌%◌, ◌^◌, ◌<◌, ◌≤◌, ℤ, pos, negsuc, ◌+ℤ◌, ◌≤ℤ◌, ◌<ℤ◌, List, [], ◌∷◌, ◌++◌, length, get_or, take, Option, option_map, unwrap_or, All, AllPairs, Any, Contains, inl, inr, refl, sym, ap, subst, arith, to_z, of_z, w64, unsigned_abs}
use Rattle.std.proofs.lemmas.Int.{ints, to_z-of_z}
use Rattle.std.proofs.lemmas.Bool.{cases_lt}
use Rattle.std.proofs.lemmas.Nat.{div-mul-add, mod-mul-add, div-add-mod', mul-add-lt}
use Rattle.std.proofs.lemmas.List.{get_or-take, get_or_default, length-take-le, take_all}
use Rattle.std.proofs.lemmas.List.Elements.{All-push, All-weaker, Contains-get_or, Contains-push, Contains-push_cases, Contains-append_left}
use Rattle.rt_base.specs.Sides.{Sides}
use Rattle.rt_base.specs.Tiles.{side_of, columns_of, rows_of, column_of, row_of, Meets}
use Rattle.rt_base.specs.declared.geometry.Span.{Span}
use Rattle.rt_base.specs.declared.grid.Grid.{Grid}
use Rattle.rt_base.proofs.Ranges.{fits_from_within, within-from_range}
use Rattle.rt_base.proofs.Tiling.{Meets-Spans, Spans-Meets, number_along-le}
use Rattle.track_graph.specs.declared.design.Design.{Design}
use Rattle.track_graph.specs.Searches.{guide_of}
use Rattle.regions.specs.Halo.{IsHalo}
use Rattle.regions.specs.Spans.{InSpan, InSpans, AreFull, AreApart, AreSpansOf}
use Rattle.regions.specs.Tiles.{IsMet, AddsMet, AreMet, MeetsGuide, IsTileOf}
use Rattle.regions.proofs.Bounds.{halo_unique}
use Rattle.regions.proofs.SpanLemmas.{ends_in}
use Rattle.std.proofs.lemmas.List.Quantifiers.{all_pairs_push}
use Rattle.rt_base.specs.Geometry.{grown}
use Rattle.regions.proofs.Lists.{any_push, any_more}
use Rattle.std.proofs.lemmas.Option.{slice_get_past}
use Rattle.track_graph.specs.declared.design.Net.{Net}
use Rattle.rt_base.proofs.Lists.{Any-none, none_in}

-- the numbers of the tiles in these columns of a row
abbrev pub run : ℕ → ℕ → ℕ → ℕ → Span
run columns row left right = record { lo = pos (row * columns + left); hi = pos (row * columns + right) }

-- the number of a tile in these rows, from the first to the one before the last, and columns
abbrev pub InRows : ℕ → ℕ → ℕ → ℕ → ℕ → ℤ → Type 0
InRows columns first last left right z = (tile : ℕ) × (z ≡ pos tile) × (first ≤ tile / columns) × (tile / columns < last) × (left ≤ tile % columns) × (tile % columns ≤ right)

in_run : (columns row left right : ℕ) (z : ℤ) → right < columns → InSpan (run columns row left right) z → InRows columns row (row + 1) left right z
in_run columns row left right (negsuc n) small h = absurd (omega (arith, ints, h.0))
in_run columns row left right (pos n) small h =
    let low : row * columns + left ≤ n = omega (arith, ints, h.0) in
    let high : n ≤ row * columns + right = omega (arith, ints, h.1) in
    let e : n ≡ row * columns + (n - row * columns) = omega (arith, low) in
    let lt : n - row * columns < columns = omega (arith, high, small) in
    let row_is : n / columns ≡ row = ap (λ (m : ℕ). m / columns) e ∙ div-mul-add row columns (n - row * columns) lt in
    let column_is : n % columns ≡ n - row * columns = ap (λ (m : ℕ). m % columns) e ∙ mod-mul-add row columns (n - row * columns) lt in
    (n, refl, omega (arith, row_is), omega (arith, row_is), omega (arith, column_is, low), omega (arith, column_is, high))

run_has : (columns row left right tile : ℕ) → tile / columns ≡ row → left ≤ tile % columns → tile % columns ≤ right → InSpan (run columns row left right) (pos tile)
run_has columns row left right tile is low high =
    let whole : row * columns + tile % columns ≡ tile = ap (λ (q : ℕ). q * columns + tile % columns) (sym is) ∙ div-add-mod' tile columns in
    (omega (arith, ints, whole, low), omega (arith, ints, whole, high))

-- one row more
pub rows_more : (columns first row left right : ℕ) (z : ℤ) → first ≤ row → right < columns → (InRows columns first row left right z ⊎ InSpan (run columns row left right) z) ↔ InRows columns first (row + 1) left right z
rows_more columns first row left right z from small = (to, back)
  where
    to : InRows columns first row left right z ⊎ InSpan (run columns row left right) z → InRows columns first (row + 1) left right z
    to (inl (tile, is, low, high, l, r)) = (tile, is, low, omega (arith, high), l, r)
    to (inr h) = let t = in_run columns row left right z small h in (t.0, t.1, omega (arith, t.2, from), t.3, t.4, t.5)

    back : InRows columns first (row + 1) left right z → InRows columns first row left right z ⊎ InSpan (run columns row left right) z
    back (tile, is, low, high, l, r) =
        elim (cases_lt (tile / columns) row) [
          | inl before ↦ inl (tile, is, low, before, l, r)
          | inr after ↦ inr (subst (InSpan (run columns row left right)) (sym is) (run_has columns row left right tile (omega (arith, after, high)) l r))
        ]

-- what the rows up to one, and not itself, have added
pub record AddsRows (g : Grid) (s : Sides) (last : ℕ) (old new : List Span) : Type 0 where
  from : row_of g s.yl ≤ last
  most : last ≤ row_of g s.yh + 1
  full : AreFull old → AreFull new
  exact : (z : ℤ) → InSpans new z ↔ (InSpans old z ⊎ InRows (columns_of g) (row_of g s.yl) last (column_of g s.xl) (column_of g s.xh) z)

-- no row yet
pub rows_none : (g : Grid) (s : Sides) (old : List Span) → 0 < side_of g → s.yl ≤ℤ s.yh → AddsRows g s (row_of g s.yl) old old
rows_none g s old some tall = record { from = omega arith; most = omega (arith, number_along-le g.die.yl s.yl s.yh (side_of g) (rows_of g) some tall); full = λ h. h; exact = λ z. (λ h. inl h, λ h. only h) }
  where
    only : {z : ℤ} → InSpans old z ⊎ InRows (columns_of g) (row_of g s.yl) (row_of g s.yl) (column_of g s.xl) (column_of g s.xh) z → InSpans old z
    only (inl h) = h
    only (inr (tile, is, low, high, l, r)) = absurd (omega (arith, low, high))

columns_few : (g : Grid) (x : ℤ) → column_of g x < columns_of g
columns_few g x = omega arith

-- one row more
pub rows_next : (g : Grid) (s : Sides) (row : ℕ) (old new : List Span) → 0 < side_of g → s.xl ≤ℤ s.xh → row ≤ row_of g s.yh → AddsRows g s row old new
    → AddsRows g s (row + 1) old (new ++ run (columns_of g) row (column_of g s.xl) (column_of g s.xh) ∷ [])
rows_next g s row old new some wide within h =
    let columns = columns_of g in
    let left = column_of g s.xl in
    let right = column_of g s.xh in
    let this : Span = run columns row left right in
    let ordered : left ≤ right = number_along-le g.die.xl s.xl s.xh (side_of g) columns some wide in
    record {
      from = omega (arith, h.from);
      most = omega (arith, within);
      full = λ ok. All-push (λ (t : Span). t.lo ≤ℤ t.hi) new this (h.full ok) (omega (arith, ints, ordered));
      exact = λ z. (
        λ j. to z ((any_push (λ (t : Span). InSpan t z) new this).0 j),
        λ j. (any_push (λ (t : Span). InSpan t z) new this).1 (back z j),
      );
    }
  where
    more : (z : ℤ) → (InRows (columns_of g) (row_of g s.yl) row (column_of g s.xl) (column_of g s.xh) z ⊎ InSpan (run (columns_of g) row (column_of g s.xl) (column_of g s.xh)) z) ↔ InRows (columns_of g) (row_of g s.yl) (row + 1) (column_of g s.xl) (column_of g s.xh) z
    more z = rows_more (columns_of g) (row_of g s.yl) row (column_of g s.xl) (column_of g s.xh) z h.from (columns_few g s.xh)

    early : (z : ℤ) → InSpans old z ⊎ InRows (columns_of g) (row_of g s.yl) row (column_of g s.xl) (column_of g s.xh) z → InSpans old z ⊎ InRows (columns_of g) (row_of g s.yl) (row + 1) (column_of g s.xl) (column_of g s.xh) z
    early z (inl o) = inl o
    early z (inr r) = inr ((more z).0 (inl r))

    to : (z : ℤ) → InSpans new z ⊎ InSpan (run (columns_of g) row (column_of g s.xl) (column_of g s.xh)) z → InSpans old z ⊎ InRows (columns_of g) (row_of g s.yl) (row + 1) (column_of g s.xl) (column_of g s.xh) z
    to z (inl j) = early z ((h.exact z).0 j)
    to z (inr j) = inr ((more z).0 (inr j))

    row_back : (z : ℤ) → InRows (columns_of g) (row_of g s.yl) row (column_of g s.xl) (column_of g s.xh) z ⊎ InSpan (run (columns_of g) row (column_of g s.xl) (column_of g s.xh)) z → InSpans new z ⊎ InSpan (run (columns_of g) row (column_of g s.xl) (column_of g s.xh)) z
    row_back z (inl r) = inl ((h.exact z).1 (inr r))
    row_back z (inr j) = inr j

    back : (z : ℤ) → InSpans old z ⊎ InRows (columns_of g) (row_of g s.yl) (row + 1) (column_of g s.xl) (column_of g s.xh) z → InSpans new z ⊎ InSpan (run (columns_of g) row (column_of g s.xl) (column_of g s.xh)) z
    back z (inl o) = inl ((h.exact z).1 (inl o))
    back z (inr r) = row_back z ((more z).1 r)

-- the number of a tile fits in 32 bits
pub number_small : (g : Grid) (x y : ℤ) (row columns column : ℕ) → columns ≡ columns_of g → column ≡ column_of g x → row ≤ row_of g y → columns_of g * rows_of g < 2 ^ 32 → row * columns + column < 2 ^ 32
number_small g x y row columns column of_g of_x le count =
    let few : row_of g y < rows_of g = omega arith in
    let within : row < rows_of g = omega (arith, le, few) in
    omega (arith, ap (λ (n : ℕ). row * n) of_g, of_x, mul-add-lt row (columns_of g) (column_of g x) (rows_of g) within (columns_few g x), count)

abbrev pub span : ℤ → ℤ → Span
span lo hi = record { lo = lo; hi = hi }

-- such a number as an `i64`
pub kept : (n : ℕ) (z : ℤ) → z ≡ pos n → n < 2 ^ 32 → to_z w64 (of_z w64 z) ≡ z
kept n z is small =
    let low : pos 0 ≤ℤ z = omega (arith, ints, is) in
    let high : z ≤ℤ pos (2 ^ 61) = omega (arith, ints, is, small) in
    to_z-of_z w64 z (fits_from_within z (within-from_range _ _ low high))

pub kept_small : (z : ℤ) → pos 0 ≤ℤ z → z <ℤ pos (2 ^ 32) → to_z w64 (of_z w64 z) ≡ z
kept_small z low lt =
    let high : z ≤ℤ pos (2 ^ 61) = omega (arith, ints, lt) in
    to_z-of_z w64 z (fits_from_within z (within-from_range _ _ low high))

-- one row more, by the numbers of its ends
pub row_added : (g : Grid) (s : Sides) (row columns left right : ℕ) (lo hi : ℤ) (old new : List Span) → columns ≡ columns_of g → left ≡ column_of g s.xl → right ≡ column_of g s.xh → lo ≡ pos (row * columns + left) → hi ≡ pos (row * columns + right) → 0 < side_of g → s.xl ≤ℤ s.xh → row ≤ row_of g s.yh
    → AddsRows g s row old new → AddsRows g s (row + 1) old (new ++ record { lo = lo; hi = hi } ∷ [])
row_added g s row columns left right lo hi old new of_g of_left of_right lo_is hi_is some wide within h =
    let e : pos (row * columns_of g + column_of g s.xl) ≡ lo = sym (lo_is ∙ ap (λ (n : ℕ). pos (row * n + left)) of_g ∙ ap (λ (n : ℕ). pos (row * columns_of g + n)) of_left) in
    let f : pos (row * columns_of g + column_of g s.xh) ≡ hi = sym (hi_is ∙ ap (λ (n : ℕ). pos (row * n + right)) of_g ∙ ap (λ (n : ℕ). pos (row * columns_of g + n)) of_right) in
    subst (λ (z : ℤ). AddsRows g s (row + 1) old (new ++ span z hi ∷ [])) e
    (subst (λ (z : ℤ). AddsRows g s (row + 1) old (new ++ span (pos (row * columns_of g + column_of g s.xl)) z ∷ [])) f (rows_next g s row old new some wide within h))

-- all rows of a rectangle
pub rows_all : (g : Grid) (s : Sides) (last : ℕ) (old new : List Span) → 0 < side_of g → s.xl ≤ℤ s.xh → s.yl ≤ℤ s.yh → row_of g s.yh + 1 ≤ last → AddsRows g s last old new → AddsMet g s old new
rows_all g s last old new some wide tall past h = record { full = h.full; exact = λ z. (λ j. to z ((h.exact z).0 j), λ j. (h.exact z).1 (back z j)) }
  where
    to : (z : ℤ) → InSpans old z ⊎ InRows (columns_of g) (row_of g s.yl) last (column_of g s.xl) (column_of g s.xh) z → InSpans old z ⊎ IsMet g s z
    to z (inl o) = inl o
    to z (inr (tile, e, low, high, left, right)) = inr (tile, e, Spans-Meets g s tile some wide tall (record { left = left; right = right; low = low; high = omega (arith, high, h.most) }))

    back : (z : ℤ) → InSpans old z ⊎ IsMet g s z → InSpans old z ⊎ InRows (columns_of g) (row_of g s.yl) last (column_of g s.xl) (column_of g s.xh) z
    back z (inl o) = inl o
    back z (inr (tile, e, m)) = let sp = Meets-Spans g s tile some m in inr (tile, e, sp.low, omega (arith, sp.high, past), sp.left, sp.right)

-- a tile that a rectangle meets is one of the die's
pub met_below : (g : Grid) (s : Sides) (tile : ℕ) → Meets g s tile → tile < columns_of g * rows_of g
met_below g s tile m =
    let column : column_of g m.point.x < columns_of g = columns_few g m.point.x in
    let row : row_of g m.point.y < rows_of g = omega arith in
    omega (arith, m.number, mul-add-lt (row_of g m.point.y) (columns_of g) (column_of g m.point.x) (rows_of g) row column)

-- a number in the spans before one is below it
pub below_next : (runs : List Span) (tiles : List ℕ) (i : ℕ) (run : Span) → AreApart runs → i < length runs → run ≡ get_or runs i run → ((t : ℕ) → Contains tiles t → InSpans (take i runs) (pos t)) → All (λ t. pos t <ℤ run.lo) tiles
below_next runs tiles i run apart within at inside k d lt =
    let t = get_or tiles k d in
    let h = inside t (Contains-get_or tiles k d lt) in
    below h
  where
    below : {t : ℕ} → InSpans (take i runs) (pos t) → pos t <ℤ run.lo
    below (j, s, short, is, (low, high)) =
        let early : j < i = omega (arith, short, length-take-le i runs (omega (arith, within))) in
        let e : get_or runs j s ≡ s = sym (get_or-take i runs j s early) ∙ is in
        let same : get_or runs i s ≡ run = get_or_default runs i s run within ∙ sym at in
        let gap : ((get_or runs j s).hi +ℤ pos 1) <ℤ (get_or runs i s).lo = apart j i s early within in
        let gap2 : (s.hi +ℤ pos 1) <ℤ run.lo = subst (λ (r : Span). (s.hi +ℤ pos 1) <ℤ r.lo) same (subst (λ (q : Span). (q.hi +ℤ pos 1) <ℤ (get_or runs i s).lo) e gap) in
        omega (arith, ints, high, gap2)

pub contains_push : (xs : List ℕ) (x t : ℕ) → Contains (xs ++ x ∷ []) t ↔ (Contains xs t ⊎ (x ≡ t))
contains_push xs x t = (Contains-push_cases xs x t, back)
  where
    back : Contains xs t ⊎ (x ≡ t) → Contains (xs ++ x ∷ []) t
    back (inl c) = Contains-append_left xs (x ∷ []) t c
    back (inr e) = subst (Contains (xs ++ x ∷ [])) e (Contains-push xs x)

-- one number more of a span
pub number_more : (old tiles : List ℕ) (first tile t : ℕ) → first ≤ tile → (Contains tiles t ↔ (Contains old t ⊎ ((first ≤ t) × (t < tile)))) → Contains (tiles ++ tile ∷ []) t ↔ (Contains old t ⊎ ((first ≤ t) × (t < tile + 1)))
number_more old tiles first tile t from h = (λ c. to ((contains_push tiles tile t).0 c), λ c. (contains_push tiles tile t).1 (back c))
  where
    widen : Contains old t ⊎ ((first ≤ t) × (t < tile)) → Contains old t ⊎ ((first ≤ t) × (t < tile + 1))
    widen (inl o) = inl o
    widen (inr (low, high)) = inr (low, omega (arith, high))

    to : Contains tiles t ⊎ (tile ≡ t) → Contains old t ⊎ ((first ≤ t) × (t < tile + 1))
    to (inl c) = widen (h.0 c)
    to (inr e) = inr (omega (arith, e, from), omega (arith, e))

    back : Contains old t ⊎ ((first ≤ t) × (t < tile + 1)) → Contains tiles t ⊎ (tile ≡ t)
    back (inl o) = inl (h.1 (inl o))
    back (inr (low, high)) =
        elim (cases_lt t tile) [
          | inl before ↦ inl (h.1 (inr (low, before)))
          | inr after ↦ inr (omega (arith, after, high))
        ]

-- the spans of the numbers of the tiles that these boxes meet when they are widened
pub record AreRunsOf (g : Grid) (by : ℤ) (boxes : List (ℕ × Sides)) (spans : List Span) : Type 0 where
  pub full : AreFull spans
  pub exact : (z : ℤ) → InSpans spans z ↔ AreMet g by boxes z

pub runs_none : (g : Grid) (by : ℤ) → AreRunsOf g by [] []
runs_none g by = record {
  full = λ k d lt. absurd (omega (arith, lt));
  exact = λ z. (λ h. absurd (Any-none (λ (s : Span). InSpan s z) h), λ h. absurd (Any-none (λ (box : ℕ × Sides). IsMet g (grown box.1 by) z) h));
}

-- one box more
pub runs_more : (g : Grid) (by : ℤ) (boxes : List (ℕ × Sides)) (i : ℕ) (box : ℕ × Sides) (old new : List Span) → i < length boxes → box ≡ get_or boxes i box → AddsMet g (grown box.1 by) old new → AreRunsOf g by (take i boxes) old → AreRunsOf g by (take (i + 1) boxes) new
runs_more g by boxes i box old new within at adds h = record {
  full = adds.full h.full;
  exact = λ z. (
    λ j. (any_more (λ (b : ℕ × Sides). IsMet g (grown b.1 by) z) boxes i box within at).1 (to z ((adds.exact z).0 j)),
    λ a. (adds.exact z).1 (back z ((any_more (λ (b : ℕ × Sides). IsMet g (grown b.1 by) z) boxes i box within at).0 a)),
  );
}
  where
    to : (z : ℤ) → InSpans old z ⊎ IsMet g (grown box.1 by) z → AreMet g by (take i boxes) z ⊎ IsMet g (grown box.1 by) z
    to z (inl j) = inl ((h.exact z).0 j)
    to z (inr j) = inr j

    back : (z : ℤ) → AreMet g by (take i boxes) z ⊎ IsMet g (grown box.1 by) z → InSpans old z ⊎ IsMet g (grown box.1 by) z
    back z (inl a) = inl ((h.exact z).1 a)
    back z (inr a) = inr a

pub runs_all : (g : Grid) (by : ℤ) (boxes : List (ℕ × Sides)) (i : ℕ) (spans : List Span) → length boxes ≤ i → AreRunsOf g by (take i boxes) spans → AreRunsOf g by boxes spans
runs_all g by boxes i spans past h = subst (λ (bs : List (ℕ × Sides)). AreRunsOf g by bs spans) (take_all i boxes past) h

-- what some more numbers of a span have added
pub record AddsNumbers (first last : ℕ) (old tiles : List ℕ) : Type 0 where
  pub ascending : AllPairs (λ (s t : ℕ). s < t) tiles
  pub below : All (λ (t : ℕ). t < last) tiles
  pub from : first ≤ last
  pub exact : (t : ℕ) → Contains tiles t ↔ (Contains old t ⊎ ((first ≤ t) × (t < last)))

pub numbers_none : (first : ℕ) (old : List ℕ) → AllPairs (λ (s t : ℕ). s < t) old → All (λ (t : ℕ). t < first) old → AddsNumbers first first old old
numbers_none first old ascending below = record { ascending = ascending; below = below; from = omega arith; exact = λ t. (λ c. inl c, λ h. only h) }
  where
    only : {t : ℕ} → Contains old t ⊎ ((first ≤ t) × (t < first)) → Contains old t
    only (inl c) = c
    only (inr (low, high)) = absurd (omega (arith, low, high))

pub numbers_next : (first tile : ℕ) (old tiles : List ℕ) → AddsNumbers first tile old tiles → AddsNumbers first (tile + 1) old (tiles ++ tile ∷ [])
numbers_next first tile old tiles h = record {
  ascending = all_pairs_push (λ (s t : ℕ). s < t) tiles tile h.ascending h.below;
  below = All-push (λ (t : ℕ). t < tile + 1) tiles tile (All-weaker (λ (t : ℕ). t < tile) (λ (t : ℕ). t < tile + 1) (λ t lt. omega (arith, lt)) tiles h.below) (omega arith);
  from = omega (arith, h.from);
  exact = λ t. number_more old tiles first tile t h.from (h.exact t);
}

-- the numbers in these spans
pub record AreNumbersOf (runs : List Span) (tiles : List ℕ) : Type 0 where
  pub ascending : AllPairs (λ (s t : ℕ). s < t) tiles
  pub exact : (t : ℕ) → Contains tiles t ↔ InSpans runs (pos t)

pub numbers_of_none : AreNumbersOf [] []
numbers_of_none = record {
  ascending = λ i j d lt within. absurd (omega (arith, within));
  exact = λ t. (λ c. absurd (omega (arith, c.1)), λ h. absurd (Any-none (λ (s : Span). InSpan s (pos t)) h));
}

-- one span more
pub numbers_of_more : (runs : List Span) (i : ℕ) (run : Span) (old new : List ℕ) → i < length runs → run ≡ get_or runs i run → AllPairs (λ (s t : ℕ). s < t) new → ((t : ℕ) → Contains new t ↔ (Contains old t ⊎ InSpan run (pos t))) → AreNumbersOf (take i runs) old → AreNumbersOf (take (i + 1) runs) new
numbers_of_more runs i run old new within at ascending adds h = record {
  ascending = ascending;
  exact = λ t. (
    λ c. (any_more (λ (s : Span). InSpan s (pos t)) runs i run within at).1 (to t ((adds t).0 c)),
    λ a. (adds t).1 (back t ((any_more (λ (s : Span). InSpan s (pos t)) runs i run within at).0 a)),
  );
}
  where
    to : (t : ℕ) → Contains old t ⊎ InSpan run (pos t) → InSpans (take i runs) (pos t) ⊎ InSpan run (pos t)
    to t (inl c) = inl ((h.exact t).0 c)
    to t (inr s) = inr s

    back : (t : ℕ) → InSpans (take i runs) (pos t) ⊎ InSpan run (pos t) → Contains old t ⊎ InSpan run (pos t)
    back t (inl a) = inl ((h.exact t).1 a)
    back t (inr s) = inr s

pub numbers_of_all : (runs : List Span) (i : ℕ) (tiles : List ℕ) → length runs ≤ i → AreNumbersOf (take i runs) tiles → AreNumbersOf runs tiles
numbers_of_all runs i tiles past h = subst (λ (rs : List Span). AreNumbersOf rs tiles) (take_all i runs past) h

-- all numbers of a span
pub numbers_all : (run : Span) (first end tile : ℕ) (old tiles : List ℕ) → pos first ≡ run.lo → pos end ≡ (run.hi +ℤ pos 1) → end ≤ tile → tile ≤ unsigned_abs (run.hi +ℤ pos 1) → AddsNumbers (unsigned_abs run.lo) tile old tiles → (t : ℕ) → Contains tiles t ↔ (Contains old t ⊎ InSpan run (pos t))
numbers_all run first end tile old tiles low_is high_is past most h t = (λ c. to ((h.exact t).0 c), λ j. (h.exact t).1 (back j))
  where
    first_is : first ≡ unsigned_abs run.lo
    first_is = ap (λ (z : ℤ). unsigned_abs z) low_is

    end_is : end ≡ unsigned_abs (run.hi +ℤ pos 1)
    end_is = ap (λ (z : ℤ). unsigned_abs z) high_is

    to : Contains old t ⊎ ((unsigned_abs run.lo ≤ t) × (t < tile)) → Contains old t ⊎ InSpan run (pos t)
    to (inl o) = inl o
    to (inr (low, high)) =
        let from : first ≤ t = omega (arith, low, first_is) in
        let before : t < end = omega (arith, high, most, end_is) in
        inr (omega (arith, ints, from, low_is), omega (arith, ints, before, high_is))

    back : Contains old t ⊎ InSpan run (pos t) → Contains old t ⊎ ((unsigned_abs run.lo ≤ t) × (t < tile))
    back (inl o) = inl o
    back (inr (low, high)) =
        let from : first ≤ t = omega (arith, ints, low, low_is) in
        let before : t < end = omega (arith, ints, high, high_is) in
        inr (omega (arith, from, first_is), omega (arith, before, past))

-- a number of a tile, and the next one, fit in 32 bits
abbrev pub IsSmall : ℤ → Type 0
IsSmall z = (pos 0 ≤ℤ z) × ((z +ℤ pos 1) <ℤ pos (2 ^ 32))

met_small : (g : Grid) (by : ℤ) (boxes : List (ℕ × Sides)) (z : ℤ) → columns_of g * rows_of g < 2 ^ 32 → AreMet g by boxes z → IsSmall z
met_small g by boxes z count (k, box, lt, is, (tile, e, m)) =
    let below : tile < columns_of g * rows_of g = met_below g (grown box.1 by) tile m in
    let small : tile + 1 < 2 ^ 32 = omega (arith, below, count) in
    (omega (arith, ints, e), omega (arith, ints, e, small))

pub ends_small : (g : Grid) (by : ℤ) (boxes : List (ℕ × Sides)) (spans : List Span) → columns_of g * rows_of g < 2 ^ 32 → AreFull spans → ((z : ℤ) → InSpans spans z → AreMet g by boxes z) → All (λ (s : Span). IsSmall s.lo × IsSmall s.hi) spans
ends_small g by boxes spans count full exact = ends_in IsSmall spans full (λ z h. met_small g by boxes z count (exact z h))

-- the same of the maximal spans
pub slice_small : (g : Grid) (by : ℤ) (boxes : List (ℕ × Sides)) (runs maximal slice : List Span) → columns_of g * rows_of g < 2 ^ 32 → slice ≡ maximal → ((z : ℤ) → InSpans runs z ↔ AreMet g by boxes z) → AreSpansOf (InSpans runs) maximal → All (λ (s : Span). IsSmall s.lo × IsSmall s.hi) slice
slice_small g by boxes runs maximal slice count is exact h = subst (All (λ (s : Span). IsSmall s.lo × IsSmall s.hi)) (sym is) (ends_small g by boxes maximal count h.full (λ z j. (exact z).0 ((h.exact z).0 j)))

-- the numbers of the maximal spans are the net's tiles
pub tiles_same : (d : Design) (net halo : ℕ) (boxes : List (ℕ × Sides)) (runs maximal slice : List Span) (tiles : List ℕ) → boxes ≡ guide_of d net → 0 < length boxes → IsHalo d halo → ((z : ℤ) → InSpans runs z ↔ AreMet d.grid (pos halo) boxes z) → AreSpansOf (InSpans runs) maximal → slice ≡ maximal → ((t : ℕ) → Contains tiles t ↔ InSpans slice (pos t)) → (tile : ℕ) → Contains tiles tile ↔ IsTileOf d net tile
tiles_same d net halo boxes runs maximal slice tiles of_net some is_halo exact h is listed tile = (λ c. inl (to (met ((listed tile).0 c))), λ j. back j)
  where
    met : InSpans slice (pos tile) → AreMet d.grid (pos halo) boxes (pos tile)
    met j = (exact (pos tile)).0 ((h.exact (pos tile)).0 (subst (λ (spans : List Span). InSpans spans (pos tile)) is j))

    to : AreMet d.grid (pos halo) boxes (pos tile) → MeetsGuide d net tile
    to (k, box, lt, at, (n, e, m)) =
        let same : n ≡ tile = omega (arith, ints, e) in
        record {
          halo = halo;
          is_halo = is_halo;
          boxes = subst (Any (λ (b : ℕ × Sides). Meets d.grid (grown b.1 (pos halo)) tile)) of_net (k, box, lt, at, subst (Meets d.grid (grown box.1 (pos halo))) same m);
        }

    again : Any (λ (b : ℕ × Sides). Meets d.grid (grown b.1 (pos halo)) tile) boxes → Contains tiles tile
    again (k, box, lt, at, m) = (listed tile).1 (subst (λ (spans : List Span). InSpans spans (pos tile)) (sym is) ((h.exact (pos tile)).1 ((exact (pos tile)).1 (k, box, lt, at, (tile, refl, m)))))

    back : IsTileOf d net tile → Contains tiles tile
    back (inl m) =
        let same : m.halo ≡ halo = halo_unique d m.halo halo m.is_halo is_halo in
        again (subst (Any (λ (b : ℕ × Sides). Meets d.grid (grown b.1 (pos halo)) tile)) (sym of_net) (subst (λ (n : ℕ). Any (λ (b : ℕ × Sides). Meets d.grid (grown b.1 (pos n)) tile) (guide_of d net)) same m.boxes))
    back (inr (has, none, zero)) = absurd (omega (arith, some, ap (λ (bs : List (ℕ × Sides)). length bs) (of_net ∙ none)))

-- a net that the design lacks has no tile
pub no_tile : (d : Design) (net tile : ℕ) → length d.nets ≤ net → IsTileOf d net tile → ⊥
no_tile d net tile past (inl m) = Any-none (λ (b : ℕ × Sides). Meets d.grid (grown b.1 (pos m.halo)) tile) (subst (Any (λ (b : ℕ × Sides). Meets d.grid (grown b.1 (pos m.halo)) tile)) no_guide m.boxes)
  where
    no_guide : guide_of d net ≡ []
    no_guide = ap (λ (o : Option Net). unwrap_or (option_map (λ (n : Net). n.guide) o) []) (slice_get_past d.nets net past)
no_tile d net tile past (inr (has, none, zero)) = absurd (omega (arith, has))

pub no_tiles : (d : Design) (net : ℕ) (tiles : List ℕ) → length d.nets ≤ net → tiles ≡ [] → (tile : ℕ) → Contains tiles tile ↔ IsTileOf d net tile
no_tiles d net tiles past none tile = (λ c. absurd (none_in tile (subst (λ (ts : List ℕ). Contains ts tile) none c)), λ h. absurd (no_tile d net tile past h))

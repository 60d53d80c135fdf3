-- The labels next to a place.
use Rattle.std.proofs.Common.{◌≡◌, ℕ, ◌-◌, ◌<◌, ◌≤◌, ◌≤ℤ◌, ◌<ℤ◌, ap, ◌∙◌, List, length, arith, slice_index, ⊎_elim}
use Rattle.std.proofs.lemmas.Int.{ints}
use Rattle.std.proofs.lemmas.Bool.{cases_lt}
use Rattle.label_arena.specs.declared.place.Label.{Label}
use Rattle.label_arena.specs.declared.place.Place.{Place}
use Rattle.label_arena.specs.Ways.{IsLabelOf, IsNextBelow, IsNextAbove}
use Rattle.label_arena.specs.Rows.{coord_of, coord_at, IsRow}
use Rattle.label_arena.proofs.Sorting.{coord_is}

module _ (ls : List Label) (p : Place) (row : List ℕ) (h : IsRow ls p.interval.0 row) where
  -- where a label stands in the row
  found : (j : ℕ) (y : Label) → IsLabelOf ls p.interval.0 j y → (i : ℕ) × (i < length row) × (coord_at ls row i ≡ y.place.coord)
  found j y is = let e = h.every j y is in (e.0, e.1, ap (coord_of ls) e.2 ∙ coord_is ls j y is.at)

  module _ (past : ℕ) (before : (i : ℕ) → i < past → coord_at ls row i ≤ℤ p.coord) (after : (i : ℕ) → past ≤ i → i < length row → p.coord <ℤ coord_at ls row i) where
    pub none_below : past ≡ 0 → (j : ℕ) (y : Label) → IsLabelOf ls p.interval.0 j y → y.place.coord ≤ℤ p.coord → ⊥
    none_below z j y is l = let f = found j y is in omega (arith, ints, after f.0 (omega arith) f.1, f.2)

    pub some_below : 0 < past → past ≤ length row → IsNextBelow ls p (slice_index row (past - 1))
    some_below o w = let s = h.only (past - 1) (omega arith) in record {
      label = s.0;
      is = s.1;
      below = omega (arith, ints, before (past - 1) (omega arith), coord_is ls (slice_index row (past - 1)) s.0 s.1.at);
      nearest = λ j y is l. let f = found j y is in ⊎_elim
          (λ (q : f.0 < past). omega (arith, ints, f.2, h.order.sorted f.0 (past - 1) (omega arith) (omega arith), coord_is ls (slice_index row (past - 1)) s.0 s.1.at))
          (λ (q : past ≤ f.0). omega (arith, ints, after f.0 q f.1, f.2))
          (cases_lt f.0 past);
    }

  module _ (at : ℕ) (before : (i : ℕ) → i < at → coord_at ls row i <ℤ p.coord) (after : (i : ℕ) → at ≤ i → i < length row → p.coord ≤ℤ coord_at ls row i) where
    pub none_above : at ≡ length row → (j : ℕ) (y : Label) → IsLabelOf ls p.interval.0 j y → p.coord ≤ℤ y.place.coord → ⊥
    none_above z j y is l = let f = found j y is in omega (arith, ints, before f.0 (omega (arith, f.1)), f.2)

    pub some_above : at < length row → IsNextAbove ls p (slice_index row at)
    some_above w = let s = h.only at w in record {
      label = s.0;
      is = s.1;
      above = omega (arith, ints, after at (omega arith) w, coord_is ls (slice_index row at) s.0 s.1.at);
      nearest = λ j y is l. let f = found j y is in ⊎_elim
          (λ (q : f.0 < at). omega (arith, ints, before f.0 q, f.2))
          (λ (q : at ≤ f.0). omega (arith, ints, f.2, h.order.sorted at f.0 q f.1, coord_is ls (slice_index row at) s.0 s.1.at))
          (cases_lt f.0 at);
    }

-- One label more in its row.
use Rattle.std.proofs.Common.{◌≡◌, ◌≢◌, ◌⊎◌, inl, inr, ℕ, ◌+◌, ◌-◌, ◌<◌, ◌≤◌, ◌≤ℤ◌, ◌<ℤ◌, sym, refl, ap, ◌∙◌, subst, List, [], ◌∷◌, ◌++◌, length, arith, Some, slice_get, slice_set, slice_index, ⊎_elim}
use Rattle.std.specs.List.{insert}
use Rattle.std.proofs.lemmas.Int.{ints}
use Rattle.std.proofs.lemmas.Bool.{cases_eq, cases_lt}
use Rattle.std.proofs.lemmas.Option.{slice_get_within, same_Some}
use Rattle.std.proofs.lemmas.List.Edits.{get_or-insert_at, get_or-insert_below, get_or-insert_above, length-insert}
use Rattle.label_arena.specs.declared.place.Label.{Label}
use Rattle.label_arena.specs.Ways.{IsLabelOf}
use Rattle.label_arena.specs.Rows.{coord_of, coord_at, IsSorted, IsRow, AreRows}
use Rattle.label_arena.proofs.Lists.{get_left, get_last, get_more, get_cases, length_more, get_set_same, get_set_other}
use Rattle.label_arena.proofs.Sorting.{coord_is}

coord_kept : (ls : List Label) (x : Label) (k : ℕ) → k < length ls → coord_of (ls ++ x ∷ []) k ≡ coord_of ls k
coord_kept ls x k l = rw (get_left ls x k l)

label_kept : (ls : List Label) (x : Label) (n k : ℕ) (y : Label) → IsLabelOf ls n k y → IsLabelOf (ls ++ x ∷ []) n k y
label_kept ls x n k y h = record { at = get_more ls x k y h.at; on = h.on }

-- a label of the longer list is an old one or the new one
label_cases : (ls : List Label) (x : Label) (n k : ℕ) (y : Label) → IsLabelOf (ls ++ x ∷ []) n k y → IsLabelOf ls n k y ⊎ ((k ≡ length ls) × (x.place.interval.0 ≡ n))
label_cases ls x n k y h = ⊎_elim
    (λ (o : slice_get ls k ≡ Some y). inl (record { at = o; on = h.on }))
    (λ (e : (k ≡ length ls) × (y ≡ x)). inr (e.0, ap (λ (z : Label). z.place.interval.0) (sym e.1) ∙ h.on))
    (get_cases ls x k y h.at)

-- a row that the label isn't in
row_kept : (ls : List Label) (x : Label) (n : ℕ) (row : List ℕ) → x.place.interval.0 ≢ n → IsRow ls n row → IsRow (ls ++ x ∷ []) n row
row_kept ls x n row apart h = record {
  order = record {
    within = λ i l. omega (arith, h.order.within i l, length_more ls x);
    sorted = λ i j q l. rw (coord_kept ls x (slice_index row i) (h.order.within i (omega arith)), coord_kept ls x (slice_index row j) (h.order.within j l)) (h.order.sorted i j q l);
  };
  only = λ i l. ((h.only i l).0, label_kept ls x n (slice_index row i) (h.only i l).0 (h.only i l).1);
  every = λ k y is. ⊎_elim
      (λ (o : IsLabelOf ls n k y). h.every k y o)
      (λ (e : (k ≡ length ls) × (x.place.interval.0 ≡ n)). absurd (apart e.1))
      (label_cases ls x n k y is);
}

module _ (ls : List Label) (x : Label) (row : List ℕ) (at : ℕ) (fits : at ≤ length row) where
  -- the row with the label's number in it
  low : (i : ℕ) → i < at → slice_index (insert row at (length ls)) i ≡ slice_index row i
  low i l = get_or-insert_below row at (length ls) 0 i l fits

  mid : slice_index (insert row at (length ls)) at ≡ length ls
  mid = get_or-insert_at row at (length ls) 0 fits

  high : (i : ℕ) → at < i → slice_index (insert row at (length ls)) i ≡ slice_index row (i - 1)
  high i l =
      let e : i ≡ i - 1 + 1 = omega arith in
      ap (slice_index (insert row at (length ls))) e ∙ get_or-insert_above row at (length ls) 0 (i - 1) (omega arith) fits

  longer : length (insert row at (length ls)) ≡ length row + 1
  longer = length-insert row at (length ls) fits

  module _ (order : IsSorted ls row) where
    coord_low : (i : ℕ) → i < at → coord_at (ls ++ x ∷ []) (insert row at (length ls)) i ≡ coord_at ls row i
    coord_low i l = ap (coord_of (ls ++ x ∷ [])) (low i l) ∙ coord_kept ls x (slice_index row i) (order.within i (omega arith))

    coord_mid : coord_at (ls ++ x ∷ []) (insert row at (length ls)) at ≡ x.place.coord
    coord_mid = ap (coord_of (ls ++ x ∷ [])) mid ∙ coord_is (ls ++ x ∷ []) (length ls) x (get_last ls x)

    coord_high : (i : ℕ) → at < i → i < length row + 1 → coord_at (ls ++ x ∷ []) (insert row at (length ls)) i ≡ coord_at ls row (i - 1)
    coord_high i l w = ap (coord_of (ls ++ x ∷ [])) (high i l) ∙ coord_kept ls x (slice_index row (i - 1)) (order.within (i - 1) (omega arith))

    within_more : (i : ℕ) → i < length row + 1 → slice_index (insert row at (length ls)) i < length (ls ++ x ∷ [])
    within_more i l = ⊎_elim
        (λ (q : i < at). omega (arith, low i q, order.within i (omega arith), length_more ls x))
        (λ (q : at ≤ i). ⊎_elim
        (λ (e : i ≡ at). rw e (omega (arith, mid, length_more ls x)))
        (λ (e : i ≢ at). omega (arith, high i (omega (arith, e)), order.within (i - 1) (omega (arith, e)), length_more ls x))
        (cases_eq i at))
        (cases_lt i at)

    module _ (before : (i : ℕ) → i < at → coord_at ls row i <ℤ x.place.coord) (after : (i : ℕ) → at ≤ i → i < length row → x.place.coord ≤ℤ coord_at ls row i) where
      -- from the label on
      from_mid : (j : ℕ) → at ≤ j → j < length row + 1 → x.place.coord ≤ℤ coord_at (ls ++ x ∷ []) (insert row at (length ls)) j
      from_mid j q l = ⊎_elim
          (λ (e : j ≡ at). rw (e, coord_mid) (omega (arith, ints)))
          (λ (e : j ≢ at). rw (coord_high j (omega (arith, e)) l) (after (j - 1) (omega (arith, e)) (omega (arith, e))))
          (cases_eq j at)

      sorted_more : (i j : ℕ) → i ≤ j → j < length row + 1 → coord_at (ls ++ x ∷ []) (insert row at (length ls)) i ≤ℤ coord_at (ls ++ x ∷ []) (insert row at (length ls)) j
      sorted_more i j q l = ⊎_elim
          (λ (a : i < at). ⊎_elim
          (λ (b : j < at). rw (coord_low i a, coord_low j b) (order.sorted i j q (omega arith)))
          (λ (b : at ≤ j). rw (coord_low i a) (omega (arith, ints, before i a, from_mid j b l)))
          (cases_lt j at))
          (λ (a : at ≤ i). ⊎_elim
          (λ (e : i ≡ at). rw (e, coord_mid) (from_mid j (omega arith) l))
          (λ (e : i ≢ at). rw (coord_high i (omega (arith, e)) (omega arith), coord_high j (omega (arith, e)) l) (order.sorted (i - 1) (j - 1) (omega (arith, e)) (omega (arith, e))))
          (cases_eq i at))
          (cases_lt i at)

  module _ (n : ℕ) (on : x.place.interval.0 ≡ n) (h : IsRow ls n row) where
    only_more : (i : ℕ) → i < length row + 1 → (y : Label) × IsLabelOf (ls ++ x ∷ []) n (slice_index (insert row at (length ls)) i) y
    only_more i l = ⊎_elim
        (λ (q : i < at). let o = h.only i (omega arith) in (o.0, rw (low i q) (label_kept ls x n (slice_index row i) o.0 o.1)))
        (λ (q : at ≤ i). ⊎_elim
        (λ (e : i ≡ at). (x, rw (e, mid) (record { at = get_last ls x; on = on })))
        (λ (e : i ≢ at). let o = h.only (i - 1) (omega (arith, e)) in (o.0, rw (high i (omega (arith, e))) (label_kept ls x n (slice_index row (i - 1)) o.0 o.1)))
        (cases_eq i at))
        (cases_lt i at)

    every_more : (k : ℕ) (y : Label) → IsLabelOf (ls ++ x ∷ []) n k y → (i : ℕ) × (i < length row + 1) × (slice_index (insert row at (length ls)) i ≡ k)
    every_more k y is = ⊎_elim
        (λ (o : IsLabelOf ls n k y). let e = h.every k y o in ⊎_elim
        (λ (q : e.0 < at). (e.0, omega (arith, e.1), low e.0 q ∙ e.2))
        (λ (q : at ≤ e.0). (e.0 + 1, omega (arith, e.1), get_or-insert_above row at (length ls) 0 e.0 q fits ∙ e.2))
        (cases_lt e.0 at))
        (λ (e : (k ≡ length ls) × (x.place.interval.0 ≡ n)). (at, omega arith, mid ∙ sym e.0))
        (label_cases ls x n k y is)

    pub row_more : ((i : ℕ) → i < at → coord_at ls row i <ℤ x.place.coord) → ((i : ℕ) → at ≤ i → i < length row → x.place.coord ≤ℤ coord_at ls row i) → IsRow (ls ++ x ∷ []) n (insert row at (length ls))
    row_more before after = record {
      order = record {
        within = λ i l. within_more h.order i (omega (arith, longer));
        sorted = λ i j q l. sorted_more h.order before after i j q (omega (arith, longer));
      };
      only = λ i l. only_more i (omega (arith, longer));
      every = λ k y is. let e = every_more k y is in (e.0, omega (arith, longer, e.1), e.2);
    }

-- all rows, with the label in its own
pub rows_more : (ls : List Label) (x : Label) (rows : List (List ℕ)) (row : List ℕ) (at : ℕ) → AreRows ls rows → slice_get rows x.place.interval.0 ≡ Some row → at ≤ length row →
    ((i : ℕ) → i < at → coord_at ls row i <ℤ x.place.coord) → ((i : ℕ) → at ≤ i → i < length row → x.place.coord ≤ℤ coord_at ls row i) →
    AreRows (ls ++ x ∷ []) (slice_set rows x.place.interval.0 (insert row at (length ls)))
rows_more ls x rows row at h is fits before after n r got = ⊎_elim
    (λ (e : n ≡ x.place.interval.0).
    let own : IsRow (ls ++ x ∷ []) x.place.interval.0 (insert row at (length ls)) = row_more ls x row at fits x.place.interval.0 refl (h x.place.interval.0 row is) before after in
    let same : insert row at (length ls) ≡ r = same_Some _ r (sym (get_set_same rows x.place.interval.0 _ (slice_get_within rows _ row is)) ∙ ap (slice_get (slice_set rows x.place.interval.0 (insert row at (length ls)))) (sym e) ∙ got) in
    subst (λ (m : ℕ). IsRow (ls ++ x ∷ []) m r) (sym e) (subst (λ (q : List ℕ). IsRow (ls ++ x ∷ []) x.place.interval.0 q) same own))
    (λ (e : n ≢ x.place.interval.0).
    row_kept ls x n r (λ q. e (sym q)) (h n r (sym (get_set_other rows x.place.interval.0 n _ e) ∙ got)))
    (cases_eq n x.place.interval.0)

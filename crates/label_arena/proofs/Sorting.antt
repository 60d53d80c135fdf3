-- Rows of labels by their coordinates.
use Rattle.std.proofs.Common.{◌≡◌, ◌≢◌, ℕ, ◌+◌, ◌<◌, ◌≤◌, ◌≤ℤ◌, ◌<ℤ◌, ℤ, zero, suc, sym, ap, ◌∙◌, subst, List, [], ◌∷◌, length, arith, Option, Some, All, slice_get, slice_set, slice_index_or, option_map, unwrap_or, pos, ⊎_elim}
use Rattle.std.specs.List.{insert}
use Rattle.std.specs.Global.{Global}
use Rattle.std.proofs.lemmas.Int.{ints}
use Rattle.std.proofs.lemmas.Bool.{cases_eq}
use Rattle.smallvec.specs.declared.small_vec.SmallVec.{SmallVec}
use Rattle.std.proofs.lemmas.Option.{slice_get-get_or, get_or_from_slice_get, unwrap_or-slice_get, same_Some}
use Rattle.std.proofs.lemmas.List.{length-map, map-set}
use Rattle.label_arena.specs.declared.place.Label.{Label}
use Rattle.label_arena.specs.Rows.{rows_of, row_at, coord_of, coord_at, IsSorted}
use Rattle.label_arena.proofs.Lists.{get_set_same, get_set_other}

pub coord_is : (ls : List Label) (k : ℕ) (x : Label) → slice_get ls k ≡ Some x → coord_of ls k ≡ x.place.coord
coord_is ls k x h = ap (λ (o : Option Label). unwrap_or (option_map (λ (x : Label). x.place.coord) o) (pos 0)) h

pub coord_read : (ls : List Label) (k : ℕ) (d : Label) → k < length ls → coord_of ls k ≡ (slice_index_or ls k d).place.coord
coord_read ls k d l = coord_is ls k (slice_index_or ls k d) (slice_get-get_or ls k d l)

pub row_read : (rows : List (SmallVec ℕ 2 Global)) (i : ℕ) (r : SmallVec ℕ 2 Global) → slice_get rows i ≡ Some r → slice_get (rows_of rows) i ≡ Some r.items
row_read [] i r h = absurd (cc)
row_read (x ∷ rows) zero r h = ap Some (ap (λ (r : SmallVec ℕ 2 Global). r.items) (same_Some x r h))
row_read (x ∷ rows) (suc i) r h = row_read rows i r h

-- a search by halves goes on in one half
module _ (ls : List Label) (row : List ℕ) (h : IsSorted ls row) (middle : ℕ) (l : middle < length row) (z : ℤ) where
  pub all_below : coord_at ls row middle <ℤ z → (i : ℕ) → i < middle + 1 → coord_at ls row i <ℤ z
  all_below b i q = omega (arith, ints, h.sorted i middle (omega arith) l)

  pub all_up_to : coord_at ls row middle ≤ℤ z → (i : ℕ) → i < middle + 1 → coord_at ls row i ≤ℤ z
  all_up_to b i q = omega (arith, ints, h.sorted i middle (omega arith) l)

  pub all_from : z ≤ℤ coord_at ls row middle → (i : ℕ) → middle ≤ i → i < length row → z ≤ℤ coord_at ls row i
  all_from b i q r = omega (arith, ints, h.sorted middle i q r)

  pub all_above : z <ℤ coord_at ls row middle → (i : ℕ) → middle ≤ i → i < length row → z <ℤ coord_at ls row i
  all_above b i q r = omega (arith, ints, h.sorted middle i q r)

-- row i is the i-th
pub row_is : (rows : List (SmallVec ℕ 2 Global)) (i : ℕ) (r : SmallVec ℕ 2 Global) → i < length rows → r ≡ slice_index_or rows i r → r.items ≡ row_at rows i
row_is rows i r l is = sym (ap (λ (o : Option (List ℕ)). unwrap_or o []) (row_read rows i r (slice_get-get_or rows i r l ∙ ap Some (sym is))))

pub row_got : (rows : List (SmallVec ℕ 2 Global)) (i : ℕ) → i < length rows → slice_get (rows_of rows) i ≡ Some (row_at rows i)
row_got rows i l =
    let l' : i < length (rows_of rows) = omega (arith, length-map rows (λ (r : SmallVec ℕ 2 Global). r.items)) in
    slice_get-get_or (rows_of rows) i [] l' ∙ ap Some (sym (unwrap_or-slice_get (rows_of rows) i []))

-- a write into one row
pub row_written : (rows : List (SmallVec ℕ 2 Global)) (i : ℕ) (r s : SmallVec ℕ 2 Global) (at number : ℕ) → i < length rows → r ≡ slice_index_or rows i r → s.items ≡ insert r.items at number →
    rows_of (slice_set rows i s) ≡ slice_set (rows_of rows) i (insert (row_at rows i) at number)
row_written rows i r s at number l is w =
    map-set (λ (r : SmallVec ℕ 2 Global). r.items) rows i s ∙ ap (slice_set (rows_of rows) i) (w ∙ ap (λ (xs : List ℕ). insert xs at number) (row_is rows i r l is))

-- rows that are cleared one after the other
pub rows_cleared : (rows : List (SmallVec ℕ 2 Global)) (k : ℕ) (s : SmallVec ℕ 2 Global) → k < length rows → s.items ≡ [] → ((i : ℕ) → i < k → slice_get (rows_of rows) i ≡ Some []) → (i : ℕ) → i < k + 1 → slice_get (rows_of (slice_set rows k s)) i ≡ Some []
rows_cleared rows k s l e h i b =
    rw (map-set (λ (r : SmallVec ℕ 2 Global). r.items) rows k s)
    (⊎_elim
    (λ (q : k ≡ i). subst (λ (j : ℕ). slice_get (slice_set (rows_of rows) k s.items) j ≡ Some []) q (get_set_same (rows_of rows) k s.items (omega (arith, length-map rows (λ (r : SmallVec ℕ 2 Global). r.items))) ∙ ap Some e))
    (λ (q : k ≢ i). get_set_other (rows_of rows) k i s.items (λ f. q (sym f)) ∙ h i (omega (arith, q)))
    (cases_eq k i))

pub all_cleared : (rows : List (List ℕ)) (k : ℕ) → length rows ≤ k → ((i : ℕ) → i < k → slice_get rows i ≡ Some []) → All (λ (row : List ℕ). row ≡ []) rows
all_cleared rows k l h i d b = get_or_from_slice_get rows i [] d (h i (omega arith))

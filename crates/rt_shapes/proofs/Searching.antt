-- Where a binary search of ascending numbers puts a number.
use Rattle.std.proofs.Common.{◌≡◌, ℕ, ◌+◌, ◌<◌, ◌≤◌, ℤ, ◌<ℤ◌, false, List, length, get_or, Ok, Err, refl, subst, arith}
use Rattle.std.specs.Ordering.{int_cmp, is_lt, MatchOrdering}
use Rattle.std.specs.declared.cmp.Ordering.{Ordering}
use Rattle.std.specs.declared.cmp.Ordering.TheVariants.{Less, Equal, Greater}
use Rattle.std.specs.Cmp.{int_ranks}
use Rattle.std.specs.List.{insert, remove}
use Rattle.std.specs.List.Sorted.{IsSortedBy, IsBinarySearchResult}
use Rattle.std.proofs.lemmas.Cmp.{int_cmp_total}
use Rattle.std.proofs.lemmas.Int.{ints}
use Rattle.std.proofs.lemmas.List.Sorted.{searchable_from_sorted}
use Rattle.rt_shapes.specs.Polygons.{IsAscending, with_number, toggled}
use Rattle.rt_shapes.proofs.Risings.{with_number-insert, with_number-same, toggled-insert, toggled-remove}

abbrev Ranked : ℤ → ℤ → Ordering → Type 0
Ranked x y o = MatchOrdering o (x <ℤ y) (x ≡ y) (y <ℤ x)

ranked : (x y : ℤ) (o : Ordering) → int_cmp x y ≡ o → Ranked x y o
ranked x y o e = subst (Ranked x y) e (int_ranks x y)

not_after : (a b : ℤ) → a <ℤ b → is_lt (int_cmp b a) ≡ false
not_after a b h = by_order (int_cmp b a) (int_ranks b a)
  where
    by_order : (o : Ordering) → Ranked b a o → is_lt o ≡ false
    by_order Less r = absurd (omega (arith, ints))
    by_order Equal r = refl
    by_order Greater r = refl

sorted_from_ascending : (xs : List ℤ) → IsAscending xs → IsSortedBy (λ a b. is_lt (int_cmp a b)) xs
sorted_from_ascending xs up k d low h = not_after (get_or xs k d) (get_or xs (k + 1) d) (up k (k + 1) d (omega arith) h)

pub put_where_missing : (xs : List ℤ) (z : ℤ) (i : ℕ) → IsAscending xs → i ≤ length xs → IsBinarySearchResult (λ y. int_cmp y z) xs (Err i) → with_number z xs ≡ insert xs i z
put_where_missing xs z i up within apart =
    let parts = apart (searchable_from_sorted int_cmp_total (λ y. y) xs z (sorted_from_ascending xs up)) in
    with_number-insert z xs i within (λ k h. ranked (get_or xs k z) z Less (parts.0 k z (omega arith) h)) (λ k h w. ranked (get_or xs k z) z Greater (parts.1 k z h w))

pub put_where_found : (xs : List ℤ) (z : ℤ) (i : ℕ) → IsAscending xs → i < length xs → IsBinarySearchResult (λ y. int_cmp y z) xs (Ok i) → with_number z xs ≡ xs
put_where_found xs z i up within found = with_number-same z xs i up within (ranked (get_or xs i z) z Equal (found z))

pub toggled_where_missing : (xs : List ℤ) (z : ℤ) (i : ℕ) → IsAscending xs → i ≤ length xs → IsBinarySearchResult (λ y. int_cmp y z) xs (Err i) → toggled z xs ≡ insert xs i z
toggled_where_missing xs z i up within apart =
    let parts = apart (searchable_from_sorted int_cmp_total (λ y. y) xs z (sorted_from_ascending xs up)) in
    toggled-insert z xs i within (λ k h. ranked (get_or xs k z) z Less (parts.0 k z (omega arith) h)) (λ k h w. ranked (get_or xs k z) z Greater (parts.1 k z h w))

pub toggled_where_found : (xs : List ℤ) (z : ℤ) (i : ℕ) → IsAscending xs → i < length xs → IsBinarySearchResult (λ y. int_cmp y z) xs (Ok i) → toggled z xs ≡ remove xs i
toggled_where_found xs z i up within found = toggled-remove z xs i up within (ranked (get_or xs i z) z Equal (found z))

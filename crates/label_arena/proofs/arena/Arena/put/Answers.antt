use Rattle.std.proofs.Common.{◌≡◌, ◌<◌, ◌≤◌, ◌∙◌, ◌≤ℤ◌, ◌<ℤ◌, ℕ, List, length, ap, subst, sym, arith, slice_set}
use Rattle.std.specs.List.{insert}
use Rattle.label_arena.specs.declared.place.Label.{Label}
use Rattle.label_arena.specs.Lists.{Lists}
use Rattle.label_arena.specs.Plain.{IsIn, IsInside}
use Rattle.label_arena.specs.Rows.{rows_of, row_at, coord_at, IsRow}
use Rattle.label_arena.proofs.Keeping.{own_row, row_count, within_rows, kept_label, kept_same, popped}
use Rattle.label_arena.proofs.Sorting.{row_is, row_got}
use Rattle.label_arena.proofs.arena.Arena.put.Goals as goal

pub count_below-at-requires : goal.count_below-at-requires
count_below-at-requires g c =
    let inside : IsIn c.self.inside.intervals.items c.args.label.place = subst (λ (v : Lists). IsInside v.graph c.args.label.place) (sym c.self.view_is) c.requires in
    let l : c.args.label.place.interval.0 < length c.self.inside.rows.items = omega (arith, within_rows _ _ _ _ _ _ _ _ c.self.invariant c.args.label.place inside, row_count c.self.inside.rows.items) in
    let own : IsRow c.deref.result.now c.args.label.place.interval.0 c.as_slice.result.now = own_row c.self.inside.labels.items c.deref.result.now c.self.inside.rows.items c.args.label.place.interval.0 c.index.result.now c.as_slice.result.now c.deref.ensures.value l c.index.ensures c.as_slice.ensures c.self.invariant.rows_are in
    own.order

pub insert-requires-clause-within : goal.insert-requires-clause-within
insert-requires-clause-within g c =
    let inside : IsIn c.self.inside.intervals.items c.args.label.place = subst (λ (v : Lists). IsInside v.graph c.args.label.place) (sym c.self.view_is) c.requires in
    let l : c.args.label.place.interval.0 < length c.self.inside.rows.items = omega (arith, within_rows _ _ _ _ _ _ _ _ c.self.invariant c.args.label.place inside, row_count c.self.inside.rows.items) in
    l

pub insert-requires-clause-at : goal.insert-requires-clause-at
insert-requires-clause-at g c =
    let inside : IsIn c.self.inside.intervals.items c.args.label.place = subst (λ (v : Lists). IsInside v.graph c.args.label.place) (sym c.self.view_is) c.requires in
    let l : c.args.label.place.interval.0 < length c.self.inside.rows.items = omega (arith, within_rows _ _ _ _ _ _ _ _ c.self.invariant c.args.label.place inside, row_count c.self.inside.rows.items) in
    let same : c.as_slice.result.now ≡ row_at c.self.inside.rows.items c.args.label.place.interval.0 = c.as_slice.ensures ∙ row_is c.self.inside.rows.items c.args.label.place.interval.0 c.index.result.now l c.index.ensures in
    omega (arith, ap length same, c.count_below-at.ensures.within)

pub invariant_of-self-in-Ok : goal.invariant_of-self-in-Ok
invariant_of-self-in-Ok g c =
    let inside : IsIn c.self.inside.intervals.items c.args.label.place = subst (λ (v : Lists). IsInside v.graph c.args.label.place) (sym c.self.view_is) c.requires in
    let l : c.args.label.place.interval.0 < length c.self.inside.rows.items = omega (arith, within_rows _ _ _ _ _ _ _ _ c.self.invariant c.args.label.place inside, row_count c.self.inside.rows.items) in
    let same : c.as_slice.result.now ≡ row_at c.self.inside.rows.items c.args.label.place.interval.0 = c.as_slice.ensures ∙ row_is c.self.inside.rows.items c.args.label.place.interval.0 c.index.result.now l c.index.ensures in
    let before : (i : ℕ) → i < c.count_below-at.result → coord_at c.self.inside.labels.items (row_at c.self.inside.rows.items c.args.label.place.interval.0) i <ℤ c.args.label.place.coord =
    subst (λ (ls : List Label). (i : ℕ) → i < c.count_below-at.result → coord_at ls (row_at c.self.inside.rows.items c.args.label.place.interval.0) i <ℤ c.args.label.place.coord) c.deref.ensures.value
    (subst (λ (xs : List ℕ). (i : ℕ) → i < c.count_below-at.result → coord_at c.deref.result.now xs i <ℤ c.args.label.place.coord) same c.count_below-at.ensures.before) in
    let after : (i : ℕ) → c.count_below-at.result ≤ i → i < length (row_at c.self.inside.rows.items c.args.label.place.interval.0) → c.args.label.place.coord ≤ℤ coord_at c.self.inside.labels.items (row_at c.self.inside.rows.items c.args.label.place.interval.0) i =
    subst (λ (ls : List Label). (i : ℕ) → c.count_below-at.result ≤ i → i < length (row_at c.self.inside.rows.items c.args.label.place.interval.0) → c.args.label.place.coord ≤ℤ coord_at ls (row_at c.self.inside.rows.items c.args.label.place.interval.0) i) c.deref.ensures.value
    (subst (λ (xs : List ℕ). (i : ℕ) → c.count_below-at.result ≤ i → i < length xs → c.args.label.place.coord ≤ℤ coord_at c.deref.result.now xs i) same c.count_below-at.ensures.after) in
    let number : c.len-number.result ≡ length c.self.inside.labels.items = omega (arith, c.len-number.ensures) in
    kept_label _ _ _ _ _ _ _ _ c.self.invariant _ c.args.label _ _ c.count_below-at.result c.in_ok-push.ensures.items inside (row_got c.self.inside.rows.items c.args.label.place.interval.0 l) (omega (arith, ap length same, c.count_below-at.ensures.within)) before after
    (c.in-Ok.ensures.ok ∙ ap (λ (n : ℕ). slice_set (rows_of c.self.inside.rows.items) c.args.label.place.interval.0 (insert (row_at c.self.inside.rows.items c.args.label.place.interval.0) c.count_below-at.result n)) number)

pub invariant_of-self-in-Err : goal.invariant_of-self-in-Err
invariant_of-self-in-Err g c =
    kept_same _ _ _ _ _ _ _ _ c.self.invariant _ _ (popped _ c.args.label _ _ _ c.in_ok-push.ensures.items (omega arith) c.pop.ensures.rest) c.in-Err.ensures.err

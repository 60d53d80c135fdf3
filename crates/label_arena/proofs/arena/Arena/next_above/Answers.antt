use Rattle.std.proofs.Common.{◌≡◌, ◌<◌, ◌∙◌, ◌≤ℤ◌, ℕ, List, length, ap, subst, arith, slice_index}
use Rattle.label_arena.specs.declared.place.Label.{Label}
use Rattle.label_arena.specs.Lists.{Lists}
use Rattle.label_arena.specs.Ways.{IsLabelOf, IsNextAbove}
use Rattle.label_arena.specs.Rows.{IsRow}
use Rattle.label_arena.proofs.Keeping.{own_row, row_count}
use Rattle.label_arena.proofs.Nearest.{none_above, some_above}
use Rattle.label_arena.proofs.arena.Arena.next_above.Goals as goal

pub count_below-at-requires : goal.count_below-at-requires
count_below-at-requires c =
    let inside : c.args.place.interval.0 < length c.self.inside.rows.items = omega (arith, ap (λ (v : Lists). length v.graph.intervals) c.self.view_is, c.self.invariant.wide, row_count c.self.inside.rows.items, c.requires) in
    let own : IsRow c.deref.result.now c.args.place.interval.0 c.as_slice-row.result.now = own_row c.self.inside.labels.items c.deref.result.now c.self.inside.rows.items c.args.place.interval.0 c.index.result.now c.as_slice-row.result.now c.deref.ensures.value inside c.index.ensures c.as_slice-row.ensures c.self.invariant.rows_are in
    own.order

pub returns-then-at-row : goal.returns-then-at-row
returns-then-at-row c =
    let inside : c.args.place.interval.0 < length c.self.inside.rows.items = omega (arith, ap (λ (v : Lists). length v.graph.intervals) c.self.view_is, c.self.invariant.wide, row_count c.self.inside.rows.items, c.requires) in
    let own : IsRow c.deref.result.now c.args.place.interval.0 c.as_slice-row.result.now = own_row c.self.inside.labels.items c.deref.result.now c.self.inside.rows.items c.args.place.interval.0 c.index.result.now c.as_slice-row.result.now c.deref.ensures.value inside c.index.ensures c.as_slice-row.ensures c.self.invariant.rows_are in
    let same : c.deref.result.now ≡ c.args.self.now.labels = c.deref.ensures.value ∙ ap (λ (v : Lists). v.labels) c.self.view_is in
    subst (λ (ls : List Label). (j : ℕ) (y : Label) → IsLabelOf ls c.args.place.interval.0 j y → c.args.place.coord ≤ℤ y.place.coord → ⊥) same (none_above _ c.args.place _ own c.count_below-at.result c.count_below-at.ensures.before c.count_below-at.ensures.after (omega arith))

pub returns : goal.returns
returns c =
    let inside : c.args.place.interval.0 < length c.self.inside.rows.items = omega (arith, ap (λ (v : Lists). length v.graph.intervals) c.self.view_is, c.self.invariant.wide, row_count c.self.inside.rows.items, c.requires) in
    let own : IsRow c.deref.result.now c.args.place.interval.0 c.as_slice-row.result.now = own_row c.self.inside.labels.items c.deref.result.now c.self.inside.rows.items c.args.place.interval.0 c.index.result.now c.as_slice-row.result.now c.deref.ensures.value inside c.index.ensures c.as_slice-row.ensures c.self.invariant.rows_are in
    let same : c.deref.result.now ≡ c.args.self.now.labels = c.deref.ensures.value ∙ ap (λ (v : Lists). v.labels) c.self.view_is in
    subst (λ (ls : List Label). IsNextAbove ls c.args.place (slice_index c.as_slice-row.result.now c.count_below-at.result)) same (some_above _ c.args.place _ own c.count_below-at.result c.count_below-at.ensures.before c.count_below-at.ensures.after (omega arith))

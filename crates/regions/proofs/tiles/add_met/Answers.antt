use Rattle.std.proofs.Common.{◌∙◌, ◌<◌, ◌+◌, ◌≤◌, ◌*◌, to_z, of_z, w64, sym, subst, ap, arith, ℕ}
use Rattle.std.proofs.lemmas.Int.{ints}
use Rattle.rt_base.specs.Tiles.{side_of, row_of, column_of}
use Rattle.rt_base.specs.declared.geometry.Point.{Point}
use Rattle.regions.proofs.TileLemmas.{AddsRows, rows_none, rows_all, row_added, number_small, kept}
use Rattle.regions.proofs.tiles.add_met.Goals as goal

pub loop-row-init : goal.loop-row-init
loop-row-init c =
    let g = c.args.grid.now in
    let s = c.args.rect.now in
    let old = c.args.runs.now.items in
    let is = c.row-row.ensures ∙ ap (λ (p : Point). row_of g p.y) c.low-low.ensures in
    let some : 0 < side_of g = omega (arith, ints, c.requires.tile.0) in
    subst (λ (row : ℕ). AddsRows g s row old old) (sym is) (rows_none g s old some c.high-high.ensures.tall)

pub number-requires : goal.number-requires
number-requires c =
    let g = c.args.grid.now in
    let s = c.args.rect.now in
    let last = c.row-row-end.ensures ∙ ap (λ (p : Point). row_of g p.y) c.high-high.ensures.corner in
    number_small g s.xl s.yh c.loop-row.row c.columns-columns.result c.column-left.result c.columns-columns.ensures (c.column-left.ensures ∙ ap (λ (p : Point). column_of g p.x) c.low-low.ensures) (omega (arith, last, c.loop-row-test.true)) c.requires.tile_count

pub number-requires-in-loop-row : goal.number-requires-in-loop-row
number-requires-in-loop-row c =
    let g = c.args.grid.now in
    let s = c.args.rect.now in
    let last = c.row-row-end.ensures ∙ ap (λ (p : Point). row_of g p.y) c.high-high.ensures.corner in
    number_small g s.xh s.yh c.loop-row.row c.columns-columns.result c.column-right.result c.columns-columns.ensures (c.column-right.ensures ∙ ap (λ (p : Point). column_of g p.x) c.high-high.ensures.corner) (omega (arith, last, c.loop-row-test.true)) c.requires.tile_count

pub loop-row-preserved : goal.loop-row-preserved
loop-row-preserved c =
    let g = c.args.grid.now in
    let s = c.args.rect.now in
    let old = c.args.runs.now.items in
    let row = c.loop-row.row in
    let last = c.row-row-end.ensures ∙ ap (λ (p : Point). row_of g p.y) c.high-high.ensures.corner in
    let some : 0 < side_of g = omega (arith, ints, c.requires.tile.0) in
    let left = c.column-left.ensures ∙ ap (λ (p : Point). column_of g p.x) c.low-low.ensures in
    let right = c.column-right.ensures ∙ ap (λ (p : Point). column_of g p.x) c.high-high.ensures.corner in
    let within : row ≤ row_of g s.yh = omega (arith, last, c.loop-row-test.true) in
    let lo = kept (row * c.columns-columns.result + c.column-left.result) c.number.result c.number.ensures (number_small g s.xl s.yh row c.columns-columns.result c.column-left.result c.columns-columns.ensures left within c.requires.tile_count) ∙ c.number.ensures in
    let hi = kept (row * c.columns-columns.result + c.column-right.result) c.number-in-loop-row.result c.number-in-loop-row.ensures (number_small g s.xh s.yh row c.columns-columns.result c.column-right.result c.columns-columns.ensures right within c.requires.tile_count) ∙ c.number-in-loop-row.ensures in
    subst (AddsRows g s (row + 1) old) (sym c.in_ok-push.ensures.items)
    (row_added g s row c.columns-columns.result c.column-left.result c.column-right.result (to_z w64 (of_z w64 c.number.result)) (to_z w64 (of_z w64 c.number-in-loop-row.result)) old c.loop-row.runs.items c.columns-columns.ensures left right lo hi some c.high-high.ensures.wide within c.loop-row.invariant)

pub returns : goal.returns
returns c =
    let g = c.args.grid.now in
    let s = c.args.rect.now in
    let last = c.row-row-end.ensures ∙ ap (λ (p : Point). row_of g p.y) c.high-high.ensures.corner in
    let some : 0 < side_of g = omega (arith, ints, c.requires.tile.0) in
    rows_all g s c.loop-row.row c.args.runs.now.items c.loop-row.runs.items some c.high-high.ensures.wide c.high-high.ensures.tall (omega (arith, last, c.loop-row-test.false)) c.loop-row.invariant

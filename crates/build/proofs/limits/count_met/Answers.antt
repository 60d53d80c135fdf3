use Rattle.std.proofs.Common.{◌∙◌, ℕ, ◌<◌, ◌≤◌, ap, Fits, w64, arith}
use Rattle.std.proofs.lemmas.Int.{ints}
use Rattle.rt_base.specs.declared.geometry.Point.{Point}
use Rattle.rt_base.specs.Tiles.{side_of, column_of, row_of}
use Rattle.build.proofs.TileLemmas.{columns_ordered, rows_ordered, met_bound}
use Rattle.build.proofs.limits.count_met.Goals as goal

pub overflow_sub-columns : goal.overflow_sub-columns
overflow_sub-columns c =
    let g = c.args.grid.now in
    let s = c.args.rect.now in
    let some : 0 < side_of c.args.grid.now = omega (arith, ints, c.requires.tile) in
    let high = c.column.ensures ∙ ap (λ (p : Point). column_of g p.x) c.high-high.ensures.corner in
    let low = c.column-2.ensures ∙ ap (λ (p : Point). column_of g p.x) c.low-low.ensures in
    rw (high, low) (columns_ordered g s some c.high-high.ensures.wide)

pub overflow_sub-rows : goal.overflow_sub-rows
overflow_sub-rows c =
    let g = c.args.grid.now in
    let s = c.args.rect.now in
    let some : 0 < side_of c.args.grid.now = omega (arith, ints, c.requires.tile) in
    let high = c.row.ensures ∙ ap (λ (p : Point). row_of g p.y) c.high-high.ensures.corner in
    let low = c.row-2.ensures ∙ ap (λ (p : Point). row_of g p.y) c.low-low.ensures in
    rw (high, low) (rows_ordered g s some c.high-high.ensures.tall)

pub overflow_mul-result : goal.overflow_mul-result
overflow_mul-result c =
    let g = c.args.grid.now in
    let s = c.args.rect.now in
    let ch = c.column.ensures ∙ ap (λ (p : Point). column_of g p.x) c.high-high.ensures.corner in
    let cl = c.column-2.ensures ∙ ap (λ (p : Point). column_of g p.x) c.low-low.ensures in
    let rh = c.row.ensures ∙ ap (λ (p : Point). row_of g p.y) c.high-high.ensures.corner in
    let rl = c.row-2.ensures ∙ ap (λ (p : Point). row_of g p.y) c.low-low.ensures in
    fits_small _ (met_bound g s c.column.result c.column-2.result c.row.result c.row-2.result 1048576 ch cl rh rl c.requires.tiles)
  where
    fits_small : (n : ℕ) → n ≤ 1048576 → Fits w64 n
    fits_small n h = omega arith

pub returns-clause-most : goal.returns-clause-most
returns-clause-most c =
    let g = c.args.grid.now in
    let s = c.args.rect.now in
    let ch = c.column.ensures ∙ ap (λ (p : Point). column_of g p.x) c.high-high.ensures.corner in
    let cl = c.column-2.ensures ∙ ap (λ (p : Point). column_of g p.x) c.low-low.ensures in
    let rh = c.row.ensures ∙ ap (λ (p : Point). row_of g p.y) c.high-high.ensures.corner in
    let rl = c.row-2.ensures ∙ ap (λ (p : Point). row_of g p.y) c.low-low.ensures in
    met_bound g s c.column.result c.column-2.result c.row.result c.row-2.result 1048576 ch cl rh rl c.requires.tiles

use Rattle.std.proofs.Common.{◌≡◌, ◌∙◌, ◌+◌, ◌*◌, ◌<◌, ◌≤◌, ℕ, ap, arith}
use Rattle.std.proofs.lemmas.Int.{ints}
use Rattle.rt_base.specs.Tiles.{side_of, columns_of, rows_of, column_of, row_of}
use Rattle.rt_base.specs.declared.geometry.Point.{Point}
use Rattle.rt_base.proofs.Tiling.{number_along-le}
use Rattle.shape_grid.proofs.Tiled.{rows_next, rows_all}
use Rattle.shape_grid.proofs.tiles.add_to_tiles.Goals as goal

start_is : (row a b c d : ℕ) → a ≡ b → c ≡ d → row * a + c ≡ row * b + d
start_is row a b c d one two = ap (λ (n : ℕ). row * n + c) one ∙ ap (λ (n : ℕ). row * b + n) two

pub loop-row-preserved : goal.loop-row-preserved
loop-row-preserved c =
    let g = c.args.grid.now in
    let left = c.column-left.ensures ∙ ap (λ (p : Point). column_of g p.x) c.low-low.ensures in
    let right = c.column-right.ensures ∙ ap (λ (p : Point). column_of g p.x) c.high-high.ensures.corner in
    record {
      many = c.in_ok-add_in_row.ensures.many ∙ c.loop-row.invariant.many;
      first = omega (arith, c.loop-row.invariant.first);
      each = λ t.
          rows_next g c.args.shape.now.rect c.loop-row.row t _ _ c.args.shape.now _ _ _ (start_is c.loop-row.row _ _ _ _ c.columns-columns.ensures left) (ap (λ (n : ℕ). n + 1) (start_is c.loop-row.row _ _ _ _ c.columns-columns.ensures right)) c.loop-row.invariant.first (c.loop-row.invariant.each t) (c.in_ok-add_in_row.ensures.each t);
    }

pub returns-clause-each : goal.returns-clause-each
returns-clause-each c = λ t less.
    let g = c.args.grid.now in
    let r = c.args.shape.now.rect in
    let some : 0 < side_of g = omega (arith, ints, c.requires.side) in
    let first : c.row-row.result ≡ row_of g r.yl = c.row-row.ensures ∙ ap (λ (p : Point). row_of g p.y) c.low-low.ensures in
    let last : c.row-row-end.result ≡ row_of g r.yh = c.row-row-end.ensures ∙ ap (λ (p : Point). row_of g p.y) c.high-high.ensures.corner in
    let up : row_of g r.yl ≤ row_of g r.yh = number_along-le g.die.yl r.yl r.yh (side_of g) (rows_of g) some c.high-high.ensures.tall in
    rows_all g r c.loop-row.row t c.args.shape.now _ _ some (record { wide = c.high-high.ensures.wide; tall = c.high-high.ensures.tall }) (at_end _ _ _ _ _ first last up c.loop-row.auto.row-end c.loop-row-test.false) (c.loop-row.invariant.each t)
  where
    at_end : (row a b first last : ℕ) → a ≡ first → b ≡ last → first ≤ last → (a ≤ b + 1 → row ≤ b + 1) → b + 1 ≤ row → row ≡ last + 1
    at_end row a b first last one two up most least = (let top : row ≤ b + 1 = most (omega arith) in omega arith)

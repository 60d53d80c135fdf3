use Rattle.std.proofs.Common.{◌<◌, IsTrue, true, rules, arith}
use Rattle.std.proofs.lemmas.Int.{ints}
use Rattle.rt_base.specs.Tiles.{side_of}
use Rattle.rt_base.proofs.Tiling.{Meets-Spans, Spans-Meets}
use Rattle.rt_base.proofs.grid.Grid.meets.Goals as goal

pub returns-then-not-is_between : goal.returns-then-not-is_between
returns-then-not-is_between c =
    let some : 0 < side_of c.args.self.now = omega (arith, ints) in (
      λ f. search rules,
      λ m. c.if-not-is_between.ensures.1 (
          let s = Meets-Spans c.args.self.now c.args.rect.now c.args.tile some m in (
            rw (c.column.ensures, c.low-first.ensures, c.columns-columns.ensures) s.left,
            rw (c.column-2.ensures, c.high-last.ensures.corner, c.columns-columns.ensures) s.right,
          )
          ),
    )

pub returns-then-not-is_between-2 : goal.returns-then-not-is_between-2
returns-then-not-is_between-2 c =
    let some : 0 < side_of c.args.self.now = omega (arith, ints) in (
      λ f. search rules,
      λ m. c.if-not-is_between-2.ensures.1 (
          let s = Meets-Spans c.args.self.now c.args.rect.now c.args.tile some m in (
            rw (c.row.ensures, c.low-first.ensures, c.columns-columns.ensures) s.low,
            rw (c.row-2.ensures, c.high-last.ensures.corner, c.columns-columns.ensures) s.high,
          )
          ),
    )

pub returns : goal.returns
returns c =
    let some : 0 < side_of c.args.self.now = omega (arith, ints) in
    let t : IsTrue true = search rules in
    let x = c.if-not-is_between.ensures.0 t in
    let y = c.if-not-is_between-2.ensures.0 t in (
      λ _. Spans-Meets c.args.self.now c.args.rect.now c.args.tile some c.high-last.ensures.wide c.high-last.ensures.tall (record {
        left = rw (c.column.ensures, c.low-first.ensures, c.columns-columns.ensures) at x.0;
        right = rw (c.column-2.ensures, c.high-last.ensures.corner, c.columns-columns.ensures) at x.1;
        low = rw (c.row.ensures, c.low-first.ensures, c.columns-columns.ensures) at y.0;
        high = rw (c.row-2.ensures, c.high-last.ensures.corner, c.columns-columns.ensures) at y.1;
      }),
      λ _. t,
    )

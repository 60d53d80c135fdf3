use Rattle.std.proofs.Common.{refl}
use Rattle.shape_grid.proofs.Cells.{cell_of-div}
use Rattle.shape_grid.proofs.size.size_of.Goals as goal

pub returns-clause-suits : goal.returns-clause-suits
returns-clause-suits c =
    let r = c.args.shape.now.rect in
    let wide = c.shift_of.result in
    let tall = c.shift_of-2.result in
    record {
      layer = refl;
      wide = rw (← cell_of-div r.xh wide, ← cell_of-div r.xl wide, ← c.across-wide.ensures.first, ← c.across-wide.ensures.last) c.shift_of.ensures.short;
      tall = rw (← cell_of-div r.yh tall, ← cell_of-div r.yl tall, ← c.upward-tall.ensures.first, ← c.upward-tall.ensures.last) c.shift_of-2.ensures.short;
    }

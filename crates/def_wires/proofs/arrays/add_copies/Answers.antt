use Rattle.std.proofs.Common.{◌<◌, unsigned_abs, arith}
use Rattle.std.proofs.lemmas.Int.{ints}
use Rattle.rt_shapes.proofs.Counting.{pieces_counted}
use Rattle.def_wires.specs.Paths.{copies_of_row}
use Rattle.def_wires.proofs.arrays.add_copies.Goals as goal

pub loop-row-preserved : goal.loop-row-preserved
loop-row-preserved c =
    let a = c.args.array.now in
    let lt : c.loop-row.row < unsigned_abs a.rows = omega (arith, ints) in
    pieces_counted (copies_of_row a c.args.spot c.args.via c.args.orient) c.loop-row.row (unsigned_abs a.rows) _ c.loop-row.steps _ lt c.loop-row.invariant c.in_ok-add_row.ensures

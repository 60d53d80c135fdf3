use Rattle.std.proofs.Common.{◌≡◌, ◌++◌, ◌<◌, unsigned_abs, append_assoc, arith}
use Rattle.std.proofs.lemmas.Int.{ints}
use Rattle.rt_shapes.proofs.Counting.{pieces_counted}
use Rattle.def_wires.specs.Paths.{copy_at, copy_point}
use Rattle.def_wires.proofs.arrays.add_row.Goals as goal

pub loop-column-preserved : goal.loop-column-preserved
loop-column-preserved c =
    let a = c.args.array.now in
    let lt : c.loop-column.column < unsigned_abs a.columns = omega (arith, ints) in
    let step = rw (c.in_ok-push.ensures.ok, c.copy_point-point.ensures.value, append_assoc) at c.in_ok-push-2.ensures.ok in
    pieces_counted (λ i. copy_at c.args.spot.layer c.args.via c.args.orient (copy_point c.args.spot.point a.step c.args.row i)) c.loop-column.column (unsigned_abs a.columns) _ c.loop-column.steps _ lt c.loop-column.invariant step

use Rattle.std.proofs.Common.{arith}
use Rattle.search.proofs.Changed.{changed-more}
use Rattle.search.proofs.change.add_to_all.Goals as goal

pub loop-i-preserved : goal.loop-i-preserved
loop-i-preserved c =
    changed-more _ c.loop-i.i c.args.pieces.now.items c.loop-i.pieces.items c.index_mut-piece.result.now c.add.new.self (omega (arith, c.loop-i-test.true, c.len-i-end.ensures, c.loop-i.invariant.long)) c.index_mut-piece.ensures.value c.in_ok-add.ensures c.loop-i.invariant

use Rattle.std.proofs.Common.{◌≡◌, ◌≤ℤ◌}
use Rattle.std.specs.Int.{int_gap}
use Rattle.plain_route.proofs.GuideLemmas.{RowBefore}
use Rattle.plain_route.proofs.guide.covers_row.Given as goal

abbrev pub invariant-loop-far : goal.invariant-loop-far
invariant-loop-far l = record {
  row : l.at.y ≡ l.fn.segment.yl;
  from : l.fn.segment.xl ≤ℤ l.at.x;
  to : l.at.x ≤ℤ l.fn.segment.xh;
  before : RowBefore l.guide l.level l.fn.segment l.at.x;
}

abbrev pub decreases-loop-far : goal.decreases-loop-far
decreases-loop-far l = int_gap l.at.x l.fn.segment.xh

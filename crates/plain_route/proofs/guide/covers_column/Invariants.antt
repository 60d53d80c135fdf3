use Rattle.std.proofs.Common.{◌≡◌, ◌≤ℤ◌}
use Rattle.std.specs.Int.{int_gap}
use Rattle.plain_route.proofs.GuideLemmas.{ColumnBefore}
use Rattle.plain_route.proofs.guide.covers_column.Given as goal

abbrev pub invariant-loop-far : goal.invariant-loop-far
invariant-loop-far l = record {
  column : l.at.x ≡ l.fn.segment.xl;
  from : l.fn.segment.yl ≤ℤ l.at.y;
  to : l.at.y ≤ℤ l.fn.segment.yh;
  before : ColumnBefore l.guide l.level l.fn.segment l.at.y;
}

abbrev pub decreases-loop-far : goal.decreases-loop-far
decreases-loop-far l = int_gap l.at.y l.fn.segment.yh

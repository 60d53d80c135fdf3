use Rattle.std.proofs.Common.{◌+◌, ◌-◌, ◌/◌, ◌<◌, length, arith}
use Rattle.label_arena.proofs.Sorting.{all_below, all_from}
use Rattle.label_arena.proofs.row.count_below.Goals as goal

pub halves-preserved-then-is_below : goal.halves-preserved-then-is_below
halves-preserved-then-is_below c =
    let l : c.halves.low + (c.halves.high - c.halves.low) / 2 < length c.args.row.now = omega arith in
    record {
      ordered = omega arith;
      inside = omega arith;
      before = all_below _ _ c.requires _ l _ c.if-is_below.ensures.yes;
      after = c.halves.invariant.after;
    }

pub halves-preserved : goal.halves-preserved
halves-preserved c =
    let l : c.halves.low + (c.halves.high - c.halves.low) / 2 < length c.args.row.now = omega arith in
    record {
      ordered = omega arith;
      inside = omega arith;
      before = c.halves.invariant.before;
      after = all_from _ _ c.requires _ l _ c.if-is_below.ensures.not;
    }

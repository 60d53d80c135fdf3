use Rattle.std.proofs.Common.{◌+◌, ◌-◌, ◌/◌, ◌<◌, length, arith}
use Rattle.label_arena.proofs.Sorting.{all_up_to, all_above}
use Rattle.label_arena.proofs.row.count_up_to.Goals as goal

pub halves-preserved-then-is_above : goal.halves-preserved-then-is_above
halves-preserved-then-is_above c =
    let l : c.halves.low + (c.halves.high - c.halves.low) / 2 < length c.args.row.now = omega arith in
    record {
      ordered = omega arith;
      inside = omega arith;
      before = c.halves.invariant.before;
      after = all_above _ _ c.requires _ l _ c.if-is_above.ensures.yes;
    }

pub halves-preserved : goal.halves-preserved
halves-preserved c =
    let l : c.halves.low + (c.halves.high - c.halves.low) / 2 < length c.args.row.now = omega arith in
    record {
      ordered = omega arith;
      inside = omega arith;
      before = all_up_to _ _ c.requires _ l _ c.if-is_above.ensures.not;
      after = c.halves.invariant.after;
    }

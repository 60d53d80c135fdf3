use Rattle.std.proofs.Common.{◌*◌, arith}
use Rattle.pin_access.specs.declared.die_tracks.DieLevel.{DieLevel}
use Rattle.pin_access.specs.DieTracks.{IsNearLevel}
use Rattle.pin_access.proofs.CountLemmas.{of_more}
use Rattle.pin_access.proofs.counting.count_near.Goals as goal

pub loop-level-preserved : goal.loop-level-preserved
loop-level-preserved c = (
  of_more (λ (l : DieLevel). IsNearLevel l (c.args.steps * l.step) c.args.rects.now) c.args.levels.now c.loop-level.level-index c.level-item.result c.loop-level.count c.in_ok-count.field-0 c.loop-level-test.true c.level-item.is c.loop-level.invariant.0 c.in_ok-count.ensures.count,
  omega (arith, c.loop-level.invariant.1, c.in_ok-count.ensures.most),
  λ some. c.in_ok-count.ensures.rects,
)

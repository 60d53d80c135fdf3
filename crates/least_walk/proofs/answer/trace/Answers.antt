use Rattle.std.proofs.Common.{arith, ◌<◌}
use Rattle.least_walk.specs.declared.label.Origin.TheVariants.{After}
use Rattle.least_walk.proofs.Trails.{origin_got, trail_more}
use Rattle.least_walk.proofs.answer.trace.Goals as goal

pub loop-at-smaller : goal.loop-at-smaller
loop-at-smaller c = c.requires.falls c.loop-at.at c.in-After.before c.loop-at.invariant.in_labels c.in-After.kind (origin_got c.args.labels.now c.loop-at.at (After c.in-After.before c.in-After.kind) c.in-After.is)

pub loop-at-preserved : goal.loop-at-preserved
loop-at-preserved c =
    let falls : c.in-After.before < c.loop-at.at = c.requires.falls c.loop-at.at c.in-After.before c.loop-at.invariant.in_labels c.in-After.kind (origin_got c.args.labels.now c.loop-at.at (After c.in-After.before c.in-After.kind) c.in-After.is) in
    record {
      in_labels = omega (arith, falls, c.loop-at.invariant.in_labels);
      trail = trail_more c.args.labels.now _ c.loop-at.at c.in-After.before c.in-After.kind c.loop-at.edges.items _ c.loop-at.invariant.in_labels c.in-After.is c.loop-at.invariant.trail c.in_ok-push-in-After.ensures.items;
    }

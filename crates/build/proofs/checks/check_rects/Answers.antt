use Rattle.std.proofs.Common.{ℕ, List}
use Rattle.rt_base.specs.Sides.{Sides}
use Rattle.build.specs.Faults.{layer_fault}
use Rattle.build.proofs.FirstFaults.{told_fault, first_at, none_more}
use Rattle.build.proofs.checks.check_rects.Goals as goal

pub returns-in_err-check_layer : goal.returns-in_err-check_layer
returns-in_err-check_layer c =
    told_fault c.from_residual.result c.in_err-check_layer.field-0.0 _ _ c.from_residual.ensures.1 c.in_err-check_layer.ensures
    (first_at (λ (r : List ℕ × Sides). layer_fault c.args.layers.now r.0) c.args.rects.now c.loop-rect.rect-index c.rect-item.result c.in_err-check_layer.field-0.0 c.loop-rect-test.true c.rect-item.is c.loop-rect.invariant)

pub loop-rect-preserved : goal.loop-rect-preserved
loop-rect-preserved c = none_more (λ (r : List ℕ × Sides). layer_fault c.args.layers.now r.0) c.args.rects.now c.loop-rect.rect-index c.rect-item.result c.loop-rect-test.true c.rect-item.is c.loop-rect.invariant c.in_ok-check_layer.ensures

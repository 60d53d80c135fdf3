use Rattle.rt_base.specs.declared.tech.Layer.{Layer}
use Rattle.build.specs.Faults.{level_fault}
use Rattle.build.proofs.FirstFaults.{told_fault}
use Rattle.build.proofs.FaultSteps.{kept_at, kept_none, skip_none}
use Rattle.build.proofs.checks.check_levels.Goals.{then-layer+in_ok-check_level, else-layer}
use Rattle.build.proofs.checks.check_levels.Goals as goal

pub returns-in_err-check_level : goal.returns-in_err-check_level
returns-in_err-check_level c =
    told_fault c.from_residual.result c.in_err-check_level.field-0.0 _ _ c.from_residual.ensures.1 c.in_err-check_level.ensures
    (kept_at (level_fault c.args.rows.now) (λ (l : Layer). l.routing) c.args.layers.now c.loop-layer.layer-index c.layer-item.result c.in_err-check_level.field-0.0 c.loop-layer-test.true c.layer-item.is c.if-layer.true c.loop-layer.invariant)

pub loop-layer-preserved : goal.loop-layer-preserved
loop-layer-preserved c =
    elim c.if-layer.branch [
      | then-layer+in_ok-check_level w ↦ kept_none (level_fault c.args.rows.now) (λ (l : Layer). l.routing) c.args.layers.now c.loop-layer.layer-index c.layer-item.result c.loop-layer-test.true c.layer-item.is w.if-layer.true c.loop-layer.invariant w.in_ok-check_level.ensures
      | else-layer w ↦ skip_none (level_fault c.args.rows.now) (λ (l : Layer). l.routing) c.args.layers.now c.loop-layer.layer-index c.layer-item.result c.loop-layer-test.true c.layer-item.is w.if-layer.false c.loop-layer.invariant
    ]

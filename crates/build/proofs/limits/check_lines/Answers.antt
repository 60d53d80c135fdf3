use Rattle.std.proofs.Common.{◌∙◌, ℕ, ap, sym}
use Rattle.rt_base.specs.declared.tech.Layer.{Layer}
use Rattle.build.specs.declared.error.Limited.TheVariants.{Tracks}
use Rattle.build.specs.Faults.{lines_said, limit_fault}
use Rattle.build.proofs.FirstFaults.{told_fault}
use Rattle.build.proofs.FaultSteps.{kept_at, kept_none, skip_none}
use Rattle.build.proofs.limits.check_lines.Goals.{then-layer+in_ok-check_limit, else-layer}
use Rattle.build.proofs.limits.check_lines.Goals as goal

pub returns-in_err-check_limit : goal.returns-in_err-check_limit
returns-in_err-check_limit c =
    told_fault c.from_residual.result c.in_err-check_limit.field-0.0 _ _ c.from_residual.ensures.1 c.in_err-check_limit.ensures
    (λ h. kept_at (λ (l : Layer). limit_fault Tracks (lines_said l c.args.rows.now) 65536) (λ (l : Layer). l.routing) c.args.layers.now c.loop-layer.layer-index c.layer-item.result c.in_err-check_limit.field-0.0 c.loop-layer-test.true c.layer-item.is c.if-layer.true c.loop-layer.invariant
    (ap (λ (n : ℕ). limit_fault Tracks n 65536) (sym c.count_lines.ensures) ∙ h))

pub loop-layer-preserved : goal.loop-layer-preserved
loop-layer-preserved c =
    elim c.if-layer.branch [
      | then-layer+in_ok-check_limit w ↦ kept_none (λ (l : Layer). limit_fault Tracks (lines_said l c.args.rows.now) 65536) (λ (l : Layer). l.routing) c.args.layers.now c.loop-layer.layer-index c.layer-item.result c.loop-layer-test.true c.layer-item.is w.if-layer.true c.loop-layer.invariant (ap (λ (n : ℕ). limit_fault Tracks n 65536) (sym w.count_lines.ensures) ∙ w.in_ok-check_limit.ensures)
      | else-layer w ↦ skip_none (λ (l : Layer). limit_fault Tracks (lines_said l c.args.rows.now) 65536) (λ (l : Layer). l.routing) c.args.layers.now c.loop-layer.layer-index c.layer-item.result c.loop-layer-test.true c.layer-item.is w.if-layer.false c.loop-layer.invariant
    ]

use Rattle.build.specs.Faults.{layer_fault}
use Rattle.build.proofs.FirstFaults.{told_fault, first_at, none_more}
use Rattle.build.proofs.checks.check_layers.Goals as goal

pub returns-in_err-check_layer : goal.returns-in_err-check_layer
returns-in_err-check_layer c =
    told_fault c.from_residual.result c.in_err-check_layer.field-0.0 _ _ c.from_residual.ensures.1 c.in_err-check_layer.ensures
    (first_at (layer_fault c.args.layers.now) c.args.names.now c.loop-name.name-index c.name-item.result c.in_err-check_layer.field-0.0 c.loop-name-test.true c.name-item.is c.loop-name.invariant)

pub loop-name-preserved : goal.loop-name-preserved
loop-name-preserved c = none_more (layer_fault c.args.layers.now) c.args.names.now c.loop-name.name-index c.name-item.result c.loop-name-test.true c.name-item.is c.loop-name.invariant c.in_ok-check_layer.ensures

use Rattle.build.specs.Faults.{component_fault}
use Rattle.build.proofs.FirstFaults.{told_fault, first_at, none_more}
use Rattle.build.proofs.checks.check_components.Goals as goal

pub returns-in_err-check_component : goal.returns-in_err-check_component
returns-in_err-check_component c =
    told_fault c.from_residual.result c.in_err-check_component.field-0.0 _ _ c.from_residual.ensures.1 c.in_err-check_component.ensures
    (first_at (component_fault c.args.macros.now) c.args.components.now c.loop-component.component-index c.component-item.result c.in_err-check_component.field-0.0 c.loop-component-test.true c.component-item.is c.loop-component.invariant)

pub loop-component-preserved : goal.loop-component-preserved
loop-component-preserved c = none_more (component_fault c.args.macros.now) c.args.components.now c.loop-component.component-index c.component-item.result c.loop-component-test.true c.component-item.is c.loop-component.invariant c.in_ok-check_component.ensures

use Rattle.std.proofs.Common.{◌≡◌, None, take}
use Rattle.build.specs.Faults.{first_by, component_fault}
use Rattle.build.proofs.checks.check_components.Given as goal

abbrev pub invariant-loop-component : goal.invariant-loop-component
invariant-loop-component l = first_by (component_fault l.macros) (take l.component-index l.components) ≡ None

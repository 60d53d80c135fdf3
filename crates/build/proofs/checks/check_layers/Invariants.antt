use Rattle.std.proofs.Common.{◌≡◌, None, take}
use Rattle.build.specs.Faults.{first_by, layer_fault}
use Rattle.build.proofs.checks.check_layers.Given as goal

abbrev pub invariant-loop-name : goal.invariant-loop-name
invariant-loop-name l = first_by (layer_fault l.layers) (take l.name-index l.names) ≡ None

use Rattle.std.proofs.Common.{◌≡◌, take}
use Rattle.build.specs.LookUps.{metals_of}
use Rattle.build.proofs.layer_names.LayerNames.metals.Given as goal

abbrev pub invariant-loop-name : goal.invariant-loop-name
invariant-loop-name l = l.metals.items ≡ metals_of l.self (take l.name-index l.rects)

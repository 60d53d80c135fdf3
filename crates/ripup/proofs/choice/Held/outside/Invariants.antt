use Rattle.std.proofs.Common.{◌≡◌, filter, not, take}
use Rattle.ripup.specs.Choices.{is_held}
use Rattle.ripup.proofs.choice.Held.outside.Given as goal

abbrev pub invariant-loop-net : goal.invariant-loop-net
invariant-loop-net l = l.outside ≡ filter (λ m. not (is_held l.self m)) (take l.net-index l.nets)

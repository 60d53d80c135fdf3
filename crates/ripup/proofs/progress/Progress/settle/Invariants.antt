use Rattle.std.proofs.Common.{◌+◌, length}
use Rattle.ripup.specs.Progress.{effort_left, IsSettling}
use Rattle.ripup.proofs.progress.Progress.settle.Given as goal

abbrev pub invariant-turns : goal.invariant-turns
invariant-turns l = IsSettling l.design l.net l.self l.initial.self l.todo.items

abbrev pub decreases-turns : goal.decreases-turns
decreases-turns l = effort_left l.design l.self.state + length l.todo.items

use Rattle.std.proofs.Common.{◌≡◌, ◌<◌, ℕ, Some, slice_get}
use Rattle.interval_label.specs.declared.marking.Mark.{Mark}
use Rattle.interval_label.proofs.marking.has.Given as goal

abbrev pub invariant-row : goal.invariant-row
invariant-row l = (j : ℕ) (m : Mark) → j < l.mark-index → slice_get l.row j ≡ Some m → m.coord ≡ l.place.coord → ⊥

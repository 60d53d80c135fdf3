use Rattle.std.proofs.Common.{ℕ, ◌^◌, All}
use Rattle.rt_base.specs.Ranges.{AreSidesWithin}
use Rattle.rt_base.specs.Sides.{Sides}
use Rattle.regions.proofs.tests.guide.Given as goal

abbrev pub invariant-loop-corners : goal.invariant-loop-corners
invariant-loop-corners l = All (λ (box : ℕ × Sides). AreSidesWithin (2 ^ 32) box.1) l.guide

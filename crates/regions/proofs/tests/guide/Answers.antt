use Rattle.std.proofs.Common.{ℕ, ◌^◌, All, sym, subst}
use Rattle.std.proofs.lemmas.List.Elements.{All-push}
use Rattle.rt_base.specs.Ranges.{AreSidesWithin}
use Rattle.rt_base.specs.Sides.{Sides}
use Rattle.regions.proofs.tests.guide.Goals as goal

pub loop-corners-preserved : goal.loop-corners-preserved
loop-corners-preserved c =
    subst (All (λ (box : ℕ × Sides). AreSidesWithin (2 ^ 32) box.1)) (sym c.in_ok-push.ensures.ok) (All-push (λ (box : ℕ × Sides). AreSidesWithin (2 ^ 32) box.1) c.loop-corners.guide _ c.loop-corners.invariant c.rect.ensures)

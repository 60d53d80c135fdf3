use Rattle.std.proofs.Common.{arith, refl}
use Rattle.std.proofs.lemmas.Int.{ints}
use Rattle.legality.proofs.band.is_inside.Goals as goal

pub returns : goal.returns
returns c = rw (← c.outer.view_is, ← c.inner.view_is) (λ t. record { left = grind (arith, ints); right = grind (arith, ints); low = grind (arith, ints); high = grind (arith, ints) }, λ h. refl)

use Rattle.std.proofs.Common.{arith}
use Rattle.shape_grid.proofs.Tiled.{gets_same}
use Rattle.shape_grid.proofs.tiles.add_in_row.Goals as goal

pub returns-clause-each : goal.returns-clause-each
returns-clause-each c = λ t.
    gets_same _ _ _ (λ p. (p.0, omega (arith, p.0, p.1))) (λ p. (p.0, omega (arith, p.0, p.1))) (c.loop-t.invariant.each t)

use Rattle.std.proofs.Common.{rules, arith}
use Rattle.shape_grid.proofs.tests.two_tiles.Goals as goal

pub returns-clause-count : goal.returns-clause-count
returns-clause-count c = rw c.hull.ensures (omega arith)

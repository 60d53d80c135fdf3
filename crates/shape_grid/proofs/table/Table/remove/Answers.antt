use Rattle.shape_grid.proofs.Standing.{not_there}
use Rattle.shape_grid.proofs.table.Table.remove.Goals as goal

pub returns-then-self-shape-clause-absent : goal.returns-then-self-shape-clause-absent
returns-then-self-shape-clause-absent c =
    rw (← c.self.view_is) (not_there c.self.inside.size _ _ c.self.inside.buckets.items c.args.shape.now c.self.invariant c.if-self-shape.true)

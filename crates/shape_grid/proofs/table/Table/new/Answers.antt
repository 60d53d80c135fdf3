use Rattle.shape_grid.proofs.Standing.{standing_empty}
use Rattle.shape_grid.proofs.table.Table.new.Goals as goal

pub invariant_of-result : goal.invariant_of-result
invariant_of-result c =
    standing_empty _ _ _ _ c.requires.wide c.requires.tall c.requires.broad c.requires.high (rw (← c.power.ensures.value, ← c.power-2.ensures.value) c.in_ok-buckets.ensures.many) c.in_ok-buckets.ensures.empty

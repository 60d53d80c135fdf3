use Rattle.std.proofs.Common.{int_le, rules}
use Rattle.std.proofs.lemmas.List.Sorted.{IsPartitionPoint-from_clause}
use Rattle.rt_base.specs.declared.geometry.Point.{Point}
use Rattle.rt_shapes.proofs.SweepLemmas.{rising-parted, parted-passed, parted-ahead}
use Rattle.rt_shapes.proofs.rows.row_len.Goals as goal

pub returns-clause-passed : goal.returns-clause-passed
returns-clause-passed c =
    let parted = rising-parted c.args.turns.now c.args.y c.requires in
    parted-passed c.args.turns.now c.args.y _ (IsPartitionPoint-from_clause (λ (q : Point). int_le q.y c.args.y) _ _ c.partition_point.ensures.partitioned parted (λ a r q k. search rules))

pub returns-clause-ahead : goal.returns-clause-ahead
returns-clause-ahead c =
    let parted = rising-parted c.args.turns.now c.args.y c.requires in
    parted-ahead c.args.turns.now c.args.y _ (IsPartitionPoint-from_clause (λ (q : Point). int_le q.y c.args.y) _ _ c.partition_point.ensures.partitioned parted (λ a r q k. search rules))

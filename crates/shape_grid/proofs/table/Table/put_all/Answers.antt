use Rattle.std.proofs.Common.{◌∙◌}
use Rattle.shape_grid.proofs.Buckets.{one_poured}
use Rattle.shape_grid.proofs.table.Table.put_all.Goals as goal

pub put-requires : goal.put-requires
put-requires c = rw (c.loop-shape.invariant.size, c.shape-item.is) (c.requires _ c.shape-item.result c.loop-shape-test.true)

pub loop-shape-preserved : goal.loop-shape-preserved
loop-shape-preserved c =
    record {
      size = c.in_ok-put.ensures.size ∙ c.loop-shape.invariant.size;
      kept = one_poured c.args.shapes.now c.loop-shape.shape-index c.shape-item.result _ _ _ c.loop-shape-test.true c.shape-item.is c.loop-shape.invariant.kept c.in_ok-put.ensures.ok;
    }

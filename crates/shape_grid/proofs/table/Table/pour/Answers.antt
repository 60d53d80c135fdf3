use Rattle.std.proofs.Common.{◌≡◌, ◌∙◌, ap, sym}
use Rattle.shape_grid.specs.Cells.{Kept}
use Rattle.shape_grid.proofs.Buckets.{bucket_poured}
use Rattle.shape_grid.proofs.Standing.{suits_in}
use Rattle.shape_grid.proofs.table.Table.pour.Goals as goal

pub put_all-requires : goal.put_all-requires
put_all-requires c =
    let same : c.loop-bucket.into.size ≡ c.self.inside.size = c.loop-bucket.invariant.size ∙ c.requires ∙ sym (ap (λ (k : Kept). k.size) c.self.view_is) in
    rw same (suits_in c.self.inside.size _ _ c.self.inside.buckets.items c.deref-bucket-items.result.now c.loop-bucket.bucket-index c.bucket-item.result c.as_slice.result.now c.self.invariant c.deref-bucket-items.ensures.value c.loop-bucket-test.true c.bucket-item.is c.as_slice.ensures)

pub loop-bucket-preserved : goal.loop-bucket-preserved
loop-bucket-preserved c =
    record {
      size = c.in_ok-put_all.ensures.size ∙ c.loop-bucket.invariant.size;
      kept = bucket_poured c.deref-bucket-items.result.now c.loop-bucket.bucket-index c.bucket-item.result _ _ _ c.loop-bucket-test.true c.bucket-item.is c.loop-bucket.invariant.kept (rw c.as_slice.ensures at c.in_ok-put_all.ensures.ok);
    }

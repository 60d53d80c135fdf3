use Rattle.std.proofs.Common.{◌<◌, length, ap}
use Rattle.shape_grid.specs.Cells.{Kept}
use Rattle.shape_grid.proofs.Standing.{after_put, one_more}
use Rattle.shape_grid.proofs.table.Table.put.Goals as goal

pub invariant_of-self : goal.invariant_of-self
invariant_of-self c =
    let bs = c.self.inside.buckets.items in
    let within : c.bucket-at.result < length bs = rw c.self.invariant.many c.bucket-at.ensures.within in
    after_put c.push.result _ _ _ bs c.bucket-at.result c.index_mut-bucket.result.now c.push.new.self c.args.shape c.self.invariant within c.bucket-at.ensures.value (rw (ap (λ (k : Kept). k.size) c.self.view_is) c.requires) c.index_mut-bucket.ensures.value c.push.ensures.ok c.push.ensures.err

pub returns-clause-ok : goal.returns-clause-ok
returns-clause-ok c =
    let bs = c.self.inside.buckets.items in
    let within : c.bucket-at.result < length bs = rw c.self.invariant.many c.bucket-at.ensures.within in
    rw (← c.self.view_is) (one_more c.push.result bs c.bucket-at.result c.index_mut-bucket.result.now c.push.new.self c.args.shape within c.index_mut-bucket.ensures.value c.push.ensures.ok)

use Rattle.std.proofs.Common.{◌<◌, length}
use Rattle.shape_grid.proofs.Standing.{after_take, one_less, nowhere}
use Rattle.shape_grid.proofs.table.Table.take.Goals as goal

pub invariant_of-self : goal.invariant_of-self
invariant_of-self c =
    let bs = c.self.inside.buckets.items in
    let within : c.bucket-at.result < length bs = rw c.self.invariant.many c.bucket-at.ensures.within in
    after_take c.take_from.result _ _ _ bs c.bucket-at.result c.index_mut-bucket.result.now c.take_from.new.kept c.args.shape.now c.self.invariant within c.index_mut-bucket.ensures.value c.take_from.ensures.found c.take_from.ensures.same

pub returns-clause-found : goal.returns-clause-found
returns-clause-found c =
    let bs = c.self.inside.buckets.items in
    let within : c.bucket-at.result < length bs = rw c.self.invariant.many c.bucket-at.ensures.within in
    rw (← c.self.view_is) (one_less c.take_from.result bs c.bucket-at.result c.index_mut-bucket.result.now c.take_from.new.kept c.args.shape.now within c.index_mut-bucket.ensures.value c.take_from.ensures.found)

pub returns-clause-absent : goal.returns-clause-absent
returns-clause-absent c =
    let bs = c.self.inside.buckets.items in
    let within : c.bucket-at.result < length bs = rw c.self.invariant.many c.bucket-at.ensures.within in
    rw (← c.self.view_is) (nowhere c.take_from.result _ _ _ bs c.bucket-at.result c.index_mut-bucket.result.now c.args.shape.now c.self.invariant within c.bucket-at.ensures.value c.index_mut-bucket.ensures.value c.take_from.ensures.absent)

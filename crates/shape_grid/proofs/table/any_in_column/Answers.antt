use Rattle.std.proofs.Common.{◌+◌, ◌&&◌, sym, ◌∙◌, arith}
use Rattle.shape_grid.specs.Stores.{is_touching}
use Rattle.shape_grid.proofs.Buckets.{any_within}
use Rattle.shape_grid.proofs.table.any_in_column.Goals as goal

pub returns-then-any_touching-clause-found : goal.returns-then-any_touching-clause-found
returns-then-any_touching-clause-found g c =
    let some = sym (rw c.as_slice.ensures at c.any_touching.ensures) ∙ c.if-any_touching.true in
    any_within (λ s. is_touching c.args.layer c.args.rect.now s && g.T.ShapeTest.verdict c.args.test.now s) c.args.buckets.now (c.args.base + c.wrap-row.result) c.index-buckets-base.result (omega arith) c.index-buckets-base.is some

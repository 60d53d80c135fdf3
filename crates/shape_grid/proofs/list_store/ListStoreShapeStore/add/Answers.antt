use Rattle.std.proofs.lemmas.List.Sorted.{IsPermutation-to_front, IsPermutation-sym}
use Rattle.shape_grid.proofs.list_store.ListStoreShapeStore.add.Goals as goal

pub returns-clause-ok : goal.returns-clause-ok
returns-clause-ok c =
    rw (c.in_ok-push.ensures.items, ← c.self.view_is) (IsPermutation-sym _ _ (IsPermutation-to_front _ c.args.shape))

use Rattle.std.proofs.Common.{◌<◌, length, sym, arith}
use Rattle.std.proofs.lemmas.List.{append-nil}
use Rattle.shape_grid.specs.Stores.{is_touching}
use Rattle.shape_grid.proofs.Near.{none_on_other, unseen, found_more, found_less}
use Rattle.shape_grid.proofs.table.Table.near_into.Goals as goal
use Rattle.shape_grid.proofs.table.Table.near_into.Goals.{then-is_seen+in_ok-touching_into, else-is_seen}

pub returns-then-self-layer : goal.returns-then-self-layer
returns-then-self-layer c =
    rw (← c.self.view_is, none_on_other c.self.inside.size _ _ c.self.inside.buckets.items c.args.layer c.args.rect.now c.self.invariant c.if-self-layer.true) (sym (append-nil c.args.found.now.items))

pub loop-b-preserved : goal.loop-b-preserved
loop-b-preserved c =
    let bs = c.self.inside.buckets.items in
    let less : c.loop-b.b < length bs = omega arith in
    elim c.if-is_seen.branch [
      | then-is_seen+in_ok-touching_into w ↦ found_more (is_touching c.args.layer c.args.rect.now) bs c.loop-b.b c.index-bucket.result.now _ c.loop-b.found.items _ less c.index-bucket.ensures c.loop-b.invariant (cc (w.found-is, w.as_slice.ensures, w.in_ok-touching_into.ensures))
      | else-is_seen w ↦ found_less (is_touching c.args.layer c.args.rect.now) bs c.loop-b.b _ c.loop-b.found.items _ less (
          unseen c.self.inside.size _ _ bs c.args.layer c.args.rect.now c.reach_over-side.result c.reach_over-up.result c.loop-b.b c.self.invariant (
          rw (← c.across.ensures.first, ← c.across.ensures.last) c.reach_over-side.ensures.covers
          ) (
          rw (← c.upward.ensures.first, ← c.upward.ensures.last) c.reach_over-up.ensures.covers
          ) w.if-is_seen.ensures
          ) c.loop-b.invariant (cc (w.found-is))
    ]

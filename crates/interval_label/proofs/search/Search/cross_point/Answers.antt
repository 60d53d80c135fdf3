use Rattle.interval_label.specs.Task.{left_at}
use Rattle.interval_label.proofs.Queues.{waiting_kept}
use Rattle.interval_label.proofs.Spreading.{can_point, can_point_back, covers_point, grows_more, spread_more}
use Rattle.interval_label.proofs.search.Search.cross_point.Goals as goal

pub cross-requires-clause-can : goal.cross-requires-clause-can
cross-requires-clause-can c = can_point c.args.arena.now.graph (left_at c.args.arena.now.graph c.args.bound.now) c.args.known.now c.args.label c.args.k _ c.requires.field.joined c.point-cost.ensures c.args.self.now c.requires.can

pub cross-requires-2-clause-can : goal.cross-requires-2-clause-can
cross-requires-2-clause-can c = can_point_back c.args.arena.now.graph (left_at c.args.arena.now.graph c.args.bound.now) c.args.known.now c.args.label c.args.k _ c.requires.field.joined c.point-cost.ensures c.cross.new.self (spread_more c.args.arena.now.graph (left_at c.args.arena.now.graph c.args.bound.now) c.args.known.now c.args.number c.args.label c.args.self.now c.cross.new.self c.requires.can c.in_ok-cross.ensures.ok)

pub returns-clause-ok : goal.returns-clause-ok
returns-clause-ok c = grows_more c.args.arena.now.graph (left_at c.args.arena.now.graph c.args.bound.now) c.args.known.now c.args.number c.args.label c.args.self.now c.cross.new.self c.cross-2.new.self c.in_ok-cross.ensures.ok c.in_ok-cross-2.ensures.ok

pub returns-clause-covers : goal.returns-clause-covers
returns-clause-covers c = covers_point c.args.arena.now.graph (left_at c.args.arena.now.graph c.args.bound.now) c.args.known.now c.args.label c.args.k _ c.requires.field.joined c.point-cost.ensures c.cross-2.new.self.queue.pairs
    (λ e. waiting_kept c.cross.new.self.queue.pairs c.cross-2.new.self.queue.pairs c.in_ok-cross-2.ensures.ok.queue.keeps _ _ (c.in_ok-cross.ensures.covers e))
    c.in_ok-cross-2.ensures.covers

use Rattle.std.proofs.Common.{refl, inl, inr}
use Rattle.interval_label.specs.Task.{left_at}
use Rattle.interval_label.proofs.Spreading.{covers_run, covers_from_kept, grows_more, spread_more}
use Rattle.interval_label.proofs.search.Search.cross_run.Goals as goal

pub cross_from-requires-clause-is : goal.cross_from-requires-clause-is
cross_from-requires-clause-is c = record { at = c.run-cost.ensures; ends = inl (refl, refl) }

pub cross_from-requires-2-clause-is : goal.cross_from-requires-2-clause-is
cross_from-requires-2-clause-is c = record { at = c.run-cost.ensures; ends = inr (refl, refl) }

pub cross_from-requires-2-clause-can : goal.cross_from-requires-2-clause-can
cross_from-requires-2-clause-can c = spread_more c.args.arena.now.graph (left_at c.args.arena.now.graph c.args.bound.now) c.args.known.now c.args.number c.args.label c.args.self.now c.cross_from.new.self c.requires.can c.in_ok-cross_from.ensures.ok

pub returns-clause-ok : goal.returns-clause-ok
returns-clause-ok c = grows_more c.args.arena.now.graph (left_at c.args.arena.now.graph c.args.bound.now) c.args.known.now c.args.number c.args.label c.args.self.now c.cross_from.new.self c.cross_from-2.new.self c.in_ok-cross_from.ensures.ok c.in_ok-cross_from-2.ensures.ok

pub returns-clause-covers : goal.returns-clause-covers
returns-clause-covers c = covers_run c.args.arena.now.graph c.args.known.now c.cross_from-2.new.self.queue.pairs c.args.label c.args.k _ c.run-cost.ensures
    (covers_from_kept c.args.arena.now.graph c.args.known.now c.cross_from.new.self.queue.pairs c.cross_from-2.new.self.queue.pairs c.args.label c.args.k _ _ c.in_ok-cross_from-2.ensures.ok.queue.keeps c.in_ok-cross_from.ensures.covers)
    c.in_ok-cross_from-2.ensures.covers

use Rattle.std.proofs.Common.{arith}
use Rattle.std.proofs.lemmas.Int.{ints}
use Rattle.interval_label.specs.Task.{left_at}
use Rattle.interval_label.proofs.Queues.{waiting_kept}
use Rattle.interval_label.proofs.Spreading.{can_beside, covers_beside, covers_empty, grows_none, grows_more, spread_more}
use Rattle.interval_label.proofs.search.Search.cross_from.Goals as goal

pub returns-then-run-clause-ok : goal.returns-then-run-clause-ok
returns-then-run-clause-ok c = grows_none c.args.arena.now.graph (left_at c.args.arena.now.graph c.args.bound.now) c.args.known.now c.args.number c.args.label c.args.self.now

pub returns-then-run-clause-covers : goal.returns-then-run-clause-covers
returns-then-run-clause-covers c = covers_empty c.args.arena.now.graph (left_at c.args.arena.now.graph c.args.bound.now) c.args.known.now c.args.label c.args.k c.args.run c.args.from c.args.to c.requires.field.joined c.requires.is c.args.self.now.queue.pairs (omega (arith, ints, c.if-run.true))

pub cross-requires-clause-can : goal.cross-requires-clause-can
cross-requires-clause-can c = can_beside c.args.arena.now.graph (left_at c.args.arena.now.graph c.args.bound.now) c.args.known.now c.args.label c.args.k c.args.run c.args.from c.args.to c.requires.field.joined c.requires.is c.beside-near.result c.beside-far.result c.beside-near.ensures.number c.beside-far.ensures.number c.beside-near.ensures.coord c.beside-far.ensures.coord (omega (arith, ints, c.if-run.false)) c.args.self.now c.requires.can

pub climb-requires-clause-can : goal.climb-requires-clause-can
climb-requires-clause-can c = spread_more c.args.arena.now.graph (left_at c.args.arena.now.graph c.args.bound.now) c.args.known.now c.args.number c.args.label c.args.self.now c.cross.new.self c.requires.can c.in_ok-cross.ensures.ok

pub returns-clause-ok : goal.returns-clause-ok
returns-clause-ok c = grows_more c.args.arena.now.graph (left_at c.args.arena.now.graph c.args.bound.now) c.args.known.now c.args.number c.args.label c.args.self.now c.cross.new.self c.climb.new.self c.in_ok-cross.ensures.ok c.in_ok-climb.ensures.ok

pub returns-clause-covers : goal.returns-clause-covers
returns-clause-covers c = covers_beside c.args.arena.now.graph (left_at c.args.arena.now.graph c.args.bound.now) c.args.known.now c.args.label c.args.k c.args.run c.args.from c.args.to c.requires.field.joined c.requires.is c.climb.new.self.queue.pairs c.beside-near.result c.beside-far.result c.beside-near.ensures.number c.beside-far.ensures.number c.beside-near.ensures.coord c.beside-far.ensures.coord
    (λ e. waiting_kept c.cross.new.self.queue.pairs c.climb.new.self.queue.pairs c.in_ok-climb.ensures.ok.queue.keeps _ _ (c.in_ok-cross.ensures.covers e))
    c.in_ok-climb.ensures.covers

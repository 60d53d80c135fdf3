use Rattle.std.proofs.Common.{ap, sym, subst, ℤ, ◌≤ℤ◌}
use Rattle.label_arena.specs.declared.place.Place.{Place}
use Rattle.interval_label.specs.Task.{left_at}
use Rattle.interval_label.proofs.Spreading.{can_mark, mark_covered, grows_none}
use Rattle.interval_label.proofs.search.Search.climb_at.Goals as goal

pub cross-requires-clause-can : goal.cross-requires-clause-can
cross-requires-clause-can c = can_mark c.args.arena.now.graph (left_at c.args.arena.now.graph c.args.bound.now) c.args.known.now c.args.label c.args.k c.args.run c.args.from c.args.to c.requires.field.joined c.requires.is c.args.mark.coord c.on-near.result c.on.result c.on-near.ensures c.on.ensures c.if-not-holds.ensures.yes c.requires.known c.args.self.now c.requires.can

pub returns-then-not-holds-clause-covers : goal.returns-then-not-holds-clause-covers
returns-then-not-holds-clause-covers c l h e = absurd (c.if-not-holds.ensures.no (subst (λ (z : ℤ). c.args.run.span.lo ≤ℤ z) (sym (ap (λ (p : Place). p.coord) c.on-near.ensures)) l) (subst (λ (z : ℤ). z ≤ℤ c.args.run.span.hi) (sym (ap (λ (p : Place). p.coord) c.on-near.ensures)) h))

pub returns-then-not-holds-clause-ok : goal.returns-then-not-holds-clause-ok
returns-then-not-holds-clause-ok c = grows_none c.args.arena.now.graph (left_at c.args.arena.now.graph c.args.bound.now) c.args.known.now c.args.number c.args.label c.args.self.now

pub returns-clause-covers : goal.returns-clause-covers
returns-clause-covers c l h e = mark_covered c.args.arena.now.graph (left_at c.args.arena.now.graph c.args.bound.now) c.args.known.now c.args.label c.args.k c.args.run c.args.from c.args.to c.requires.field.joined c.requires.is c.args.mark.coord c.on-near.result c.on.result c.on-near.ensures c.on.ensures c.cross.new.self.queue.pairs e c.in_ok-cross.ensures.covers

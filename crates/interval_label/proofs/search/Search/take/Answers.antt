use Rattle.std.proofs.Common.{◌≤◌, ℕ, refl, sym, ◌∙◌, subst, Contains, arith}
use Rattle.std.proofs.lemmas.List.Elements.{All-contains}
use Rattle.std.proofs.lemmas.List.Sorted.{length_permutation}
use Rattle.label_arena.specs.declared.place.Label.{Label}
use Rattle.interval_label.specs.Queue.{Queued}
use Rattle.interval_label.specs.Search.{ExplainedIn, IsReached}
use Rattle.interval_label.proofs.Members.{none_in}
use Rattle.interval_label.proofs.Queues.{more_from_pop, loses_none, loses_one}
use Rattle.interval_label.proofs.search.Search.take.Goals as goal

pub candidates-init : goal.candidates-init
candidates-init c = record { loses = loses_none (ExplainedIn c.args.arena.now.graph c.args.arena.now.labels) c.args.self.now.queue.pairs; best = refl }

pub candidates-preserved : goal.candidates-preserved
candidates-preserved c = record {
  loses = loses_one (ExplainedIn c.args.arena.now.graph c.args.arena.now.labels) c.args.self.now.queue.pairs c.candidates.self.queue.pairs c.pop.new.self.pairs c.in-Some.key c.in-Some.candidate c.candidates.invariant.loses (more_from_pop _ _ _ c.in-Some.ensures.bag) c.if-not-explains.ensures.yes;
  best = c.candidates.invariant.best;
}

pub candidates-smaller : goal.candidates-smaller
candidates-smaller c = omega (arith, length_permutation _ _ c.in-Some.ensures.bag)

pub explains-requires-clause-inside : goal.explains-requires-clause-inside
explains-requires-clause-inside c = c.requires.inside c.in-Some.key c.in-Some.candidate (c.candidates.invariant.loses.only (c.in-Some.key, c.in-Some.candidate) (more_from_pop _ _ _ c.in-Some.ensures.bag).has)

pub returns-then-reaches-clause-none : goal.returns-then-reaches-clause-none
returns-then-reaches-clause-none c = record {
  best = c.candidates.invariant.best;
  queue = c.candidates.self.queue.pairs;
  loses = c.candidates.invariant.loses;
  beyond = λ d y h.
      let r : IsReached c.candidates.self.best c.in-Some.key = c.if-reaches.ensures.yes in
      let low : c.in-Some.key ≤ d = All-contains (λ (f : ℕ × Label). c.in-Some.key ≤ f.0) c.candidates.self.queue.pairs (d, y) c.in-Some.ensures.least h in
      (r.0, sym c.candidates.invariant.best ∙ r.1, omega (arith, r.2, low));
}

pub returns-then-not-explains-clause-some : goal.returns-then-not-explains-clause-some
returns-then-not-explains-clause-some c = record {
  best = c.candidates.invariant.best;
  key = c.in-Some.key;
  queue = c.candidates.self.queue.pairs;
  loses = c.candidates.invariant.loses;
  taken = more_from_pop _ _ _ c.in-Some.ensures.bag;
  least = c.in-Some.ensures.least;
  floor = c.in-Some.ensures.floor;
  fresh = c.if-not-explains.ensures.no;
  below = λ r e. c.if-reaches.ensures.no r (c.candidates.invariant.best ∙ e);
}

pub returns-clause-none : goal.returns-clause-none
returns-clause-none c = record {
  best = c.candidates.invariant.best;
  queue = c.candidates.self.queue.pairs;
  loses = c.candidates.invariant.loses;
  beyond = λ d y h. absurd (none_in (d, y) (subst (λ (q : Queued). Contains q (d, y)) c.in_default.ensures.none h));
}

use Rattle.std.proofs.Common.{◌≡◌, ◌+◌, ◌∙◌, sym, subst, length, Result, Ok, Err, OnOk, IfOk, arith}
use Rattle.label_arena.specs.Lists.{Graph}
use Rattle.interval_label.specs.Task.{left_at, AreStops}
use Rattle.interval_label.specs.Answers.{IsAnswer, AreLeast, ExplainsMarks, AreBelow}
use Rattle.interval_label.specs.State.{IsTask, IsFinished}
use Rattle.interval_label.proofs.Stepping.{task_from}
use Rattle.interval_label.proofs.answer.label.Goals as goal

on_ok : {A E : Type 0} {P Q : Type 0} (r : Result A E) → (P → Q) → OnOk r P → OnOk r Q
on_ok (Ok x) f p = f p
on_ok (Err e) f p = p

pub known_marks-requires-clause-joined : goal.known_marks-requires-clause-joined
known_marks-requires-clause-joined g c = c.counts-counts.ensures.joined

pub known_marks-requires-clause-sources : goal.known_marks-requires-clause-sources
known_marks-requires-clause-sources g c = subst (λ (k : Graph). AreStops k c.args.sources.now) (sym c.in_ok-index.ensures.graph) c.requires.sources

pub known_marks-requires-clause-targets : goal.known_marks-requires-clause-targets
known_marks-requires-clause-targets g c = subst (λ (k : Graph). AreStops k c.args.targets.now) (sym c.in_ok-index.ensures.graph) c.requires.targets

pub stops_of-requires : goal.stops_of-requires
stops_of-requires g c = subst (λ (k : Graph). AreStops k c.args.targets.now) (sym c.in_ok-index.ensures.graph) c.requires.targets

pub explore-requires-clause-task : goal.explore-requires-clause-task
explore-requires-clause-task g c = task_from c.args.arena.now.graph c.index.new.self.graph c.args.sources.now c.args.targets.now c.args.bound.now c.in_ok-known.known c.in_ok-stops.stops c.in_ok-index.ensures.graph c.counts-counts.ensures.joined c.requires.priced c.requires.bounded c.requires.sources c.requires.targets c.requires.ends c.requires.near c.in_ok-known.ensures c.in_ok-stops.ensures

pub explore-requires-clause-unlabelled : goal.explore-requires-clause-unlabelled
explore-requires-clause-unlabelled g c = c.in_ok-index.ensures.labels ∙ c.requires.unlabelled

pub finish-requires-clause-task : goal.finish-requires-clause-task
finish-requires-clause-task g c = subst (λ (k : Graph). IsTask k c.args.sources.now c.args.targets.now (left_at k c.args.bound.now) c.in_ok-known.known c.in_ok-stops.stops) (sym c.explore.ensures.graph) (task_from c.args.arena.now.graph c.index.new.self.graph c.args.sources.now c.args.targets.now c.args.bound.now c.in_ok-known.known c.in_ok-stops.stops c.in_ok-index.ensures.graph c.counts-counts.ensures.joined c.requires.priced c.requires.bounded c.requires.sources c.requires.targets c.requires.ends c.requires.near c.in_ok-known.ensures c.in_ok-stops.ensures)

pub finish-requires-clause-finished : goal.finish-requires-clause-finished
finish-requires-clause-finished g c = subst (λ (k : Graph). IsFinished k c.args.sources.now c.args.targets.now (left_at k c.args.bound.now) c.in_ok-known.known c.explore.new.arena.labels c.in_ok-best.best) (sym c.explore.ensures.graph) c.in_ok-best.ensures.finished

pub returns-clause-answer : goal.returns-clause-answer
returns-clause-answer g c = subst (λ (k : Graph). IfOk c.finish.result (IsAnswer k c.args.sources.now c.args.targets.now c.finish.new.arena.labels)) (c.explore.ensures.graph ∙ c.in_ok-index.ensures.graph) c.finish.ensures.answer

pub returns-clause-labels : goal.returns-clause-labels
returns-clause-labels g c = subst (λ (k : Graph). OnOk c.finish.result (AreLeast k c.args.sources.now c.args.targets.now c.finish.new.arena.labels)) (c.explore.ensures.graph ∙ c.in_ok-index.ensures.graph) c.finish.ensures.labels

pub returns-clause-explained : goal.returns-clause-explained
returns-clause-explained g c = subst (λ (k : Graph). IfOk c.finish.result (ExplainsMarks k c.args.sources.now c.args.targets.now (left_at k c.args.bound.now) c.finish.new.arena.labels)) (c.explore.ensures.graph ∙ c.in_ok-index.ensures.graph) c.finish.ensures.explained

pub returns-clause-below : goal.returns-clause-below
returns-clause-below g c = subst (λ (k : Graph). IfOk c.finish.result (AreBelow (left_at k c.args.bound.now) c.finish.new.arena.labels)) (c.explore.ensures.graph ∙ c.in_ok-index.ensures.graph) c.finish.ensures.below

pub returns-clause-steps : goal.returns-clause-steps
returns-clause-steps g c = on_ok c.finish.result (λ (e : c.finish.new.steps + length c.explore.new.arena.labels ≡ c.explore.new.steps + length c.finish.new.arena.labels). omega (arith, e, c.in_ok-best.ensures.steps)) c.finish.ensures.steps

pub returns-clause-graph : goal.returns-clause-graph
returns-clause-graph g c = c.finish.ensures.graph ∙ (c.explore.ensures.graph ∙ c.in_ok-index.ensures.graph)

use Rattle.std.proofs.Common.{◌∙◌, sym, refl, ap, subst, List, length, arith}
use Rattle.label_arena.specs.declared.place.Label.{Label}
use Rattle.label_arena.specs.Lists.{Graph}
use Rattle.interval_label.specs.Task.{left_at, IsPriced, AreStops}
use Rattle.interval_label.specs.Known.{HoldStops, IsWide}
use Rattle.interval_label.specs.Queue.{AreInside}
use Rattle.interval_label.specs.Search.{AreSettled, Takes, Ends, CanSpread}
use Rattle.interval_label.specs.State.{IsRunning, Puts}
use Rattle.interval_label.proofs.Lists.{length_more}
use Rattle.interval_label.proofs.Starting.{running_begun}
use Rattle.interval_label.proofs.Stepping.{settled, waiting_inside, finished, can_spread, run_put, fewer_left, field_at, is_wide}
use Rattle.interval_label.proofs.answer.explore.Goals as goal

pub labels-init : goal.labels-init
labels-init g c = record {
  graph = refl;
  indexed = c.requires.indexed;
  running = subst (λ (ls : List Label). IsRunning c.args.arena.now.graph c.args.sources.now c.args.targets.now (left_at c.args.arena.now.graph c.args.bound.now) c.args.known.now ls c.in_ok-search.search.queue.pairs c.in_ok-search.search.best) (sym c.requires.unlabelled)
      (running_begun c.args.arena.now.graph c.args.sources.now c.args.targets.now (left_at c.args.arena.now.graph c.args.bound.now) c.args.known.now c.args.stops.now c.requires.task c.in_ok-search.search c.in_ok-search.ensures);
  steps = omega (arith, ap (length {A = Label}) c.requires.unlabelled);
}

pub take-requires-clause-priced : goal.take-requires-clause-priced
take-requires-clause-priced g c = subst (λ (k : Graph). IsPriced k) (sym c.labels.invariant.graph) c.requires.task.field.priced

pub take-requires-clause-settled : goal.take-requires-clause-settled
take-requires-clause-settled g c = subst (λ (k : Graph). AreSettled k c.labels.arena.labels) (sym c.labels.invariant.graph) (settled c.args.arena.now.graph c.args.sources.now c.args.targets.now (left_at c.args.arena.now.graph c.args.bound.now) c.args.known.now c.args.stops.now c.requires.task c.labels.arena.labels c.labels.search c.labels.invariant.running)

pub take-requires-clause-inside : goal.take-requires-clause-inside
take-requires-clause-inside g c = subst (λ (k : Graph). AreInside k c.labels.search.queue.pairs) (sym c.labels.invariant.graph) (waiting_inside c.args.arena.now.graph c.args.sources.now c.args.targets.now (left_at c.args.arena.now.graph c.args.bound.now) c.args.known.now c.args.stops.now c.requires.task c.labels.arena.labels c.labels.search c.labels.invariant.running)

pub put-requires-clause-field : goal.put-requires-clause-field
put-requires-clause-field g c = field_at c.args.arena.now.graph c.labels.arena.graph c.args.bound.now c.labels.invariant.graph c.requires.task.field

pub put-requires-clause-targets : goal.put-requires-clause-targets
put-requires-clause-targets g c = subst (λ (k : Graph). AreStops k c.args.targets.now) (sym c.labels.invariant.graph) c.requires.task.targets_are

pub put-requires-clause-stops : goal.put-requires-clause-stops
put-requires-clause-stops g c = subst (λ (k : Graph). HoldStops k c.args.targets.now c.args.stops.now) (sym c.labels.invariant.graph) c.requires.task.stops_are

pub put-requires-clause-wide : goal.put-requires-clause-wide
put-requires-clause-wide g c = subst (λ (k : Graph). IsWide k c.args.known.now) (sym c.labels.invariant.graph) (is_wide c.args.arena.now.graph c.args.sources.now c.args.targets.now c.args.known.now c.requires.task.knows)

pub put-requires-clause-can : goal.put-requires-clause-can
put-requires-clause-can g c =
    let t : Takes c.args.arena.now.graph c.labels.arena.labels c.labels.search c.take.new.self c.in-Some.candidate = subst (λ (k : Graph). Takes k c.labels.arena.labels c.labels.search c.take.new.self c.in-Some.candidate) c.labels.invariant.graph c.in-Some.ensures.some in
    subst (λ (k : Graph). CanSpread k (left_at k c.args.bound.now) c.take.new.self c.in-Some.candidate) (sym c.labels.invariant.graph)
    (can_spread c.args.arena.now.graph c.args.sources.now c.args.targets.now (left_at c.args.arena.now.graph c.args.bound.now) c.args.known.now c.args.stops.now c.requires.task c.labels.arena.labels c.labels.search c.labels.invariant.running c.take.new.self c.in-Some.candidate t)

pub labels-preserved : goal.labels-preserved
labels-preserved g c =
    let t : Takes c.args.arena.now.graph c.labels.arena.labels c.labels.search c.take.new.self c.in-Some.candidate = subst (λ (k : Graph). Takes k c.labels.arena.labels c.labels.search c.take.new.self c.in-Some.candidate) c.labels.invariant.graph c.in-Some.ensures.some in
    let p : Puts c.args.arena.now.graph c.args.targets.now (left_at c.args.arena.now.graph c.args.bound.now) c.args.known.now (length c.labels.arena.labels) c.take.new.self c.put.new.search c.in-Some.candidate = subst (λ (k : Graph). Puts k c.args.targets.now (left_at k c.args.bound.now) c.args.known.now (length c.labels.arena.labels) c.take.new.self c.put.new.search c.in-Some.candidate) c.labels.invariant.graph c.in_ok-put.ensures.ok in
    record {
      graph = c.in_ok-put.ensures.graph ∙ c.labels.invariant.graph;
      indexed = c.in_ok-put.ensures.indexed ∙ c.labels.invariant.indexed;
      running = subst (λ (ls : List Label). IsRunning c.args.arena.now.graph c.args.sources.now c.args.targets.now (left_at c.args.arena.now.graph c.args.bound.now) c.args.known.now ls c.put.new.search.queue.pairs c.put.new.search.best) (sym c.in_ok-put.ensures.labels)
          (run_put c.args.arena.now.graph c.args.sources.now c.args.targets.now (left_at c.args.arena.now.graph c.args.bound.now) c.args.known.now c.args.stops.now c.requires.task c.labels.arena.labels c.labels.search c.labels.invariant.running c.take.new.self c.in-Some.candidate t c.put.new.search p);
      steps = omega (arith, c.in_ok-put.ensures.step, c.labels.invariant.steps, ap (length {A = Label}) c.in_ok-put.ensures.labels, length_more c.labels.arena.labels c.in-Some.candidate);
    }

pub labels-smaller : goal.labels-smaller
labels-smaller g c =
    let t : Takes c.args.arena.now.graph c.labels.arena.labels c.labels.search c.take.new.self c.in-Some.candidate = subst (λ (k : Graph). Takes k c.labels.arena.labels c.labels.search c.take.new.self c.in-Some.candidate) c.labels.invariant.graph c.in-Some.ensures.some in
    let p : Puts c.args.arena.now.graph c.args.targets.now (left_at c.args.arena.now.graph c.args.bound.now) c.args.known.now (length c.labels.arena.labels) c.take.new.self c.put.new.search c.in-Some.candidate = subst (λ (k : Graph). Puts k c.args.targets.now (left_at k c.args.bound.now) c.args.known.now (length c.labels.arena.labels) c.take.new.self c.put.new.search c.in-Some.candidate) c.labels.invariant.graph c.in_ok-put.ensures.ok in
    fewer_left c.args.arena.now.graph c.args.sources.now c.args.targets.now (left_at c.args.arena.now.graph c.args.bound.now) c.args.known.now c.args.stops.now c.requires.task c.labels.arena.labels c.labels.search c.labels.invariant.running c.take.new.self c.in-Some.candidate t c.put.new.search p c.put.new.arena.labels c.in_ok-put.ensures.labels

pub returns-clause-finished : goal.returns-clause-finished
returns-clause-finished g c = finished c.args.arena.now.graph c.args.sources.now c.args.targets.now (left_at c.args.arena.now.graph c.args.bound.now) c.args.known.now c.args.stops.now c.requires.task c.labels.arena.labels c.labels.search c.labels.invariant.running c.take.new.self (subst (λ (k : Graph). Ends k c.labels.arena.labels c.labels.search c.take.new.self) c.labels.invariant.graph c.in_default.ensures.none)

pub returns-clause-steps : goal.returns-clause-steps
returns-clause-steps g c = c.labels.invariant.steps

pub returns-clause-graph : goal.returns-clause-graph
returns-clause-graph g c = c.labels.invariant.graph

use Rattle.std.proofs.Common.{◌<◌, length, arith}
use Rattle.std.proofs.lemmas.Option.{slice_get_within}
use Rattle.std.proofs.lemmas.List.Elements.{Contains-get_or}
use Rattle.interval_label.specs.Task.{left_at}
use Rattle.interval_label.specs.Search.{CoversPoint, CoversRun}
use Rattle.interval_label.proofs.Spreading.{grows_none, grows_more, spread_more, more_of, bridge_within, run_within, all_points, all_runs, covers_point_kept, covers_run_kept}
use Rattle.interval_label.proofs.search.Search.spread.Goals as goal

pub bridges-init : goal.bridges-init
bridges-init c = record { grows = grows_none c.args.arena.now.graph (left_at c.args.arena.now.graph c.args.bound.now) c.args.known.now c.args.number c.args.label c.args.self.now; points = λ j k l. absurd (omega (arith, l)) }

pub cross_point-requires-clause-within : goal.cross_point-requires-clause-within
cross_point-requires-clause-within c = bridge_within c.args.arena.now.graph c.args.label.place.interval.0 c.bridges_of-k-items.result.now _ c.bridges_of-k-items.ensures.exactly (Contains-get_or c.bridges_of-k-items.result.now c.bridges.k-index 0 c.bridges-test.true)

pub cross_point-requires-clause-can : goal.cross_point-requires-clause-can
cross_point-requires-clause-can c = spread_more c.args.arena.now.graph (left_at c.args.arena.now.graph c.args.bound.now) c.args.known.now c.args.number c.args.label c.args.self.now c.bridges.self c.requires.can c.bridges.invariant.grows

pub bridges-preserved : goal.bridges-preserved
bridges-preserved c = record {
  grows = grows_more c.args.arena.now.graph (left_at c.args.arena.now.graph c.args.bound.now) c.args.known.now c.args.number c.args.label c.args.self.now c.bridges.self c.cross_point.new.self c.bridges.invariant.grows c.in_ok-cross_point.ensures.ok;
  points = more_of (λ k. CoversPoint c.args.arena.now.graph c.cross_point.new.self.queue.pairs c.args.label k) c.bridges_of-k-items.result.now c.bridges.k-index c.bridges-test.true
      (λ j k l h. covers_point_kept c.args.arena.now.graph c.bridges.self.queue.pairs c.cross_point.new.self.queue.pairs c.args.label k c.in_ok-cross_point.ensures.ok.queue.keeps (c.bridges.invariant.points j k l h))
      c.in_ok-cross_point.ensures.covers;
}

pub runs-init : goal.runs-init
runs-init c = record {
  grows = c.bridges.invariant.grows;
  points = all_points c.args.arena.now.graph c.bridges.self.queue.pairs c.args.label c.bridges_of-k-items.result.now c.bridges_of-k-items.ensures.exactly (λ j k h. c.bridges.invariant.points j k (let w : j < length c.bridges_of-k-items.result.now = slice_get_within c.bridges_of-k-items.result.now j k h in omega (arith, w, c.bridges-test.false)) h);
  runs = λ j k l. absurd (omega (arith, l));
}

pub cross_run-requires-clause-within : goal.cross_run-requires-clause-within
cross_run-requires-clause-within c = run_within c.args.arena.now.graph c.args.label.place.interval.0 c.runs_of-k-items.result.now _ c.runs_of-k-items.ensures.exactly (Contains-get_or c.runs_of-k-items.result.now c.runs.k-index 0 c.runs-test.true)

pub cross_run-requires-clause-can : goal.cross_run-requires-clause-can
cross_run-requires-clause-can c = spread_more c.args.arena.now.graph (left_at c.args.arena.now.graph c.args.bound.now) c.args.known.now c.args.number c.args.label c.args.self.now c.runs.self c.requires.can c.runs.invariant.grows

pub runs-preserved : goal.runs-preserved
runs-preserved c = record {
  grows = grows_more c.args.arena.now.graph (left_at c.args.arena.now.graph c.args.bound.now) c.args.known.now c.args.number c.args.label c.args.self.now c.runs.self c.cross_run.new.self c.runs.invariant.grows c.in_ok-cross_run.ensures.ok;
  points = λ k. covers_point_kept c.args.arena.now.graph c.runs.self.queue.pairs c.cross_run.new.self.queue.pairs c.args.label k c.in_ok-cross_run.ensures.ok.queue.keeps (c.runs.invariant.points k);
  runs = more_of (λ k. CoversRun c.args.arena.now.graph c.args.known.now c.cross_run.new.self.queue.pairs c.args.label k) c.runs_of-k-items.result.now c.runs.k-index c.runs-test.true
      (λ j k l h. covers_run_kept c.args.arena.now.graph c.args.known.now c.runs.self.queue.pairs c.cross_run.new.self.queue.pairs c.args.label k c.in_ok-cross_run.ensures.ok.queue.keeps (c.runs.invariant.runs j k l h))
      c.in_ok-cross_run.ensures.covers;
}

pub returns-clause-covers : goal.returns-clause-covers
returns-clause-covers c = record {
  points = c.runs.invariant.points;
  runs = all_runs c.args.arena.now.graph c.args.known.now c.runs.self.queue.pairs c.args.label c.runs_of-k-items.result.now c.runs_of-k-items.ensures.exactly (λ j k h. c.runs.invariant.runs j k (let w : j < length c.runs_of-k-items.result.now = slice_get_within c.runs_of-k-items.result.now j k h in omega (arith, w, c.runs-test.false)) h);
}

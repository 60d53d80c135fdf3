use Rattle.std.proofs.Common.{◌≡◌, ◌+◌, ap, refl, arith}
use Rattle.label_arena.specs.declared.place.IntervalNo.{IntervalNo}
use Rattle.label_arena.specs.Plain.{slide}
use Rattle.interval_label.specs.Task.{left_at}
use Rattle.interval_label.specs.Search.{IsCrossed}
use Rattle.interval_label.proofs.Costs.{interval_same}
use Rattle.interval_label.proofs.Crossing.{key_crossed}
use Rattle.interval_label.proofs.Queues.{gains_one}
use Rattle.interval_label.proofs.Spreading.{way_small}
use Rattle.interval_label.proofs.search.Search.cross.Goals as goal

pub overflow_add-dist-2 : goal.overflow_add-dist-2
overflow_add-dist-2 c = omega (arith, c.along.ensures.small, c.requires.can.small, way_small c.args.arena.now.graph c.args.by c.args.near c.args.far c.args.cost c.requires.field.priced c.requires.can.way)

pub wait-requires-clause-small : goal.wait-requires-clause-small
wait-requires-clause-small c = omega (arith, c.along.ensures.small, c.requires.can.small, way_small c.args.arena.now.graph c.args.by c.args.near c.args.far c.args.cost c.requires.field.priced c.requires.can.way)

pub wait-requires-clause-floor : goal.wait-requires-clause-floor
wait-requires-clause-floor c =
    let e : c.args.label.dist + c.along.result + c.args.cost ≡ c.args.label.dist + slide c.args.arena.now.graph c.args.label.place c.args.near.coord + c.args.cost = ap (λ n. c.args.label.dist + n + c.args.cost) c.along.ensures.value in
    omega (arith, c.requires.can.floor, key_crossed c.args.arena.now.graph (left_at c.args.arena.now.graph c.args.bound.now) c.args.by c.requires.field.bounded.consistent c.args.label c.args.near c.args.far c.args.cost _ c.requires.can.label_in c.requires.can.near_in (interval_same _ _ c.if-label-near.false) c.requires.can.way e)

pub returns-clause-ok : goal.returns-clause-ok
returns-clause-ok c = record {
  best = c.in_ok-wait.ensures.ok.best;
  floor = c.in_ok-wait.ensures.ok.floor;
  queue = gains_one (IsCrossed c.args.arena.now.graph (left_at c.args.arena.now.graph c.args.bound.now) c.args.known.now c.args.number c.args.label) _ _ _ _ c.in_ok-wait.ensures.ok.queue (record {
    near = c.args.near;
    cost = c.args.cost;
    key = refl;
    near_in = c.requires.can.near_in;
    far_in = c.requires.can.far_in;
    one_interval = (interval_same _ _ c.if-label-near.false);
    way = c.requires.can.way;
    dist = ap (λ n. c.args.label.dist + n + c.args.cost) c.along.ensures.value;
    origin = refl;
    mark = c.requires.can.mark (interval_same _ _ c.if-label-near.false);
  });
}

pub along-requires-clause-one_interval : goal.along-requires-clause-one_interval
along-requires-clause-one_interval c = interval_same _ _ c.if-label-near.false

pub returns-then-label-near-clause-covers : goal.returns-then-label-near-clause-covers
returns-then-label-near-clause-covers c e = absurd (c.if-label-near.true (ap (λ (n : IntervalNo). n.0) e))

pub returns-clause-covers : goal.returns-clause-covers
returns-clause-covers c e = record { key = _; candidate = _; queued = c.in_ok-wait.ensures.ok.queue.has; place = refl; cheap = (let v : c.args.label.dist + c.along.result + c.args.cost ≡ c.args.label.dist + slide c.args.arena.now.graph c.args.label.place c.args.near.coord + c.args.cost = ap (λ n. c.args.label.dist + n + c.args.cost) c.along.ensures.value in omega (arith, v)) }

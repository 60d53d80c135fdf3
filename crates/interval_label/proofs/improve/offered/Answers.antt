use Rattle.std.proofs.Common.{◌+◌, slice_index_or, refl, ap, arith}
use Rattle.std.proofs.lemmas.Option.{slice_get-get_or}
use Rattle.std.proofs.lemmas.List.Elements.{Contains-get_or}
use Rattle.label_arena.specs.declared.place.IntervalNo.{IntervalNo}
use Rattle.interval_label.specs.Task.{Stop}
use Rattle.interval_label.proofs.Costs.{interval_same}
use Rattle.interval_label.proofs.Improving.{no_stop, improved_by, improved_other}
use Rattle.interval_label.proofs.improve.offered.Goals as goal

pub along-requires-clause-to : goal.along-requires-clause-to
along-requires-clause-to c = (c.requires.targets (slice_index_or c.args.targets.now c.args.k no_stop) (Contains-get_or c.args.targets.now c.args.k no_stop c.requires.within)).0

pub along-requires-clause-one_interval : goal.along-requires-clause-one_interval
along-requires-clause-one_interval c = interval_same _ _ c.if-label-place.false

pub overflow_add-cost-2 : goal.overflow_add-cost-2
overflow_add-cost-2 c =
    let t : Stop = slice_index_or c.args.targets.now c.args.k no_stop in
    omega (arith, c.requires.small, c.along.ensures.small, (c.requires.targets t (Contains-get_or c.args.targets.now c.args.k no_stop c.requires.within)).1)

pub returns : goal.returns
returns c =
    let t : Stop = slice_index_or c.args.targets.now c.args.k no_stop in
    improved_by c.args.arena.now.graph c.args.targets.now c.args.label c.args.number c.args.k t c.args.best _ c.cheaper.result (slice_get-get_or c.args.targets.now c.args.k no_stop c.requires.within) (interval_same _ _ c.if-label-place.false) refl refl (ap (λ n. c.args.label.dist + n + t.1) c.along.ensures.value) c.cheaper.ensures

pub returns-then-label-place : goal.returns-then-label-place
returns-then-label-place c =
    let t : Stop = slice_index_or c.args.targets.now c.args.k no_stop in
    improved_other c.args.arena.now.graph c.args.targets.now c.args.label c.args.number c.args.k t c.args.best (slice_get-get_or c.args.targets.now c.args.k no_stop c.requires.within) (λ e. c.if-label-place.true (ap (λ (n : IntervalNo). n.0) e))

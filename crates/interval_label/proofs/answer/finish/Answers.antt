use Rattle.std.proofs.Common.{◌+◌, sym, refl, ap, subst, List, Some, length, arith}
use Rattle.std.proofs.lemmas.Option.{slice_get_within}
use Rattle.label_arena.specs.declared.place.Label.{Label}
use Rattle.label_arena.specs.declared.place.By.TheVariants.{Slide}
use Rattle.interval_label.specs.Task.{left_at}
use Rattle.interval_label.specs.Answers.{IsFound, AreLeast, ExplainsMarks, AreBelow}
use Rattle.interval_label.specs.declared.answer.Reached.TheVariants.{Cost}
use Rattle.interval_label.proofs.Lists.{length_more}
use Rattle.interval_label.proofs.Putting.{contains_at, settled_state}
use Rattle.interval_label.proofs.Finishing.{none_joined, all_explained, labels_least, explained_below, labels_below, offer, one_interval, found_old, labels_new, found_new, explained_new, below_new}
use Rattle.interval_label.proofs.answer.finish.Goals as goal

pub returns-in_default-clause-answer : goal.returns-in_default-clause-answer
returns-in_default-clause-answer g c =
    none_joined c.args.arena.now.graph c.args.sources.now c.args.targets.now (left_at c.args.arena.now.graph c.args.bound.now) c.args.known.now c.args.stops.now c.requires.task c.args.arena.now.labels c.args.best c.requires.finished c.in_default.is

pub returns-in_default-clause-labels : goal.returns-in_default-clause-labels
returns-in_default-clause-labels g c =
    labels_least c.args.arena.now.graph c.args.sources.now c.args.targets.now (left_at c.args.arena.now.graph c.args.bound.now) c.args.known.now c.args.stops.now c.requires.task c.args.arena.now.labels c.args.best c.requires.finished

pub returns-in_default-clause-explained : goal.returns-in_default-clause-explained
returns-in_default-clause-explained g c =
    all_explained c.args.arena.now.graph c.args.sources.now c.args.targets.now (left_at c.args.arena.now.graph c.args.bound.now) c.args.known.now c.args.stops.now c.requires.task c.args.arena.now.labels c.args.best c.requires.finished c.in_default.is

pub stop_at-requires : goal.stop_at-requires
stop_at-requires g c =
    let o = offer c.args.arena.now.graph c.args.sources.now c.args.targets.now (left_at c.args.arena.now.graph c.args.bound.now) c.args.known.now c.args.stops.now c.requires.task c.args.arena.now.labels c.args.best c.requires.finished c.in-Some.best c.in-Some.is in slice_get_within c.args.targets.now c.in-Some.best.target o.2.target o.2.at

pub label_at-requires : goal.label_at-requires
label_at-requires g c =
    (c.requires.task.targets_are c.stop_at.result (contains_at c.args.targets.now c.in-Some.best.target c.stop_at.result c.stop_at.ensures)).0

pub returns-in-Some-label_at-clause-answer : goal.returns-in-Some-label_at-clause-answer
returns-in-Some-label_at-clause-answer g c =
    let o = offer c.args.arena.now.graph c.args.sources.now c.args.targets.now (left_at c.args.arena.now.graph c.args.bound.now) c.args.known.now c.args.stops.now c.requires.task c.args.arena.now.labels c.args.best c.requires.finished c.in-Some.best c.in-Some.is in
    found_old c.args.arena.now.graph c.args.sources.now c.args.targets.now (left_at c.args.arena.now.graph c.args.bound.now) c.args.known.now c.args.stops.now c.requires.task c.args.arena.now.labels c.args.best c.requires.finished c.in-Some.best c.in-Some.is c.stop_at.result c.stop_at.ensures o.0 o.1 c.in-Some-label_at.label c.in-Some-label_at.ensures.some

pub returns-in-Some-label_at-clause-labels : goal.returns-in-Some-label_at-clause-labels
returns-in-Some-label_at-clause-labels g c =
    labels_least c.args.arena.now.graph c.args.sources.now c.args.targets.now (left_at c.args.arena.now.graph c.args.bound.now) c.args.known.now c.args.stops.now c.requires.task c.args.arena.now.labels c.args.best c.requires.finished

pub returns-in-Some-label_at-clause-explained : goal.returns-in-Some-label_at-clause-explained
returns-in-Some-label_at-clause-explained g c =
    explained_below c.args.arena.now.graph c.args.sources.now c.args.targets.now (left_at c.args.arena.now.graph c.args.bound.now) c.args.known.now c.args.stops.now c.requires.task c.args.arena.now.labels c.args.best c.requires.finished c.in-Some.best c.in-Some.is

pub returns-in-Some-label_at-clause-below : goal.returns-in-Some-label_at-clause-below
returns-in-Some-label_at-clause-below g c =
    labels_below c.args.arena.now.graph c.args.sources.now c.args.targets.now (left_at c.args.arena.now.graph c.args.bound.now) c.args.known.now c.args.stops.now c.requires.task c.args.arena.now.labels c.args.best c.requires.finished c.in-Some.best c.in-Some.is

pub label-from-requires : goal.label-from-requires
label-from-requires g c =
    let o = offer c.args.arena.now.graph c.args.sources.now c.args.targets.now (left_at c.args.arena.now.graph c.args.bound.now) c.args.known.now c.args.stops.now c.requires.task c.args.arena.now.labels c.args.best c.requires.finished c.in-Some.best c.in-Some.is in slice_get_within c.args.arena.now.labels c.in-Some.best.number o.0 o.1

pub along-requires-clause-from : goal.along-requires-clause-from
along-requires-clause-from g c =
    (c.requires.finished.running.sound.state.labels c.in-Some.best.number c.label-from.result c.label-from.ensures).inside

pub along-requires-clause-to : goal.along-requires-clause-to
along-requires-clause-to g c =
    (c.requires.task.targets_are c.stop_at.result (contains_at c.args.targets.now c.in-Some.best.target c.stop_at.result c.stop_at.ensures)).0

pub along-requires-clause-one_interval : goal.along-requires-clause-one_interval
along-requires-clause-one_interval g c =
    one_interval c.args.arena.now.graph c.args.sources.now c.args.targets.now (left_at c.args.arena.now.graph c.args.bound.now) c.args.known.now c.args.stops.now c.requires.task c.args.arena.now.labels c.args.best c.requires.finished c.in-Some.best c.in-Some.is c.stop_at.result c.stop_at.ensures c.label-from.result c.label-from.ensures

pub overflow_add-dist : goal.overflow_add-dist
overflow_add-dist g c =
    omega (arith, c.along.ensures.small, (settled_state c.args.arena.now.graph c.args.sources.now c.args.targets.now (left_at c.args.arena.now.graph c.args.bound.now) c.args.arena.now.labels c.requires.finished.queue c.requires.task.near c.requires.finished.running.sound.state).small c.in-Some.best.number c.label-from.result c.label-from.ensures)

pub put-requires : goal.put-requires
put-requires g c =
    (c.requires.task.targets_are c.stop_at.result (contains_at c.args.targets.now c.in-Some.best.target c.stop_at.result c.stop_at.ensures)).0

pub returns-clause-answer : goal.returns-clause-answer
returns-clause-answer g c =
    let y : Label = record { place = c.stop_at.result.0; dist = c.label-from.result.dist + c.along.result; by = Slide; origin = Some (record { 0 = c.in-Some.best.number }) } in
    subst (λ (ls : List Label). IsFound c.args.arena.now.graph c.args.sources.now c.args.targets.now ls c.in-Some.best.cost c.in-Some.best.target c.in_ok-label.label) (sym c.in_ok-label.ensures.labels)
    (found_new c.args.arena.now.graph c.args.sources.now c.args.targets.now (left_at c.args.arena.now.graph c.args.bound.now) c.args.known.now c.args.stops.now c.requires.task c.args.arena.now.labels c.args.best c.requires.finished c.in-Some.best c.in-Some.is c.stop_at.result c.stop_at.ensures c.label-from.result c.label-from.ensures c.in_default-label_at.ensures.none y refl (ap (λ n. c.label-from.result.dist + n) c.along.ensures.value) refl (record { 0 = c.in-Some.best.number }) refl refl c.in_ok-label.label c.in_ok-label.ensures.number)

pub returns-clause-labels : goal.returns-clause-labels
returns-clause-labels g c =
    let y : Label = record { place = c.stop_at.result.0; dist = c.label-from.result.dist + c.along.result; by = Slide; origin = Some (record { 0 = c.in-Some.best.number }) } in
    subst (λ (ls : List Label). AreLeast c.args.arena.now.graph c.args.sources.now c.args.targets.now ls) (sym c.in_ok-label.ensures.labels)
    (labels_new c.args.arena.now.graph c.args.sources.now c.args.targets.now (left_at c.args.arena.now.graph c.args.bound.now) c.args.known.now c.args.stops.now c.requires.task c.args.arena.now.labels c.args.best c.requires.finished c.in-Some.best c.in-Some.is c.stop_at.result c.stop_at.ensures c.label-from.result c.label-from.ensures c.in_default-label_at.ensures.none y refl (ap (λ n. c.label-from.result.dist + n) c.along.ensures.value) refl (record { 0 = c.in-Some.best.number }) refl refl)

pub returns-clause-explained : goal.returns-clause-explained
returns-clause-explained g c =
    let y : Label = record { place = c.stop_at.result.0; dist = c.label-from.result.dist + c.along.result; by = Slide; origin = Some (record { 0 = c.in-Some.best.number }) } in
    subst (λ (ls : List Label). ExplainsMarks c.args.arena.now.graph c.args.sources.now c.args.targets.now (left_at c.args.arena.now.graph c.args.bound.now) ls (Cost c.in-Some.best.cost c.in-Some.best.target c.in_ok-label.label)) (sym c.in_ok-label.ensures.labels)
    (explained_new c.args.arena.now.graph c.args.sources.now c.args.targets.now (left_at c.args.arena.now.graph c.args.bound.now) c.args.known.now c.args.stops.now c.requires.task c.args.arena.now.labels c.args.best c.requires.finished c.in-Some.best c.in-Some.is c.stop_at.result c.stop_at.ensures c.label-from.result c.label-from.ensures c.in_default-label_at.ensures.none y refl (ap (λ n. c.label-from.result.dist + n) c.along.ensures.value) refl (record { 0 = c.in-Some.best.number }) refl refl)

pub returns-clause-below : goal.returns-clause-below
returns-clause-below g c =
    let y : Label = record { place = c.stop_at.result.0; dist = c.label-from.result.dist + c.along.result; by = Slide; origin = Some (record { 0 = c.in-Some.best.number }) } in
    subst (λ (ls : List Label). AreBelow (left_at c.args.arena.now.graph c.args.bound.now) ls (Cost c.in-Some.best.cost c.in-Some.best.target c.in_ok-label.label)) (sym c.in_ok-label.ensures.labels)
    (below_new c.args.arena.now.graph c.args.sources.now c.args.targets.now (left_at c.args.arena.now.graph c.args.bound.now) c.args.known.now c.args.stops.now c.requires.task c.args.arena.now.labels c.args.best c.requires.finished c.in-Some.best c.in-Some.is c.stop_at.result c.stop_at.ensures c.label-from.result c.label-from.ensures c.in_default-label_at.ensures.none y refl (ap (λ n. c.label-from.result.dist + n) c.along.ensures.value) refl (record { 0 = c.in-Some.best.number }) refl refl)

pub returns-clause-steps : goal.returns-clause-steps
returns-clause-steps g c =
    let y : Label = record { place = c.stop_at.result.0; dist = c.label-from.result.dist + c.along.result; by = Slide; origin = Some (record { 0 = c.in-Some.best.number }) } in
    omega (arith, c.in_ok-label.ensures.step, ap (length {A = Label}) c.in_ok-label.ensures.labels, length_more c.args.arena.now.labels y)

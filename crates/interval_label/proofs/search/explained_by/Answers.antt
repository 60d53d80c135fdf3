use Rattle.std.proofs.Common.{arith}
use Rattle.interval_label.proofs.Explaining.{not_explained_by, none_explained_by, on_label, on_within}
use Rattle.interval_label.proofs.search.explained_by.Goals as goal

pub returns-in_default-clause-no : goal.returns-in_default-clause-no
returns-in_default-clause-no c = none_explained_by c.args.arena.now.graph c.args.arena.now.labels c.args.by c.args.candidate c.in_default.is

pub label-label-requires : goal.label-label-requires
label-label-requires c = on_within c.args.arena.now.labels c.args.candidate.place c.args.by c.in-Some.number c.requires.on c.in-Some.is

pub along-requires-clause-from : goal.along-requires-clause-from
along-requires-clause-from c = c.requires.settled.inside c.in-Some.number.0 c.label-label.result c.label-label.ensures

pub along-requires-clause-one_interval : goal.along-requires-clause-one_interval
along-requires-clause-one_interval c = on_label c.args.arena.now.labels c.args.candidate.place c.args.by c.in-Some.number c.label-label.result c.requires.on c.in-Some.is c.label-label.ensures

pub overflow_add-dist : goal.overflow_add-dist
overflow_add-dist c = omega (arith, c.along.ensures.small, c.requires.settled.small c.in-Some.number.0 c.label-label.result c.label-label.ensures)

pub returns-then-candidate-dist-clause-no : goal.returns-then-candidate-dist-clause-no
returns-then-candidate-dist-clause-no c = not_explained_by c.args.arena.now.graph c.args.arena.now.labels c.args.by c.args.candidate c.in-Some.number c.label-label.result c.in-Some.is c.label-label.ensures (omega (arith, c.if-candidate-dist.true, c.along.ensures.value))

pub returns-clause-yes : goal.returns-clause-yes
returns-clause-yes c = record { number = c.in-Some.number.0; label = c.label-label.result; is = c.label-label.ensures; one_interval = on_label c.args.arena.now.labels c.args.candidate.place c.args.by c.in-Some.number c.label-label.result c.requires.on c.in-Some.is c.label-label.ensures; cheap = omega (arith, c.if-candidate-dist.false, c.along.ensures.value) }

use Rattle.std.proofs.lemmas.Option.{slice_get_within}
use Rattle.interval_label.proofs.Finding.{none_below}
use Rattle.interval_label.proofs.answer.label_at.Goals as goal

pub returns-in_err-below-clause-none : goal.returns-in_err-below-clause-none
returns-in_err-below-clause-none c = rw c.from_residual.ensures (none_below c.args.arena.now.labels c.args.place c.in_err-below.ensures)

pub label-requires : goal.label-requires
label-requires c = slice_get_within c.args.arena.now.labels c.in_ok-below.below.0 c.in_ok-below.ensures.label c.in_ok-below.ensures.is.at

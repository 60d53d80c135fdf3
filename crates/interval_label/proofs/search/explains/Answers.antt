use Rattle.std.proofs.Common.{⊎_elim}
use Rattle.interval_label.specs.Search.{IsExplainedBy}
use Rattle.interval_label.proofs.Explaining.{explained_near, on_below, on_above}
use Rattle.interval_label.proofs.search.explains.Goals as goal

pub explained_by-requires-clause-on : goal.explained_by-requires-clause-on
explained_by-requires-clause-on c = on_below c.args.arena.now.labels c.args.candidate.place c.next_below-below.result c.next_below-below.ensures

pub explained_by-requires-2-clause-on : goal.explained_by-requires-2-clause-on
explained_by-requires-2-clause-on c = on_above c.args.arena.now.labels c.args.candidate.place c.next_above-above.result c.next_above-above.ensures

pub returns-clause-no : goal.returns-clause-no
returns-clause-no c h = ⊎_elim
    (λ (a : IsExplainedBy c.args.arena.now.graph c.args.arena.now.labels c.next_below-below.result c.args.candidate). c.if-explained_by.ensures.no a)
    (λ (a : IsExplainedBy c.args.arena.now.graph c.args.arena.now.labels c.next_above-above.result c.args.candidate). c.if-explained_by-2.ensures.no a)
    (explained_near c.args.arena.now.graph c.args.arena.now.labels c.requires.settled c.args.candidate c.next_below-below.result c.next_above-above.result c.next_below-below.ensures c.next_above-above.ensures h)

use Rattle.std.proofs.Common.{sym, List, subst}
use Rattle.label_arena.specs.declared.place.Place.{Place}
use Rattle.interval_label.specs.Known.{IsMarking}
use Rattle.interval_label.proofs.MarkList.{marking_new}
use Rattle.interval_label.proofs.marking.Marking.new.Goals as goal

pub returns-clause-marking : goal.returns-clause-marking
returns-clause-marking c = subst (λ (l : List Place). IsMarking c.args.arena.now.graph l c.in_ok-rows.rows) (sym c.new.ensures.items) (marking_new c.args.arena.now.graph c.in_ok-rows.rows c.in_ok-rows.ensures)

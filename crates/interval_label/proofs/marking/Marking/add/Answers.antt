use Rattle.std.proofs.Common.{◌≡◌, sym, List, Contains, subst, arith}
use Rattle.interval_label.specs.Known.{RowGains}
use Rattle.interval_label.specs.declared.marking.Mark.{Mark}
use Rattle.interval_label.proofs.Costs.{inside_number}
use Rattle.interval_label.proofs.MarkList.{marks_same, marks_added, has_added}
use Rattle.interval_label.proofs.marking.Marking.add.Goals as goal

pub row_of-requires : goal.row_of-requires
row_of-requires c = omega (arith, inside_number c.args.arena.now.graph c.args.place c.requires.inside, c.requires.marking.wide)

pub returns-then-has-clause-ok : goal.returns-then-has-clause-ok
returns-then-has-clause-ok c = marks_same c.args.arena.now.graph (λ v. v ≡ c.args.place) c.args.self.now c.requires.marking

pub returns-then-has-clause-has : goal.returns-then-has-clause-has
returns-then-has-clause-has c = c.requires.marking.list_has c.args.place (subst (λ (r : List Mark). Contains r (record { coord = c.args.place.coord })) c.row_of.ensures c.if-has.ensures.yes)

pub add_to-requires : goal.add_to-requires
add_to-requires c = omega (arith, inside_number c.args.arena.now.graph c.args.place c.requires.inside, c.requires.marking.wide)

pub returns-clause-ok : goal.returns-clause-ok
returns-clause-ok c = marks_added c.args.arena.now.graph c.args.self.now _ c.args.place c.requires.marking c.requires.inside
    (λ h. c.if-has.ensures.no (subst (λ (r : List Mark). Contains r (record { coord = c.args.place.coord })) (sym c.row_of.ensures) h))
    c.in_ok-push.ensures.items
    (subst (λ (m : Mark). RowGains c.args.self.now.rows c.add_to.new.rows c.args.place.interval.0 m) c.of.ensures c.in_ok-add_to.ensures.ok)

pub returns-clause-has : goal.returns-clause-has
returns-clause-has c = has_added c.args.self.now.list.items _ c.args.place c.in_ok-push.ensures.items

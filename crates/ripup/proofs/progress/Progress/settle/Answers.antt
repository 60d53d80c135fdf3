use Rattle.std.proofs.Common.{subst}
use Rattle.ripup.specs.Progress.{IsSettling}
use Rattle.ripup.proofs.TurnLemmas.{settling-more, settling-routable}
use Rattle.ripup.proofs.progress.Progress.settle.Goals as goal

pub turn-requires-clause-routable : goal.turn-requires-clause-routable
turn-requires-clause-routable c =
    settling-routable c.args.design.now c.args.net c.in-Some.next c.turns.self c.args.self.now c.turns.todo.items c.pop.new.self.items
    c.requires.under_way c.requires.routable c.turns.invariant c.in-Some.ensures.items

pub turns-preserved : goal.turns-preserved
turns-preserved c =
    settling-more c.args.design.now c.args.net c.in-Some.next c.turn.new.self c.turns.self c.args.self.now c.turn.new.todo.items c.pop.new.self.items
    (subst (IsSettling c.args.design.now c.args.net c.turns.self c.args.self.now) c.in-Some.ensures.items c.turns.invariant)
    c.in_ok-turn.ensures

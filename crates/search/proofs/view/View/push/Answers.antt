use Rattle.std.proofs.Common.{OnOk, sym, subst}
use Rattle.search.specs.Views.{StandsFor}
use Rattle.search.proofs.StateChanges.{where-ok}
use Rattle.track_graph.specs.Conditions.{IsBlockOf}
use Rattle.track_graph.specs.States.{after}
use Rattle.track_graph.specs.declared.history.Block.{Block}
use Rattle.track_graph.specs.declared.history.State.{State}
use Rattle.search.proofs.view.View.push.Goals as goal

pub returns-in-Stuck-clause-stands : goal.returns-in-Stuck-clause-stands
returns-in-Stuck-clause-stands c =
    let d = c.args.design.now in
    let is_net = subst (IsBlockOf d) c.in-Stuck.is c.requires.block in
    subst (λ (b : Block). OnOk c.mark.result ((s : State) → StandsFor d s c.args.self.now → StandsFor d (after s b) c.mark.new.self)) (sym c.in-Stuck.is)
    (where-ok c.mark.result (λ f g. λ s stood. f s stood is_net) (c.mark.ensures.stands d) (c.mark.ensures.stands d))

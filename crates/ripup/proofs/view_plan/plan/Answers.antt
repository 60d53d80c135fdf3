use Rattle.std.proofs.Common.{◌≡◌, false, subst, sym}
use Rattle.track_graph.specs.Histories.{all_joined}
use Rattle.track_graph.specs.declared.history.NetState.{NetState}
use Rattle.plain_route.proofs.StockLaw.{state-ground}
use Rattle.search.proofs.ViewLaw.{view-stands}
use Rattle.ripup.proofs.view_plan.plan.Goals as goal

pub choose-requires-clause-ground : goal.choose-requires-clause-ground
choose-requires-clause-ground c =
    let w = c.requires.waiting in
    state-ground c.args.design.now w.state c.args.net c.of_net.result.now (w.stands.of_nets c.args.net c.of_net.result.now c.of_net.ensures) c.requires.design w.stands.of_design w.waiting.routable

pub choose-requires-clause-not_stuck : goal.choose-requires-clause-not_stuck
choose-requires-clause-not_stuck c =
    let w = c.requires.waiting in
    subst (λ (own : NetState). own.stuck ≡ false) (sym (w.stands.of_nets c.args.net c.of_net.result.now c.of_net.ensures)) w.waiting.not_stuck

pub choose-requires-clause-unjoined : goal.choose-requires-clause-unjoined
choose-requires-clause-unjoined c =
    let w = c.requires.waiting in
    subst (λ (own : NetState). all_joined own ≡ false) (sym (w.stands.of_nets c.args.net c.of_net.result.now c.of_net.ensures)) w.waiting.unjoined

pub choose-requires-clause-some : goal.choose-requires-clause-some
choose-requires-clause-some c =
    let w = c.requires.waiting in (
      w.state,
      record {
        state = w.stands.of_design;
        stands = view-stands c.args.design.now w.state c.args.view.now c.requires.design w.stands c.requires.tiles;
        known = w.stands.of_nets c.args.net c.of_net.result.now c.of_net.ensures;
      },
    )

pub returns : goal.returns
returns c = λ s stands.
    c.choose.ensures s (record {
      state = stands.of_design;
      stands = view-stands c.args.design.now s c.args.view.now c.requires.design stands c.requires.tiles;
      known = stands.of_nets c.args.net c.of_net.result.now c.of_net.ensures;
    })

use Rattle.std.proofs.Common.{◌≡◌, true, false, subst, sym}
use Rattle.track_graph.specs.Histories.{all_joined}
use Rattle.track_graph.specs.declared.history.NetState.{NetState}
use Rattle.plain_route.proofs.StockLaw.{state-ground}
use Rattle.ripup.specs.declared.choice.Choice.{Choice}
use Rattle.ripup.specs.Choices.{IsChoice}
use Rattle.ripup.proofs.ChoiceLemmas.{stored-shows, widened_never}
use Rattle.ripup.proofs.next.next_block.Goals as goal

pub choose-requires-clause-ground : goal.choose-requires-clause-ground
choose-requires-clause-ground g c = state-ground c.args.design.now c.args.state.now c.args.net c.of_net.result.now c.of_net.ensures c.requires.design c.requires.state c.requires.waiting.routable

pub choose-requires-clause-not_stuck : goal.choose-requires-clause-not_stuck
choose-requires-clause-not_stuck g c = subst (λ (own : NetState). own.stuck ≡ false) (sym c.of_net.ensures) c.requires.waiting.not_stuck

pub choose-requires-clause-unjoined : goal.choose-requires-clause-unjoined
choose-requires-clause-unjoined g c = subst (λ (own : NetState). all_joined own ≡ false) (sym c.of_net.ensures) c.requires.waiting.unjoined

pub choose-requires-clause-some : goal.choose-requires-clause-some
choose-requires-clause-some g c = (c.args.state.now, stored-shows c.args.design.now c.args.state.now c.args.net c.of_net.result.now (g.S.ShapeStore.shapes c.args.store.now) c.requires.state c.requires.stored c.of_net.ensures)

pub unreachable-requires : goal.unreachable-requires
unreachable-requires g c =
    let d = c.args.design.now in
    let s = c.args.state.now in
    let n = c.args.net in
    widened_never d s n c.in-Widen.nets
    (subst (λ (x : Choice). IsChoice d s (λ m. true) n x) c.in-Widen.is
    (c.in_ok-walk.ensures s (stored-shows d s n c.of_net.result.now (g.S.ShapeStore.shapes c.args.store.now) c.requires.state c.requires.stored c.of_net.ensures)))

pub returns-in-Wire-clause-right : goal.returns-in-Wire-clause-right
returns-in-Wire-clause-right g c =
    let d = c.args.design.now in
    let s = c.args.state.now in
    let n = c.args.net in
    subst (λ (x : Choice). IsChoice d s (λ m. true) n x) c.in-Wire.is
    (c.in_ok-walk.ensures s (stored-shows d s n c.of_net.result.now (g.S.ShapeStore.shapes c.args.store.now) c.requires.state c.requires.stored c.of_net.ensures))

pub returns-in-Stuck-clause-right : goal.returns-in-Stuck-clause-right
returns-in-Stuck-clause-right g c =
    let d = c.args.design.now in
    let s = c.args.state.now in
    let n = c.args.net in
    subst (λ (x : Choice). IsChoice d s (λ m. true) n x) c.in-Stuck.is
    (c.in_ok-walk.ensures s (stored-shows d s n c.of_net.result.now (g.S.ShapeStore.shapes c.args.store.now) c.requires.state c.requires.stored c.of_net.ensures))

pub returns-in-RipFor-clause-right : goal.returns-in-RipFor-clause-right
returns-in-RipFor-clause-right g c =
    let d = c.args.design.now in
    let s = c.args.state.now in
    let n = c.args.net in
    (subst (λ (x : Choice). IsChoice d s (λ m. true) n x) c.in-RipFor.is
    (c.in_ok-walk.ensures s (stored-shows d s n c.of_net.result.now (g.S.ShapeStore.shapes c.args.store.now) c.requires.state c.requires.stored c.of_net.ensures))).right

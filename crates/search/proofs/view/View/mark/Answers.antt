use Rattle.std.proofs.Common.{◌≡◌, true, refl, subst, arith}
use Rattle.std.specs.List.{sum_by}
use Rattle.search.proofs.Masks.{failing}
use Rattle.search.proofs.OnTiles.{is_upright}
use Rattle.search.proofs.StateChanges.{IsTurned, mark-turns, turned-view, view-turned, where-ok}
use Rattle.track_graph.specs.States.{net_shapes, net_state}
use Rattle.track_graph.specs.declared.history.NetState.{NetState}
use Rattle.track_graph.proofs.StateLemmas.{with_mark-kept}
use Rattle.search.proofs.view.View.mark.Goals as goal

abbrev marked : NetState → NetState
marked own = record { walks = own.walks; joined = own.joined; rips = own.rips; stuck = true }

pub returns-clause-stands : goal.returns-clause-stands
returns-clause-stands c = λ d.
    let n = c.args.net in
    let own = c.take_net-own.result in
    let old = c.args.self.now in
    let taken = c.take_net-own.new.self in
    let now = c.put_back.new.self in
    where-ok c.put_back.result
    (λ nets rips. λ s stood is_net.
    let own_is : own ≡ net_state s n = stood.of_nets n own c.take_net-own.ensures.value in
    let turn : IsTurned d n own (marked own) old now =
    turned-view d n own (marked own) old taken taken now c.take_net-own.ensures.pieces c.take_net-own.ensures.rips c.take_net-own.ensures.rest (mark-turns d n own (marked own) taken.pieces refl) refl refl c.put_back.ensures.pieces nets rips in
    let turned : IsTurned d n (net_state s n) (marked (net_state s n)) old now = subst (λ (x : NetState). IsTurned d n x (marked x) old now) own_is turn in
    let same : sum_by (failing is_upright) (net_shapes d n (marked (net_state s n))) ≡ sum_by (failing is_upright) (net_shapes d n (net_state s n)) = refl in
    view-turned d s n (marked (net_state s n)) old now (omega (arith, is_net, stood.of_design.nets)) (with_mark-kept d s n stood.of_design is_net) stood turned (omega (arith, same)))
    c.put_back.ensures.nets c.put_back.ensures.rips

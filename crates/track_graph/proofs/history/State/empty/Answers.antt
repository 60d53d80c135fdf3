use Rattle.std.proofs.Common.{◌≡◌, ◌∙◌, ℕ, ap, sym, take, get_or, length}
use Rattle.std.proofs.lemmas.List.{take_more, take_all}
use Rattle.track_graph.specs.declared.history.State.{State}
use Rattle.track_graph.specs.States.{emptied, emptied_net, net_state, with_net}
use Rattle.track_graph.proofs.StateLemmas.{emptied-push, length-emptied}
use Rattle.track_graph.proofs.history.State.empty.Goals as goal

pub empty_net-requires : goal.empty_net-requires
empty_net-requires c =
    let same : length c.loop-net.self.nets ≡ length c.args.self.now.nets =
    ap (λ (t : State). length t.nets) c.loop-net.invariant ∙ length-emptied c.args.self.now (take c.loop-net.net-index c.args.ripped.now) in
    rw same (c.requires c.loop-net.net-index _ c.loop-net-test.true)

pub loop-net-preserved : goal.loop-net-preserved
loop-net-preserved c =
    let m : ℕ = get_or c.args.ripped.now c.loop-net.net-index 0 in
    c.empty_net.ensures
    ∙ ap (λ (t : State). with_net t m (emptied_net (net_state t m))) c.loop-net.invariant
    ∙ sym (emptied-push c.args.self.now (take c.loop-net.net-index c.args.ripped.now) m)
    ∙ ap (emptied c.args.self.now) (sym (take_more c.args.ripped.now c.loop-net.net-index 0 c.loop-net-test.true))

pub returns : goal.returns
returns c = c.loop-net.invariant ∙ ap (emptied c.args.self.now) (take_all c.loop-net.net-index c.args.ripped.now c.loop-net-test.false)

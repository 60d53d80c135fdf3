use Rattle.std.proofs.Common.{◌≡◌, ◌∙◌, ◌++◌, ◌+◌, ◌<◌, ℕ, List, ap, length, drop, arith}
use Rattle.std.specs.Prelude.{flat_map, slice_range}
use Rattle.track_graph.specs.States.{net_state}
use Rattle.track_graph.specs.Strokes.{walk_strokes}
use Rattle.def_out.specs.Conditions.{AreCloses}
use Rattle.def_out.specs.Wiring.{routed_from, wiring_text}
use Rattle.def_out.proofs.Routed.{close_within, closes_ahead, net_state-at, routed_more, walks_stand}
use Rattle.def_out.proofs.write_def.Goals as goal

pub net_wiring-requires-clause-walks : goal.net_wiring-requires-clause-walks
net_wiring-requires-clause-walks c =
    let states_is : c.as_slice-states.result.now ≡ c.args.state.now.nets = c.as_slice-states.ensures in
    let nets_is : c.as_slice-nets.result.now ≡ c.args.design.now.nets = c.as_slice-nets.ensures in
    let within : c.loop-i.i < length c.args.state.now.nets = rw (c.requires.state.nets, ← nets_is) c.loop-i-test.true in
    walks_stand c.args.design.now c.args.state.now c.requires.state c.loop-i.i c.index-states-i.result
    (net_state-at c.args.state.now c.loop-i.i c.index-states-i.result within (rw states_is at c.index-states-i.is))

pub loop-i-preserved : goal.loop-i-preserved
loop-i-preserved c =
    let text = c.args.text.now in
    let d = c.args.design.now in
    let s = c.args.state.now in
    let i = c.loop-i.i in
    let nets = c.as_slice-nets.result.now in
    let net = c.index-nets-i.result in
    let state = c.index-states-i.result in
    let nets_is : nets ≡ d.nets = c.as_slice-nets.ensures in
    let states_is : c.as_slice-states.result.now ≡ s.nets = c.as_slice-states.ensures in
    let within : i < length s.nets = rw (c.requires.state.nets, ← nets_is) c.loop-i-test.true in
    let closes : AreCloses text nets = rw nets_is c.requires.closes in
    let stands : net_state s i ≡ state = net_state-at s i state within (rw states_is at c.index-states-i.is) in
    let copied : List ℕ = slice_range text c.loop-i.from net.close in
    let wired : List ℕ = wiring_text d.tech (flat_map (walk_strokes d i) state.walks) in
    let rest : List ℕ = routed_from text d s (i + 1) net.close (drop (i + 1) nets) in
    record {
      written =
          ap (λ (t : List ℕ). t ++ rest) c.in_ok-net_wiring.ensures
          ∙ ap (λ (t : List ℕ). (t ++ wired) ++ rest) c.in_ok-bytes.ensures.ok
          ∙ routed_more text d s i c.loop-i.from nets c.loop-i.out net state c.loop-i-test.true c.index-nets-i.is stands
          ∙ c.loop-i.invariant.written;
      ahead = closes_ahead text nets closes i net c.index-nets-i.is;
      within = let h : net.close < length text = close_within text nets closes i net c.index-nets-i.is c.loop-i-test.true in omega (arith, h);
    }

use Rattle.std.proofs.Common.{◌≡◌, ◌∙◌, ◌++◌, ◌+◌, ◌<◌, ℕ, List, All, ap, append_assoc, get_or, length, subst, sym, take}
use Rattle.std.proofs.lemmas.Option.{unwrap_or-slice_get}
use Rattle.std.proofs.lemmas.List.{get_or_read}
use Rattle.rt_base.specs.declared.tech.Shape.{Shape}
use Rattle.rt_base.specs.declared.walk.Walk.{Walk}
use Rattle.track_graph.specs.declared.history.NetState.{NetState}
use Rattle.track_graph.specs.NetWalks.{IsWalkOf}
use Rattle.track_graph.specs.States.{every_net, net_shapes, net_state, standing_from}
use Rattle.track_graph.proofs.StateLemmas.{blank}
use Rattle.std.specs.List.{flat_map}
use Rattle.track_graph.specs.Walks.{walk_shapes_of}
use Rattle.standing_shapes.specs.Standing.{AreAdded}
use Rattle.standing_shapes.proofs.Counts.{AreAdded-append}
use Rattle.standing_shapes.proofs.StandingLemmas.{standing-more}
use Rattle.standing_shapes.proofs.put.add_state.Goals as goal

pub add_walks-requires-clause-walks : goal.add_walks-requires-clause-walks
add_walks-requires-clause-walks g c =
    let n : ℕ = c.loop-number.number in
    let own : NetState = c.net-item.result in
    let nets : List NetState = c.args.state.now.nets in
    let within : n < length nets = subst (λ (xs : List NetState). n < length xs) c.as_slice-net-items.ensures c.loop-number-test.true in
    let read : own ≡ get_or nets n own = subst (λ (xs : List NetState). own ≡ get_or xs n own) c.as_slice-net-items.ensures c.net-item.is in
    let same : net_state c.args.state.now n ≡ own = unwrap_or-slice_get nets n blank ∙ sym (get_or_read nets n own within read blank) in
    subst (λ (ws : List Walk). All (IsWalkOf c.args.design.now n) ws) (ap (λ (x : NetState). x.walks) same ∙ sym c.as_slice-in-loop-number.ensures) (c.requires.state.walks n)

pub loop-number-preserved : goal.loop-number-preserved
loop-number-preserved g c =
    let n : ℕ = c.loop-number.number in
    let own : NetState = c.net-item.result in
    let fixed : List Shape = c.args.design.now.fixed in
    let first : List Shape = g.S.ShapeStore.shapes c.args.store.now in
    let then : List Shape = g.S.ShapeStore.shapes c.loop-number.store in
    let last : List Shape = g.S.ShapeStore.shapes c.add_walks.new.store in
    let nets : List NetState = c.args.state.now.nets in
    let before : List Shape = standing_from c.args.design.now every_net 0 (take n nets) in
    let within : n < length nets = subst (λ (xs : List NetState). n < length xs) c.as_slice-net-items.ensures c.loop-number-test.true in
    let read : own ≡ get_or nets n own = subst (λ (xs : List NetState). own ≡ get_or xs n own) c.as_slice-net-items.ensures c.net-item.is in
    let after : fixed ++ standing_from c.args.design.now every_net 0 (take (n + 1) nets) ≡ (fixed ++ before) ++ net_shapes c.args.design.now n own =
    ap (λ (ss : List Shape). fixed ++ ss) (standing-more c.args.design.now nets n own within read) ∙ sym (append_assoc fixed before (net_shapes c.args.design.now n own)) in
    let added : AreAdded (net_shapes c.args.design.now n own) then last =
    subst (λ (ws : List Walk). AreAdded (flat_map (walk_shapes_of c.args.design.now n) ws) then last) c.as_slice-in-loop-number.ensures (c.in_ok-add_walks.ensures) in
    subst (λ (ss : List Shape). AreAdded ss first last) (sym after)
    (AreAdded-append (fixed ++ before) (net_shapes c.args.design.now n own) first then last c.loop-number.invariant added)

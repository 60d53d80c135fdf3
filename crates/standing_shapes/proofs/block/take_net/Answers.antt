use Rattle.std.proofs.Common.{◌≡◌, ◌∙◌, ℕ, ◌+◌, ◌<◌, List, [], All, Contains, IsTrue, ◌↔◌, ap, length, subst, sym, false, arith}
use Rattle.std.specs.List.{flat_map, sum_by}
use Rattle.std.proofs.lemmas.Bool.{false≢true}
use Rattle.std.proofs.lemmas.Result.{on_ok_weaker}
use Rattle.rt_base.specs.declared.tech.Shape.{Shape}
use Rattle.rt_base.specs.declared.walk.Walk.{Walk}
use Rattle.track_graph.specs.declared.history.NetState.{NetState}
use Rattle.track_graph.specs.declared.history.State.{State}
use Rattle.track_graph.specs.NetWalks.{IsWalkOf}
use Rattle.track_graph.specs.States.{emptied, emptied_net, net_state, with_net}
use Rattle.track_graph.specs.Walks.{walk_shapes_of}
use Rattle.track_graph.proofs.StateLemmas.{emptied-has_none, emptied-others, emptied-push, length-emptied}
use Rattle.standing_shapes.specs.Standing.{AreAdded, AreAmong, AreShapesOf}
use Rattle.standing_shapes.proofs.StandingLemmas.{shapes-emptied_net, shapes-of_net, shapes-with_net}
use Rattle.standing_shapes.proofs.block.take_net.Goals as goal

-- a net that is emptied already leaves the shapes
emptied_already : (d : _) (t : State) (n : ℕ) (shapes : List Shape) → n < length t.nets → (net_state t n).walks ≡ [] → AreShapesOf d t shapes → AreShapesOf d (with_net t n (emptied_net (net_state t n))) shapes
emptied_already d t n shapes l none are =
    shapes-with_net d t n (emptied_net (net_state t n)) shapes shapes l are
    (λ measure. ap (λ (ws : List Walk). sum_by measure shapes + sum_by measure (flat_map (walk_shapes_of d n) ws)) none)

pub returns-then-is_among : goal.returns-then-is_among
returns-then-is_among g c =
    let s : State = c.args.state.now in
    let gone : List ℕ = c.args.gone.now in
    let n : ℕ = c.args.net in
    let shapes : List Shape = g.S.ShapeStore.shapes c.args.store.now in
    let in_state : n < length s.nets = omega (arith, c.requires.state.nets) in
    let within : n < length (emptied s gone).nets = omega (arith, length-emptied s gone) in
    let has : Contains gone n = c.is_among.ensures.0 c.if-is_among.true in
    subst (λ (t : State). AreShapesOf c.args.design.now t shapes) (sym (emptied-push s gone n))
    (emptied_already c.args.design.now (emptied s gone) n shapes within (emptied-has_none s n gone in_state has) c.requires.stored)

pub take_walks-requires-clause-walks : goal.take_walks-requires-clause-walks
take_walks-requires-clause-walks g c =
    subst (λ (ws : List Walk). All (IsWalkOf c.args.design.now c.args.net) ws) (sym c.walks_of.ensures) (c.requires.state.walks c.args.net)

-- what stands of a net that isn't among these stands when they are emptied
stands_still : (s : State) (gone : List ℕ) (n : ℕ) (among : _) → (IsTrue among ↔ Contains gone n) → among ≡ false → net_state (emptied s gone) n ≡ net_state s n
stands_still s gone n among is absent = emptied-others s gone n (λ has. absurd (false≢true (sym absent ∙ is.1 has)))

pub take_walks-requires-clause-among : goal.take_walks-requires-clause-among
take_walks-requires-clause-among g c =
    let s : State = c.args.state.now in
    let gone : List ℕ = c.args.gone.now in
    let n : ℕ = c.args.net in
    let shapes : List Shape = g.S.ShapeStore.shapes c.args.store.now in
    let within : n < length (emptied s gone).nets = omega (arith, length-emptied s gone, c.requires.state.nets) in
    let same : net_state (emptied s gone) n ≡ net_state s n = stands_still s gone n c.is_among.result c.is_among.ensures c.if-is_among.false in
    subst (λ (ws : List Walk). AreAmong (flat_map (walk_shapes_of c.args.design.now n) ws) shapes)
    (ap (λ (x : NetState). x.walks) same ∙ sym c.walks_of.ensures)
    (shapes-of_net c.args.design.now (emptied s gone) n shapes within c.requires.stored)

pub returns : goal.returns
returns g c =
    let s : State = c.args.state.now in
    let gone : List ℕ = c.args.gone.now in
    let n : ℕ = c.args.net in
    let old : List Shape = g.S.ShapeStore.shapes c.args.store.now in
    let new : List Shape = g.S.ShapeStore.shapes c.take_walks.new.store in
    let within : n < length (emptied s gone).nets = omega (arith, length-emptied s gone, c.requires.state.nets) in
    let same : net_state (emptied s gone) n ≡ net_state s n = stands_still s gone n c.is_among.result c.is_among.ensures c.if-is_among.false in
    on_ok_weaker c.take_walks.result
    (λ (taken : AreAdded (flat_map (walk_shapes_of c.args.design.now n) c.walks_of.result.now) new old).
    subst (λ (t : State). AreShapesOf c.args.design.now t new) (sym (emptied-push s gone n))
    (shapes-emptied_net c.args.design.now (emptied s gone) n old new within c.requires.stored
    (subst (λ (ws : List Walk). AreAdded (flat_map (walk_shapes_of c.args.design.now n) ws) new old) (c.walks_of.ensures ∙ sym (ap (λ (x : NetState). x.walks) same)) taken)))
    c.take_walks.ensures

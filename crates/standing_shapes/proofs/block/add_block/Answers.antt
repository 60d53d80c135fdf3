use Rattle.std.proofs.Common.{ℕ, ◌<◌, List, length, subst, sym, arith}
use Rattle.std.proofs.lemmas.Result.{on_ok_weaker}
use Rattle.rt_base.specs.declared.tech.Shape.{Shape}
use Rattle.track_graph.specs.declared.history.Block.{Block}
use Rattle.track_graph.specs.declared.history.Block.TheVariants.{Wire, Stuck, RipFor}
use Rattle.track_graph.specs.declared.history.State.{State}
use Rattle.track_graph.specs.Conditions.{IsBlockOf}
use Rattle.track_graph.specs.States.{after, emptied}
use Rattle.track_graph.specs.Walks.{walk_shapes_of}
use Rattle.track_graph.proofs.StateLemmas.{length-emptied}
use Rattle.standing_shapes.specs.Standing.{AreAdded, AreShapesOf}
use Rattle.standing_shapes.proofs.StandingLemmas.{shapes-with_mark, shapes-with_walk}
use Rattle.standing_shapes.proofs.block.add_block.Goals as goal

pub returns-in-Wire : goal.returns-in-Wire
returns-in-Wire g c =
    let s : State = c.args.state.now in
    let b : IsBlockOf c.args.design.now (Wire c.in-Wire.net c.in-Wire.walk) = subst (IsBlockOf c.args.design.now) c.in-Wire.is c.requires.block in
    let within : c.in-Wire.net < length s.nets = omega (arith, b.net_walk.net, c.requires.state.nets) in
    on_ok_weaker c.add_walk.result
    (λ (added : AreAdded (walk_shapes_of c.args.design.now c.in-Wire.net c.in-Wire.walk) (g.S.ShapeStore.shapes c.args.store.now) (g.S.ShapeStore.shapes c.add_walk.new.store)).
    subst (λ (x : Block). AreShapesOf c.args.design.now (after s x) (g.S.ShapeStore.shapes c.add_walk.new.store)) (sym c.in-Wire.is)
    (shapes-with_walk c.args.design.now s c.in-Wire.net c.in-Wire.walk (g.S.ShapeStore.shapes c.args.store.now) (g.S.ShapeStore.shapes c.add_walk.new.store) within c.requires.stored added))
    c.add_walk.ensures

pub returns-in-Stuck : goal.returns-in-Stuck
returns-in-Stuck g c =
    let s : State = c.args.state.now in
    let b : IsBlockOf c.args.design.now (Stuck c.in-Stuck.net) = subst (IsBlockOf c.args.design.now) c.in-Stuck.is c.requires.block in
    let within : c.in-Stuck.net < length s.nets = omega (arith, b, c.requires.state.nets) in
    subst (λ (x : Block). AreShapesOf c.args.design.now (after s x) (g.S.ShapeStore.shapes c.args.store.now)) (sym c.in-Stuck.is)
    (shapes-with_mark c.args.design.now s c.in-Stuck.net (g.S.ShapeStore.shapes c.args.store.now) within c.requires.stored)

pub returns-in_ok-take_nets-in-RipFor : goal.returns-in_ok-take_nets-in-RipFor
returns-in_ok-take_nets-in-RipFor g c =
    let s : State = c.args.state.now in
    let ripped : List ℕ = c.in-RipFor.ripped in
    let b : IsBlockOf c.args.design.now (RipFor c.in-RipFor.net c.in-RipFor.soft ripped c.in-RipFor.walk) = subst (IsBlockOf c.args.design.now) c.in-RipFor.is c.requires.block in
    let within : c.in-RipFor.net < length (emptied s ripped).nets = omega (arith, b.walk.net_walk.net, c.requires.state.nets, length-emptied s ripped) in
    let then : List Shape = g.S.ShapeStore.shapes c.take_nets.new.store in
    let last : List Shape = g.S.ShapeStore.shapes c.add_walk-in-RipFor.new.store in
    let gone : AreShapesOf c.args.design.now (emptied s ripped) then =
    subst (λ (ns : List ℕ). AreShapesOf c.args.design.now (emptied s ns) then) c.as_slice.ensures c.in_ok-take_nets-in-RipFor.ensures in
    on_ok_weaker c.add_walk-in-RipFor.result
    (λ (added : AreAdded (walk_shapes_of c.args.design.now c.in-RipFor.net c.in-RipFor.walk) then last).
    subst (λ (x : Block). AreShapesOf c.args.design.now (after s x) last) (sym c.in-RipFor.is)
    (shapes-with_walk c.args.design.now (emptied s ripped) c.in-RipFor.net c.in-RipFor.walk then last within gone added))
    c.add_walk-in-RipFor.ensures

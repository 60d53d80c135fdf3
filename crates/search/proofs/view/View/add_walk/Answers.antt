use Rattle.std.proofs.Common.{ℕ, cond, nat_eq, ◌≡◌, ◌∙◌, List, All, sym, subst, arith, Some}
use Rattle.std.specs.List.{AllZip}
use Rattle.rt_base.specs.declared.tech.Shape.{Shape}
use Rattle.search.specs.Changes.{HasGained}
use Rattle.search.specs.Tables.{entry_of}
use Rattle.search.proofs.StateChanges.{HasTurned, IsTurned, add-turns, add-upright, turned-same, turned-view, view-turned, where-ok, with_one}
use Rattle.shape_grid.specs.Tiling.{IsUpright}
use Rattle.track_graph.specs.States.{net_state}
use Rattle.track_graph.specs.Walks.{walk_shapes_of}
use Rattle.track_graph.specs.declared.history.NetState.{NetState}
use Rattle.track_graph.proofs.StateLemmas.{with_walk-kept}
use Rattle.search.proofs.view.View.add_walk.Goals as goal

-- the net that got the walk is as it is now, and the others are as before
turns : (c : goal.After-drop-shapes-2) → ((m : ℕ) → entry_of c.put_back.new.self.nets m ≡ cond (nat_eq c.args.net m) (Some c.in_ok-with_walk.field-0) (entry_of c.add_shapes.new.self.nets m))
    → ((m : ℕ) → entry_of c.put_back.new.self.rips m ≡ cond (nat_eq c.args.net m) (Some c.in_ok-with_walk.field-0.rips) (entry_of c.add_shapes.new.self.rips m))
    → IsTurned c.args.design.now c.args.net c.take_net-own.result c.in_ok-with_walk.field-0 c.args.self.now c.put_back.new.self
turns c nets rips =
    let d = c.args.design.now in
    let n = c.args.net in
    let w = c.args.walk in
    let own = c.take_net-own.result in
    let has = c.in_ok-with_walk.field-0 in
    let taken = c.take_net-own.new.self in
    let mid = c.add_shapes.new.self in
    let shapes : c.as_slice-2.result.now ≡ walk_shapes_of d n w = c.as_slice-2.ensures.value ∙ c.in_ok-shapes.ensures in
    let has_is : has ≡ with_one own w = c.in_ok-with_walk.ensures in
    let pieces : AllZip (HasTurned d n own has) taken.pieces mid.pieces =
    subst (λ (net : NetState). AllZip (HasTurned d n own net) taken.pieces mid.pieces) (sym has_is)
    (add-turns d n own w taken.pieces mid.pieces (subst (λ (ss : List Shape). AllZip (HasGained d.grid ss) taken.pieces mid.pieces) shapes c.in_ok-add_shapes.ensures.pieces)) in
    turned-view d n own has c.args.self.now taken mid c.put_back.new.self c.take_net-own.ensures.pieces c.take_net-own.ensures.rips c.take_net-own.ensures.rest pieces c.add_shapes.ensures.nets c.add_shapes.ensures.rips c.put_back.ensures.pieces nets rips

pub returns-clause-stands : goal.returns-clause-stands
returns-clause-stands c =
    let d = c.args.design.now in
    let n = c.args.net in
    let w = c.args.walk in
    let own = c.take_net-own.result in
    let old = c.args.self.now in
    let now = c.put_back.new.self in
    let shapes : c.as_slice.result.now ≡ walk_shapes_of d n w = c.as_slice.ensures.value ∙ c.in_ok-shapes.ensures in
    let has_is : c.in_ok-with_walk.field-0 ≡ with_one own w = c.in_ok-with_walk.ensures in
    where-ok c.put_back.result
    (λ nets rips. λ s stood.
    let own_is : own ≡ net_state s n = stood.of_nets n own c.take_net-own.ensures.value in
    let turned : IsTurned d n (net_state s n) (with_one (net_state s n) w) old now =
    subst (λ (x : NetState). IsTurned d n x (with_one x w) old now) own_is (subst (λ (x : NetState). IsTurned d n own x old now) has_is (turns c nets rips)) in
    view-turned d s n (with_one (net_state s n) w) old now (omega (arith, c.requires.walk.net_walk.net, stood.of_design.nets)) (with_walk-kept d s n w stood.of_design c.requires.walk) stood turned
    (add-upright d n (net_state s n) w (subst (λ (ss : List Shape). All (λ (b : Shape). IsUpright b.rect) ss) shapes c.look_at.ensures)))
    c.put_back.ensures.nets c.put_back.ensures.rips

pub returns-clause-keeps : goal.returns-clause-keeps
returns-clause-keeps c =
    where-ok c.put_back.result
    (λ nets rips. turned-same c.args.design.now c.args.net c.take_net-own.result c.in_ok-with_walk.field-0 c.args.self.now c.put_back.new.self c.requires.net (turns c nets rips))
    c.put_back.ensures.nets c.put_back.ensures.rips

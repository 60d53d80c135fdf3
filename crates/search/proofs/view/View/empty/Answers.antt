use Rattle.std.proofs.Common.{ℕ, cond, nat_eq, ◌≡◌, ◌∙◌, ◌∷◌, [], List, All, ap, flat_map, filter, refl, sym, subst, arith, Some}
use Rattle.std.specs.List.{AllZip, sum_by}
use Rattle.std.proofs.lemmas.List.Elements.{All-cons, All-nil}
use Rattle.rt_base.specs.declared.tech.Shape.{Shape}
use Rattle.rt_base.specs.declared.walk.Walk.{Walk}
use Rattle.search.specs.Changes.{AllLost}
use Rattle.search.specs.Views.{is_on}
use Rattle.search.specs.Tables.{entry_of}
use Rattle.search.specs.declared.piece.Piece.{Piece}
use Rattle.search.proofs.Masks.{failing}
use Rattle.search.proofs.OnTiles.{is_upright}
use Rattle.search.proofs.StateChanges.{HasTurned, IsTurned, among-pieces, empty-turns, turned-same, turned-view, view-turned, where-ok}
use Rattle.standing_shapes.specs.Standing.{AreAmong}
use Rattle.track_graph.specs.Conditions.{IsNetOf}
use Rattle.track_graph.specs.NetWalks.{IsWalkOf}
use Rattle.track_graph.specs.States.{emptied_net, net_shapes, net_state}
use Rattle.track_graph.specs.Walks.{walk_shapes_of}
use Rattle.track_graph.specs.declared.history.NetState.{NetState}
use Rattle.track_graph.proofs.StateLemmas.{emptied-kept}
use Rattle.search.proofs.view.View.empty.Goals as goal

pub shapes_of_walks-requires-clause-walks : goal.shapes_of_walks-requires-clause-walks
shapes_of_walks-requires-clause-walks c =
    let s = c.requires.state.0 in
    let stood = c.requires.state.1 in
    let own_is : c.take_net-own.result ≡ net_state s c.args.net = stood.of_nets c.args.net c.take_net-own.result c.take_net-own.ensures.value in
    subst (λ (ws : List Walk). All (IsWalkOf c.args.design.now c.args.net) ws) (sym (c.as_slice.ensures ∙ ap (λ (own : NetState). own.walks) own_is)) (stood.of_design.walks c.args.net)

pub take_shapes-requires-clause-among : goal.take_shapes-requires-clause-among
take_shapes-requires-clause-among c =
    let d = c.args.design.now in
    let n = c.args.net in
    let s = c.requires.state.0 in
    let stood = c.requires.state.1 in
    let own_is : c.take_net-own.result ≡ net_state s n = stood.of_nets n c.take_net-own.result c.take_net-own.ensures.value in
    let shapes : c.as_slice-2.result.now ≡ net_shapes d n (net_state s n) =
    c.as_slice-2.ensures.value ∙ c.in_ok-shapes.ensures ∙ ap (flat_map (walk_shapes_of d n)) (c.as_slice.ensures ∙ ap (λ (own : NetState). own.walks) own_is) in
    subst (λ (ps : List Piece). All (λ (p : Piece). AreAmong (filter (is_on d.grid p.no) c.as_slice-2.result.now) p.tile) ps) (sym c.take_net-own.ensures.pieces)
    (subst (λ (ss : List Shape). All (λ (p : Piece). AreAmong (filter (is_on d.grid p.no) ss) p.tile) c.args.self.now.pieces) (sym shapes)
    (among-pieces d s c.args.self.now n (omega (arith, c.requires.is_net, stood.of_design.nets)) stood))

-- the net is emptied, and the others are as before
turns : (c : goal.After-drop-shapes-2) → ((m : ℕ) → entry_of c.put_back.new.self.nets m ≡ cond (nat_eq c.args.net m) (Some c.empty.new.self) (entry_of c.take_shapes.new.self.nets m))
    → ((m : ℕ) → entry_of c.put_back.new.self.rips m ≡ cond (nat_eq c.args.net m) (Some c.empty.new.self.rips) (entry_of c.take_shapes.new.self.rips m))
    → IsTurned c.args.design.now c.args.net c.take_net-own.result c.empty.new.self c.args.self.now c.put_back.new.self
turns c nets rips =
    let d = c.args.design.now in
    let n = c.args.net in
    let own = c.take_net-own.result in
    let has = c.empty.new.self in
    let taken = c.take_net-own.new.self in
    let mid = c.take_shapes.new.self in
    let shapes : c.as_slice-2.result.now ≡ net_shapes d n own = c.as_slice-2.ensures.value ∙ c.in_ok-shapes.ensures ∙ ap (flat_map (walk_shapes_of d n)) c.as_slice.ensures in
    let pieces : AllZip (HasTurned d n own has) taken.pieces mid.pieces =
    subst (λ (net : NetState). AllZip (HasTurned d n own net) taken.pieces mid.pieces) (sym c.empty.ensures)
    (empty-turns d n own taken.pieces mid.pieces (subst (λ (ss : List Shape). AllLost d.grid ss taken.pieces mid.pieces) shapes c.in_ok-take_shapes.ensures.pieces)) in
    turned-view d n own has c.args.self.now taken mid c.put_back.new.self c.take_net-own.ensures.pieces c.take_net-own.ensures.rips c.take_net-own.ensures.rest pieces c.take_shapes.ensures.nets c.take_shapes.ensures.rips c.put_back.ensures.pieces nets rips

pub returns-clause-stands : goal.returns-clause-stands
returns-clause-stands c =
    let d = c.args.design.now in
    let n = c.args.net in
    let own = c.take_net-own.result in
    let old = c.args.self.now in
    let now = c.put_back.new.self in
    where-ok c.put_back.result
    (λ nets rips. λ s stood.
    let own_is : own ≡ net_state s n = stood.of_nets n own c.take_net-own.ensures.value in
    let turned : IsTurned d n (net_state s n) (emptied_net (net_state s n)) old now =
    subst (λ (x : NetState). IsTurned d n x (emptied_net x) old now) own_is (subst (λ (x : NetState). IsTurned d n own x old now) c.empty.ensures (turns c nets rips)) in
    let nothing : sum_by (failing is_upright) (net_shapes d n (emptied_net (net_state s n))) ≡ 0 = refl in
    view-turned d s n (emptied_net (net_state s n)) old now (omega (arith, c.requires.is_net, stood.of_design.nets)) (emptied-kept d s (n ∷ []) stood.of_design (All-cons (IsNetOf d) n [] c.requires.is_net (All-nil (IsNetOf d)))) stood turned (omega (arith, nothing)))
    c.put_back.ensures.nets c.put_back.ensures.rips

pub returns-clause-keeps : goal.returns-clause-keeps
returns-clause-keeps c =
    where-ok c.put_back.result
    (λ nets rips. turned-same c.args.design.now c.args.net c.take_net-own.result c.empty.new.self c.args.self.now c.put_back.new.self c.requires.net (turns c nets rips))
    c.put_back.ensures.nets c.put_back.ensures.rips

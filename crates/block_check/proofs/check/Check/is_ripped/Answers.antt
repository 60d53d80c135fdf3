use Rattle.std.proofs.Common.{rules, ◌≡◌, ◌≢◌, ◌∙◌, ℕ, List, [], sym}
use Rattle.crossed_nets.proofs.Wires.{crossed-nets_of}
use Rattle.plain_route.proofs.CountLemmas.{ripped_in}
use Rattle.plain_route.proofs.StockLaw.{stored-stands}
use Rattle.track_graph.specs.Histories.{crossed_from}
use Rattle.block_check.proofs.Stored.{stored-ground}
use Rattle.block_check.proofs.check.Check.is_ripped.Goals as goal

pub crossed-requires-clause-ground : goal.crossed-requires-clause-ground
crossed-requires-clause-ground g c = stored-ground c.args.self.now.design.now c.args.self.now.standing.state.now c.args.self.now.net (g.S.ShapeStore.shapes c.args.self.now.standing.store.now) c.of_net.result.now c.requires.check c.of_net.ensures

pub returns : goal.returns
returns g c =
    let d = c.args.self.now.design.now in
    let s = c.args.self.now.standing.state.now in
    let n = c.args.self.now.net in
    let shapes = g.S.ShapeStore.shapes c.args.self.now.standing.store.now in
    let nets : List ℕ = c.in_ok-nets.nets in
    let crossed : nets ≡ crossed_from d n c.args.soft.now 0 s.nets = crossed-nets_of d s n c.args.soft.now shapes (ripped_in s) nets c.requires.check.design (stored-stands d s shapes c.requires.check.stored) c.in_ok-nets.ensures in
    let some : c.args.ripped.now ≢ [] = search rules in (
      λ yes. record { exactly = sym c.as_slice.ensures ∙ c.are_same.ensures.0 yes ∙ c.as_slice-2.ensures ∙ crossed; some = some },
      λ h. c.are_same.ensures.1 (c.as_slice.ensures ∙ h.exactly ∙ sym crossed ∙ sym c.as_slice-2.ensures),
    )

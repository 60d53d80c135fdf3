use Rattle.track_graph.specs.Readings.{soft_reading}
use Rattle.track_graph.specs.Searches.{IsLeast}
use Rattle.track_graph.specs.States.{net_state}
use Rattle.track_graph.proofs.WalkLemmas.{walk_in_state}
use Rattle.block_check.proofs.check.Check.must_rip.Goals as goal

pub is_ripped-requires-clause-walk : goal.is_ripped-requires-clause-walk
is_ripped-requires-clause-walk g c =
    let d = c.args.self.now.design.now in
    let s = c.args.self.now.standing.state.now in
    let n = c.args.self.now.net in
    let least : IsLeast d n (net_state s n) (soft_reading d s n) c.args.soft.now = c.in_ok-is_least.ensures.0 c.if-not-branch-2.false in
    (walk_in_state d s n c.args.soft.now c.requires.design c.requires.state c.requires.net least.legal.walk).net_walk

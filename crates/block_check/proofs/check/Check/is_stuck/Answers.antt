use Rattle.track_graph.specs.Readings.{hard_reading}
use Rattle.track_graph.specs.Searches.{NoneLegal}
use Rattle.track_graph.specs.States.{net_state}
use Rattle.block_check.proofs.Stored.{tests-same}
use Rattle.block_check.proofs.check.Check.is_stuck.Goals as goal

pub returns : goal.returns
returns g c =
    let d = c.args.self.now.design.now in
    let s = c.args.self.now.standing.state.now in
    let n = c.args.self.now.net in
    let none : NoneLegal d n (net_state s n) (hard_reading d s) = c.in_ok-has_none.ensures.0 c.if-not-branch.false in
    tests-same c.has_none-2.result (λ soft. (none, soft), λ h. h.1) c.has_none-2.ensures

use Rattle.std.proofs.Common.{◌≡◌, List, Any, IsTrue, subst}
use Rattle.std.proofs.lemmas.Bool.{both_ways}
use Rattle.track_graph.specs.Metal.{Metal}
use Rattle.regions.specs.Halo.{IsGreatest, IsReachOf, farthest}
use Rattle.regions.proofs.Greatest.{greatest_none, greatest_same}
use Rattle.regions.proofs.margin.via_reach.Goals as goal

pub returns-then-not-via : goal.returns-then-not-via
returns-then-not-via c = greatest_none (λ v. IsTrue c.args.via.now.usable × IsReachOf c.args.via.now v) (λ v h. both_ways _ c.if-not-via.true h.0)

pub returns : goal.returns
returns c =
    let via = c.args.via.now in
    let reach = subst (λ (rs : List Metal). IsGreatest (λ v. Any (λ (r : Metal). v ≡ farthest r.1) rs) c.rects_reach.result) c.as_slice.ensures c.rects_reach.ensures in
    greatest_same (IsReachOf via) (λ v. IsTrue via.usable × IsReachOf via v) c.rects_reach.result (λ v h. (c.if-not-via.false, h)) (λ v h. h.1) reach

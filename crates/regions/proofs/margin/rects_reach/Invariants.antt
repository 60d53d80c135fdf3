use Rattle.std.proofs.Common.{◌≡◌, take, Any}
use Rattle.track_graph.specs.Metal.{Metal}
use Rattle.regions.specs.Halo.{IsGreatest, farthest}
use Rattle.regions.proofs.margin.rects_reach.Given as goal

abbrev pub invariant-loop-metal : goal.invariant-loop-metal
invariant-loop-metal l = IsGreatest (λ v. Any (λ (r : Metal). v ≡ farthest r.1) (take l.metal-index l.rects)) l.most

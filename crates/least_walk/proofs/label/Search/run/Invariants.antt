use Rattle.least_walk.specs.Search.{open_count}
use Rattle.least_walk.specs.Ends.{IsUnderway}
use Rattle.least_walk.proofs.label.Search.run.Given as goal

abbrev pub invariant-steps : goal.invariant-steps
invariant-steps g l = IsUnderway (g.G.Graph.vertices l.graph) (g.G.Graph.HasEdge l.graph) (g.G.Graph.bound_of l.graph) l.sources l.targets l.self l.best

abbrev pub decreases-steps : goal.decreases-steps
decreases-steps g l = open_count l.self.settled.items l.self.known (g.G.Graph.vertices l.graph)

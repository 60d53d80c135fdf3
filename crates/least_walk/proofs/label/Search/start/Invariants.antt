use Rattle.least_walk.specs.Search.{IsStarted}
use Rattle.least_walk.proofs.label.Search.start.Given as goal

abbrev pub invariant-loop-place : goal.invariant-loop-place
invariant-loop-place g l = IsStarted (g.G.Graph.vertices l.graph) (g.G.Graph.HasEdge l.graph) (g.G.Graph.bound_of l.graph) l.sources l.place l.self

use Rattle.least_walk.specs.Flood.{IsFloodFrom}
use Rattle.least_walk.proofs.flood.Flood.is_cut_off.Given as goal

abbrev pub invariant-loop-place : goal.invariant-loop-place
invariant-loop-place g l = IsFloodFrom (g.G.Graph.vertices l.graph) (g.G.Graph.HasEdge l.graph) l.met l.targets l.place l.self

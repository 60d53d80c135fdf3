use Rattle.std.proofs.Common.{take}
use Rattle.least_walk.specs.Flood.{Spreads}
use Rattle.least_walk.proofs.flood.Flood.spread.Given as goal

abbrev pub invariant-loop-edge : goal.invariant-loop-edge
invariant-loop-edge g l = Spreads (g.G.Graph.vertices l.graph) (g.G.Graph.HasEdge l.graph) l.met l.from (take l.edge-index l.edges) l.fn.self l.self

use Rattle.std.proofs.Common.{take}
use Rattle.least_walk.specs.Flood.{IsFlood, AreKnown}
use Rattle.least_walk.proofs.flood.Flood.start.Given as goal

abbrev pub invariant-loop-target : goal.invariant-loop-target
invariant-loop-target g l = record {
  flood : IsFlood (g.G.Graph.vertices l.graph) l.met l.self;
  known : AreKnown l.self.reached (take l.target-index l.targets);
}

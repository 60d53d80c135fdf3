use Rattle.std.proofs.Common.{◌^◌, arith}
use Rattle.rt_base.specs.Geometry.{hull_of}
use Rattle.rt_base.proofs.Ranges.{hull_within, sides-weaker}
use Rattle.track_graph.proofs.shapes.wire_shape.Goals as goal

pub grown-requires-clause-rect : goal.grown-requires-clause-rect
grown-requires-clause-rect c = rw c.hull.ensures (sides-weaker (2 ^ 32) (2 ^ 61) (hull_of c.args.p c.args.q) (omega arith) (hull_within _ c.args.p c.args.q c.requires.p c.requires.q))

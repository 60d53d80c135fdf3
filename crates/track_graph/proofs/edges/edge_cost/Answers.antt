use Rattle.std.proofs.Common.{arith}
use Rattle.track_graph.proofs.ShapeLemmas.{vertex_within, distance_within}
use Rattle.track_graph.proofs.edges.edge_cost.Goals as goal

pub distance-requires : goal.distance-requires
distance-requires c =
    let design = c.args.design.now in
    omega (arith, distance_within c.args.v.point c.args.e.now.to.point (vertex_within design _ c.requires.design c.requires.edge.start) (vertex_within design _ c.requires.design c.requires.edge.end))

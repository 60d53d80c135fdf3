use Rattle.std.proofs.Common.{◌≡◌, ◌^◌, ◌<◌, length, sym, subst}
use Rattle.rt_base.specs.Ranges.{AreSidesWithin}
use Rattle.rt_base.specs.declared.tech.Shape.{Shape}
use Rattle.track_graph.specs.Metal.{shape_of, wire_metal}
use Rattle.track_graph.proofs.ShapeLemmas.{vertex_within}
use Rattle.plain_route.proofs.FitLemmas.{wire_fits}
use Rattle.plain_route.proofs.ground.Ground.edge_meets.Goals as goal

pub meets-requires-clause-layer : goal.meets-requires-clause-layer
meets-requires-clause-layer g c =
    let d = c.args.self.now.design.now in
    let e = c.requires.edge in
    let is : c.wire_shape-shape.result ≡ shape_of c.args.self.now.net (wire_metal d.tech c.args.v.level c.args.v.point c.args.e.now.to.point) = c.wire_shape-shape.ensures in
    subst (λ (a : Shape). a.layer.0 < length d.tech.layers) (sym is)
    (wire_fits d.tech c.args.self.now.net c.args.v.level c.args.v.point c.args.e.now.to.point c.requires.ground.design.tech e.start.level (vertex_within d c.args.v c.requires.ground.design e.start) (vertex_within d c.args.e.now.to c.requires.ground.design e.end)).layer

pub meets-requires-clause-sides : goal.meets-requires-clause-sides
meets-requires-clause-sides g c =
    let d = c.args.self.now.design.now in
    let e = c.requires.edge in
    let is : c.wire_shape-shape.result ≡ shape_of c.args.self.now.net (wire_metal d.tech c.args.v.level c.args.v.point c.args.e.now.to.point) = c.wire_shape-shape.ensures in
    subst (λ (a : Shape). AreSidesWithin (2 ^ 61) a.rect) (sym is)
    (wire_fits d.tech c.args.self.now.net c.args.v.level c.args.v.point c.args.e.now.to.point c.requires.ground.design.tech e.start.level (vertex_within d c.args.v c.requires.ground.design e.start) (vertex_within d c.args.e.now.to c.requires.ground.design e.end)).sides

use Rattle.std.proofs.Common.{◌≡◌, ◌↔◌, to_z, of_z, w64, rules, IsTrue, ◌∙◌}
use Rattle.std.proofs.lemmas.Int.{to_z-of_z}
use Rattle.track_graph.specs.Edges.{AreNeighbours}
use Rattle.track_graph.specs.Levels.{positions_of, along, line_of}
use Rattle.track_graph.proofs.edges.is_along_edge.Goals as goal

pub returns : goal.returns
returns c =
    let d = c.args.design.now in
    let from : to_z w64 (of_z w64 c.along_of-from.result) ≡ along d.tech c.args.v.level c.args.v.point = to_z-of_z w64 _ (search rules) ∙ c.along_of-from.ensures in
    let to : to_z w64 (of_z w64 c.along_of-to.result) ≡ along d.tech c.args.v.level c.args.w.point = to_z-of_z w64 _ (search rules) ∙ c.along_of-to.ensures in
    let near : IsTrue c.are_neighbours.result ↔ AreNeighbours (positions_of d.tracks c.args.v.level) (along d.tech c.args.v.level c.args.v.point) (along d.tech c.args.v.level c.args.w.point) = rw (from, to) at c.are_neighbours.ensures in
    let same_line : line_of d.tech c.args.v.level c.args.v.point ≡ line_of d.tech c.args.v.level c.args.w.point = let h = c.if-line-line_at.false in search rules in
    (λ t. record { level = search rules; line = same_line; neighbours = near.0 t }, λ h. near.1 h.neighbours)

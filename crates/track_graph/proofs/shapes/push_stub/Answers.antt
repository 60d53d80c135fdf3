use Rattle.std.proofs.Common.{◌≡◌, ◌++◌, sym, ap, ◌∙◌}
use Rattle.std.proofs.lemmas.List.{map-append}
use Rattle.std.proofs.lemmas.Result.{on_ok_weaker}
use Rattle.track_graph.specs.Entries.{corner_of, piece_metal}
use Rattle.track_graph.specs.Metal.{shape_of, shapes_of}
use Rattle.track_graph.proofs.PathLemmas.{joined}
use Rattle.track_graph.proofs.shapes.push_stub.Goals as goal

pub returns : goal.returns
returns c =
    let turn = corner_of c.args.from c.args.v in
    let first = shapes_of c.args.net (piece_metal c.args.tech.now c.args.v.level c.args.from turn) in
    let last = shapes_of c.args.net (piece_metal c.args.tech.now c.args.v.level turn c.args.v.point) in
    let begun : c.push_piece.new.shapes ≡ c.args.shapes.now ++ first = rw c.corner-turn.ensures at c.in_ok-push_piece.ensures in
    on_ok_weaker {P = c.push_piece-2.new.shapes ≡ c.push_piece.new.shapes ++ last} c.push_piece-2.result
    (λ h. joined c.args.shapes.now c.push_piece.new.shapes c.push_piece-2.new.shapes first last begun h ∙ ap (λ ss. c.args.shapes.now ++ ss) (sym (map-append (shape_of c.args.net) (piece_metal c.args.tech.now c.args.v.level c.args.from turn) (piece_metal c.args.tech.now c.args.v.level turn c.args.v.point))))
    (rw c.corner-turn.ensures at c.push_piece-2.ensures)
